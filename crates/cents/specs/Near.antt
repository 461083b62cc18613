-- What it is to be less than one cent away. These are definitions: nothing is assumed.
use Rattle.std.specs.Prelude.{ℕ, ◌+◌, ◌*◌, ◌<◌}
use Rattle.number.specs.Fraction.{Fraction, over, ◌⊕◌}
use Rattle.number.specs.Reduced.{Below}

-- a cents are less than one cent away from x / w cents
pub record Near (a x w : ℕ) : Type 0 where
  pub above : a * w < x + w
  pub below : x < a * w + w

-- a cents are less than one cent away from the fraction x
pub record Within (a : ℕ) (x : Fraction) : Type 0 where
  pub above : Below (over a 1) (x ⊕ over 1 1)
  pub below : Below x (over (a + 1) 1)
