-- Fractions with a sign. Assumes nothing: these are definitions.
use Rattle.std.specs.Prelude.{◌≡◌, ℕ, zero, suc, pred, ◌*◌, ◌<◌, ℤ, pos, ◌+ℤ◌, ◌*ℤ◌, ◌≤ℤ◌}
use Rattle.std.proofs.Common.{zero-le, suc-le-suc, mul-pos}

infix 4 ◌≈◌ ◌≼◌
infixl 65 ◌⊕◌
pub record Fraction : Type 0 where
  pub top : ℤ
  pub bottom : ℕ
  pub positive : 0 < bottom

-- a / b; 1 stands for a b of 0, which no line whose parts are all used gives, and no weights that fit it
unfoldable pub over : ℕ → ℕ → Fraction
over a b = record { top = pos a; bottom = suc (pred b); positive = suc-le-suc zero-le }

-- the same number
pub record ◌≈◌ (a b : Fraction) : Type 0 where
  pub crossed : a.top *ℤ pos b.bottom ≡ b.top *ℤ pos a.bottom

-- at most
pub record ◌≼◌ (a b : Fraction) : Type 0 where
  pub crossed : (a.top *ℤ pos b.bottom) ≤ℤ (b.top *ℤ pos a.bottom)

unfoldable pub ◌⊕◌ : Fraction → Fraction → Fraction
a ⊕ b = record { top = a.top *ℤ pos b.bottom +ℤ b.top *ℤ pos a.bottom; bottom = a.bottom * b.bottom; positive = mul-pos a.positive b.positive }

unfoldable pub times : ℕ → Fraction → Fraction
times n a = record { top = pos n *ℤ a.top; bottom = a.bottom; positive = a.positive }

-- f 0 + f 1 + .. + f (n - 1)
unfoldable pub sumF : ℕ → (ℕ → Fraction) → Fraction
sumF zero f = over 0 1
sumF (suc n) f = f n ⊕ sumF n f
