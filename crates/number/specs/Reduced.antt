-- What a fraction of the code stands for.
use Rattle.std.specs.Prelude.{◌≡◌, ℕ, ◌^◌, ◌<◌, cond, List, ◌++◌, codes, decimal, Option, MatchOption, ◌==◌}
use Rattle.std.specs.declared.cmp.Ordering.{Ordering}
use Rattle.std.specs.Ordering.{MatchOrdering}
use Rattle.number.specs.Fraction.{Fraction, over, ◌≈◌, ◌≼◌}
use Rattle.number.specs.declared.fraction.Fraction.{Fraction as Reduced}

-- the value of a fraction of the code
abbrev pub value : Reduced → Fraction
value f = over f.top f.bottom

-- r is the fraction with the value x, and there is none only if no top and bottom below 2 ^ 63 have that value
abbrev pub Fitting : Fraction → Option Reduced → Type 0
Fitting x r = MatchOption r ((a b : ℕ) → 0 < b → a < 2 ^ 63 → b < 2 ^ 63 → over a b ≈ x → ⊥) (λ f. value f ≈ x)

-- below: at most, and not the other way round
abbrev pub Below : Fraction → Fraction → Type 0
Below x y = (x ≼ y) × (y ≼ x → ⊥)

-- r says how x and y stand in the order of numbers
abbrev pub Ordered : Fraction → Fraction → Ordering → Type 0
Ordered x y r = MatchOrdering r (Below x y) (x ≈ y) (Below y x)

-- how a fraction is written: top/bottom in decimal, or the top alone if the bottom is 1
abbrev pub written : Reduced → List ℕ
written f = cond (f.bottom == 1) (decimal f.top) (decimal f.top ++ (codes "/" ++ decimal f.bottom))

-- fractions with the same value are the same
abbrev pub SameFraction : Type 0
SameFraction = (f g : Reduced) → value f ≈ value g → f ≡ g

-- a value has at most one fitting answer
abbrev pub FittingUnique : Type 0
FittingUnique = (x : Fraction) (r s : Option Reduced) → Fitting x r → Fitting x s → r ≡ s
