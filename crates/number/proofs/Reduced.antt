-- Which fraction of the code fits a value.
use mathlib.Core.HLevel.{is_prop→PathP}
use Rattle.std.proofs.Common.{◌≡◌, ℕ, ◌*◌, ◌^◌, ◌<◌, Some, None, Option, Ordering, Less, Equal, Greater, refl, ap, arith}
use denote.Struct.Props.{props}
use Rattle.std.specs.Ordering.{MatchOrdering}
use Rattle.number.specs.Fraction.{Fraction, over, ◌≈◌}
use Rattle.number.specs.LowestTerms.{Lowest}
use Rattle.number.specs.Reduced.{Fitting, Ordered, SameFraction, FittingUnique}
use Rattle.number.specs.declared.fraction.Fraction.{Fraction as Reduced}
use Rattle.number.proofs.Fractions.{same_sym, ◌then◌}
use Rattle.number.proofs.Crosswise.{over_cross, over_cross_le, cross_over_le}
use Rattle.number.proofs.LowestTerms.{lowest_unique}

-- two fractions with the same numbers are the same
same_numbers : (f g : Reduced) → f.top ≡ g.top → f.bottom ≡ g.bottom → f ≡ g
same_numbers f g t b =
    λ i. record {
      top = t i;
      bottom = b i;
      positive = is_prop→PathP (λ j. 0 < b j) (λ j. hlevel props) f.positive g.positive i;
      small = is_prop→PathP (λ j. (t j < 2 ^ 63) × (b j < 2 ^ 63)) (λ j. hlevel props) f.small g.small i;
      lowest = is_prop→PathP (λ j. Lowest (t j) (b j)) (λ j. hlevel props) f.lowest g.lowest i;
    }

-- lowest terms are unique
pub same_fraction : SameFraction
same_fraction f g e =
    let same = lowest_unique f.top f.bottom g.top g.bottom f.positive g.positive f.lowest g.lowest e in
    same_numbers f g same.0 same.1

-- a fraction that fits shows that there is one, and no other fits
pub fitting_unique : FittingUnique
fitting_unique x None None p q = refl
fitting_unique x None (Some g) p q = absurd (p g.top g.bottom g.positive g.small.0 g.small.1 q)
fitting_unique x (Some f) None p q = absurd (q f.top f.bottom f.positive f.small.0 f.small.1 p)
fitting_unique x (Some f) (Some g) p q = ap Some (same_fraction f g (p then same_sym q))

-- what fits a value fits it however it is written
pub fitting_same : (x y : Fraction) (r : Option Reduced) → x ≈ y → Fitting x r → Fitting y r
fitting_same x y None e h = λ a b k l m s. h a b k l m (s then same_sym e)
fitting_same x y (Some f) e h = h then e

-- fractions are ordered as their products crosswise
pub ordered : (a b p q : ℕ) (r : Ordering) → 0 < b → 0 < q → MatchOrdering r (a * q < p * b) (a * q ≡ p * b) (p * b < a * q) → Ordered (over a b) (over p q) r
ordered a b p q Less h k l = (over_cross_le a b p q h k (omega arith), λ m. omega (arith, cross_over_le p q a b k h m))
ordered a b p q Equal h k e = over_cross a b p q h k e
ordered a b p q Greater h k l = (over_cross_le p q a b k h (omega arith), λ m. omega (arith, cross_over_le a b p q h k m))
