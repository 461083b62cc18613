-- A fraction divided by the greatest common divisor is in lowest terms, and lowest terms are the smallest and unique.
use Rattle.std.proofs.Common.{◌≡◌, ℕ, ◌*◌, ◌/◌, ◌<◌, ◌≤◌, subst, le_antisymm, mul-le-mul_left, one-mul, le_of_mul-le-mul_right, arith}
use Prim.Native.Nat.{◌∣◌}
use native.Mathlib.Nat.{div-mul_cancel}
use native.Mathlib.Nat.{eq-one_of_dvd-one, dvd-mul_right, dvd_of_mul-dvd-mul_right, mul-dvd-mul_right, le_of_dvd, pos_of_dvd_of_pos}
use Rattle.number.specs.Divisors.{Greatest}
use Rattle.number.specs.Fraction.{over, ◌≈◌}
use Rattle.number.specs.Order.{divides_bottom}
use Rattle.number.specs.LowestTerms.{Lowest, LowestUnique, LowestLeast, LowestExists}
use Rattle.number.proofs.Euclid.{greatest_pos, divided_cross, always_one}
use Rattle.number.proofs.Fractions.{same_sym, ◌then◌}
use Rattle.number.proofs.Crosswise.{over_cross, cross_over}

-- the bottom in lowest terms divides every other bottom of that value, so that both numbers are the smallest
pub lowest_least : LowestLeast
lowest_least a b p q h k l e =
    let crossed : a * q ≡ p * b = cross_over a b p q h k e in
    let under : b ≤ q = le_of_dvd k (divides_bottom a b p q h l crossed) in
    (le_of_mul-le-mul_right (omega (arith, mul-le-mul_left a under)) h, under)

-- each of two in lowest terms is the smaller
pub lowest_unique : LowestUnique
lowest_unique a b p q h k l m e =
    let one = lowest_least a b p q h k l e in
    let two = lowest_least p q a b k h m (same_sym e) in
    (le_antisymm one.0 two.0, le_antisymm one.1 two.1)

-- what is divided by the greatest common divisor is in lowest terms
pub divided_lowest : (a b d : ℕ) → 0 < b → Greatest a b d → Lowest (a / d) (b / d)
divided_lowest a b d h g c l r =
    let up : (x : ℕ) → d ∣ x → c ∣ x / d → c * d ∣ x = λ x y z. subst (λ w. c * d ∣ w) (div-mul_cancel d y) (mul-dvd-mul_right c z d) in
    let whole : c * d ∣ 1 * d = rw one-mul (g.greatest (c * d) (up a g.left l) (up b g.right r)) in
    eq-one_of_dvd-one (dvd_of_mul-dvd-mul_right c (greatest_pos a b d h g) whole)

-- its bottom stays above 0
pub divided_pos : (b d : ℕ) → 0 < b → d ∣ b → 0 < b / d
divided_pos b d h l = pos_of_dvd_of_pos (subst (λ x. b / d ∣ x) (div-mul_cancel d l) (dvd-mul_right (b / d) d)) h

-- and its value is the same
pub divided_same : (a b d : ℕ) → 0 < b → Greatest a b d → over (a / d) (b / d) ≈ over a b
divided_same a b d h g = over_cross (a / d) (b / d) a b (divided_pos b d h g.right) h (divided_cross a b d g.left g.right)

-- and its numbers are the smallest with that value
pub divided_least : (a b d p q : ℕ) → 0 < b → 0 < q → Greatest a b d → over p q ≈ over a b → (a / d ≤ p) × (b / d ≤ q)
divided_least a b d p q h k g e =
    lowest_least (a / d) (b / d) p q (divided_pos b d h g.right) k (divided_lowest a b d h g) (divided_same a b d h g then same_sym e)

-- every fraction has lowest terms
pub lowest_exists : LowestExists
lowest_exists p q h =
    let d = (always_one p q).0.0 in
    let g = (always_one p q).0.1 in
    (p / d, q / d, divided_pos q d h g.right, divided_lowest p q d h g, divided_same p q d h g)
