-- The order of the code's fractions. The traits of an order ask for proofs of its laws, and those have to stand here, after the definitions.
use Rattle.std.specs.Prelude.{◌≡◌, ℕ, zero, suc, ◌+◌, ◌*◌, ◌/◌, ◌%◌, ◌<◌, Bool, ◌&&◌, ◌==◌}
use Rattle.std.specs.Int.{◌∣◌}
use Rattle.std.specs.Cmp.{IsTotalOrder, ranks, nat_cmp_total}
use Rattle.std.specs.Ordering.{MatchOrdering, is_eq, nat_cmp}
use Rattle.std.specs.declared.cmp.Ordering.{Ordering}
use Rattle.std.specs.declared.cmp.Ordering.TheVariants.{Less, Equal, Greater}
use Rattle.std.proofs.Common.{sym, ap, ap₂, ◌∙◌, subst, inl, inr, arith, mod-lt, mul_comm, mul-lt-mul_of_pos_right, le_antisymm, le_of_mul-le-mul_right}
use Rattle.std.proofs.Math.Nat.{dvd_refl, dvd-mul_left, dvd-mul_right, dvd-add_iff_right, dvd-mod_iff, dvd_of_mod-eq-zero, dvd_of_mul-dvd-mul_left, dvd_antisymm, mul-dvd-mul_left, mul-div_cancel', one-dvd, div-add-mod}
use Rattle.std.proofs.lemmas.Bool.{cases_lt}
use Rattle.std.proofs.lemmas.Bool.Decides.{nat_tests}
use Rattle.number.specs.LowestTerms.{Lowest}
use Rattle.number.specs.Reduced.{value, Ordered}
use Rattle.number.specs.declared.fraction.Fraction.{Fraction as Reduced}

-- how the products crosswise stand: the top of each times the bottom of the other
abbrev pub crosswise : Reduced → Reduced → Ordering
crosswise x y = nat_cmp (x.top * y.bottom) (y.top * x.bottom)

-- it is the order of the values
abbrev pub OrderOfValues : Type 0
OrderOfValues = (x y : Reduced) → Ordered (value x) (value y) (crosswise x y)

-- whether both numbers are the same
abbrev pub alike : Reduced → Reduced → Bool
alike x y = (x.top == y.top) && (x.bottom == y.bottom)

-- a number divides whatever it divides times another with which it has only the divisor 1
divides_other : (n a b q : ℕ) → b < n → 0 < b → Lowest a b → b ∣ a * q → b ∣ q
divides_other zero a b q h some l d = absurd (omega arith)
divides_other (suc n) a b q h some l d =
    let less : a % b < b = mod-lt a some in
    let whole : b * (a / b * q) + a % b * q ≡ a * q = omega (arith, ap (λ x. x * q) (div-add-mod a b)) in
    let rest : b ∣ a % b * q = (dvd-add_iff_right b (dvd-mul_right b (a / b * q))).1 (subst (λ x. b ∣ x) (sym whole) d) in
    elim (cases_lt 0 (a % b)) [
      | inl left ↦
          let times : b * (a % b * q / b) ≡ a % b * q = mul-div_cancel' b rest in
          let turned : a % b ∣ b * (a % b * q / b) = rw times (dvd-mul_right (a % b) q) in
          let down : a % b ∣ a % b * q / b = divides_other n b (a % b) (a % b * q / b) (omega arith) left (λ c s t. l c ((dvd-mod_iff c s).0 t) s) turned in
          dvd_of_mul-dvd-mul_left b left (rw (mul_comm (a % b) b) (subst (λ x. b * (a % b) ∣ x) times (mul-dvd-mul_left (a % b) b down)))
      | inr none ↦ subst (λ x. x ∣ q) (sym (l b (dvd_of_mod-eq-zero b (omega arith)) (dvd_refl b))) (one-dvd q)
    ]

-- what the comparison of two numbers answers
answer : (m n : ℕ) (r : Ordering) → MatchOrdering r (m < n) (m ≡ n) (n < m) → nat_cmp m n ≡ r
answer m n Less h = grind (arith, nat_tests)
answer m n Equal h = grind (arith, nat_tests)
answer m n Greater h = grind (arith, nat_tests)

-- both numbers times the same compare as they do
scaled : (k m n : ℕ) → 0 < k → nat_cmp (m * k) (n * k) ≡ nat_cmp m n
scaled k m n some = answer (m * k) (n * k) (nat_cmp m n) (at (nat_cmp m n) (ranks m n))
  where
    at : (r : Ordering) → MatchOrdering r (m < n) (m ≡ n) (n < m) → MatchOrdering r (m * k < n * k) (m * k ≡ n * k) (n * k < m * k)
    at Less h = mul-lt-mul_of_pos_right h some
    at Equal h = ap (λ x. x * k) h
    at Greater h = mul-lt-mul_of_pos_right h some

-- two factors may change places
swapped : (k m n : ℕ) → k * m * n ≡ k * n * m
swapped k m n = omega arith

-- numbers that compare as equal are equal
equal : (m n : ℕ) → nat_cmp m n ≡ Equal → m ≡ n
equal m n e = subst (λ r. MatchOrdering r (m < n) (m ≡ n) (n < m)) e (ranks m n)

-- it is a total order
pub crosswise_total : IsTotalOrder crosswise
crosswise_total = record {
  antisymm = λ x y. nat_cmp_total.antisymm (x.top * y.bottom) (y.top * x.bottom);
  trans = λ x y z h k.
      sym (scaled y.bottom (x.top * z.bottom) (z.top * x.bottom) y.positive)
      ∙ nat_cmp_total.trans (x.top * z.bottom * y.bottom) (y.top * x.bottom * z.bottom) (z.top * x.bottom * y.bottom)
      (ap (λ w. nat_cmp w (y.top * x.bottom * z.bottom)) (swapped x.top z.bottom y.bottom) ∙ scaled z.bottom (x.top * y.bottom) (y.top * x.bottom) z.positive ∙ h)
      (ap₂ nat_cmp (swapped y.top x.bottom z.bottom) (swapped z.top x.bottom y.bottom) ∙ scaled x.bottom (y.top * z.bottom) (z.top * y.bottom) x.positive ∙ k);
  congr = λ x y z h.
      let crossed = equal (x.top * y.bottom) (y.top * x.bottom) h in
      let left : x.top * z.bottom * y.bottom ≡ y.top * z.bottom * x.bottom = omega (arith, ap (λ w. w * z.bottom) crossed) in
      sym (scaled y.bottom (x.top * z.bottom) (z.top * x.bottom) y.positive) ∙ ap₂ nat_cmp left (swapped z.top x.bottom y.bottom)
      ∙ scaled x.bottom (y.top * z.bottom) (z.top * y.bottom) x.positive;
}

-- so the bottom in lowest terms divides every other bottom of that value
pub divides_bottom : (a b p q : ℕ) → 0 < b → Lowest a b → a * q ≡ p * b → b ∣ q
divides_bottom a b p q h l e = divides_other (suc b) a b q (omega arith) h l (subst (λ x. b ∣ x) (sym e) (dvd-mul_left b p))

-- fractions that it does not tell apart have the same numbers, and only those
pub crosswise_ties : (x y : Reduced) → alike x y ≡ is_eq (crosswise x y)
crosswise_ties x y = at (crosswise x y) (ranks (x.top * y.bottom) (y.top * x.bottom))
  where
    at : (r : Ordering) → MatchOrdering r (x.top * y.bottom < y.top * x.bottom) (x.top * y.bottom ≡ y.top * x.bottom) (y.top * x.bottom < x.top * y.bottom) → alike x y ≡ is_eq r
    at Less h = grind (arith, nat_tests)
    at Equal h =
        let low : x.bottom ≡ y.bottom =
        dvd_antisymm (divides_bottom x.top x.bottom y.top y.bottom x.positive x.lowest h) (divides_bottom y.top y.bottom x.top x.bottom y.positive y.lowest (sym h)) in
        let crossed : x.top * y.bottom ≡ y.top * y.bottom = rw low at h in
        let high : x.top ≡ y.top = le_antisymm (le_of_mul-le-mul_right (omega arith) y.positive) (le_of_mul-le-mul_right (omega arith) y.positive) in
        grind (arith, nat_tests)
    at Greater h = grind (arith, nat_tests)
