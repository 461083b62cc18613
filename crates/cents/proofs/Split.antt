-- A split adds up to the cost, and the fewest odd cents pay.
use Rattle.std.proofs.Common.{◌≡◌, ℕ, ◌+◌, ◌*◌, ◌%◌, ◌<◌, ◌≤◌, Bool, ltb, sym, refl, ap, ◌∙◌, inl, inr, add-zero, mod-lt, mul-zero, div-add-mod', zero-mul, le_of_mul-le-mul_right, arith}
use native.Mathlib.Nat.{zero-div, zero-mod}
use Rattle.std.proofs.lemmas.Bool.{cases_lt, and_parts, or_left, ltb-true, ltb-false, lt-ltb}
use Rattle.std.proofs.lemmas.Bool.Decides.{nat_tests}
use Rattle.number.specs.Sum.{sum, one, count}
use Rattle.number.proofs.Sums.{sum_same, sum_le, sum_add, sum_times, sum_has}
use Rattle.line.specs.Line.{Line}
use Rattle.share.specs.Weight.{Weights, whole}
use Rattle.share.proofs.Weights.{weight_most}
use Rattle.cents.specs.Rank.{before, rank}
use Rattle.cents.specs.Split.{whole_cents, broken, rest, pays_odd, odd_cent, cents, odd_after}
use Rattle.cents.specs.Theorems.{CentsAddUp, UnusedPayNothing, OddCount, FewestPay, FewestAlike, FreePart}
use Rattle.cents.proofs.Ranks.{rank_lt, ranks_count_lem}

module _ (l : Line) (weight : Weights) (e c : ℕ) (used : 0 < whole l weight e) where
  -- cents that are broken off, times the whole weight
  off : ℕ → ℕ
  off i = weight i e * c % whole l weight e

  -- the whole cents and what is broken off make up the cost
  whole_and_off : sum l.farms (whole_cents l weight e c) * whole l weight e + sum l.farms off ≡ c * whole l weight e
  unfolding whole_cents off whole
  whole_and_off =
      omega (
        arith,
        sum_times l.farms (whole l weight e) (whole_cents l weight e c),
        sum_add l.farms (λ i. whole_cents l weight e c i * whole l weight e) off,
        sum_same l.farms _ _ (λ i _. div-add-mod' (weight i e * c) (whole l weight e)),
        sum_times l.farms c (λ i. weight i e),
      )

  off_most : sum l.farms off ≤ count l.farms (broken l weight e c) * whole l weight e
  unfolding off broken
  off_most =
      omega (
        arith,
        sum_times l.farms (whole l weight e) (λ i. one (broken l weight e c i)),
        sum_le l.farms off (λ i. one (broken l weight e c i) * whole l weight e) (λ i _. each (off i) (mod-lt (weight i e * c) used)),
      )
    where
      each : (m : ℕ) → m < whole l weight e → m ≤ one (ltb 0 m) * whole l weight e
      each m h = grind (arith, nat_tests)

  whole_most : sum l.farms (whole_cents l weight e c) ≤ c
  whole_most = le_of_mul-le-mul_right {k = whole l weight e} (omega (arith, whole_and_off)) used

  rest_most : rest l weight e c ≤ count l.farms (broken l weight e c)
  unfolding rest
  rest_most =
      let split : c ≡ sum l.farms (whole_cents l weight e c) + rest l weight e c = omega (arith, whole_most) in
      le_of_mul-le-mul_right {k = whole l weight e} (omega (arith, whole_and_off, off_most, ap (λ z. z * whole l weight e) split)) used

pub odd_count_lem : OddCount
unfolding pays_odd
odd_count_lem l weight e c odd used = ranks_count_lem l.farms (broken l weight e c) odd (rest l weight e c) (rest_most l weight e c used)

pub cents_add_up_lem : CentsAddUp
unfolding cents odd_cent rest
cents_add_up_lem l weight e c odd used =
    omega (
      arith,
      sum_add l.farms (whole_cents l weight e c) (odd_cent l weight e c odd),
      odd_count_lem l weight e c odd used,
      whole_most l weight e c used,
    )

-- who counts nothing pays nothing
pub none_pays : (l : Line) (weight : Weights) (e c : ℕ) (odd : ℕ → ℕ) (i : ℕ) → weight i e ≡ 0 → cents l weight e c odd i ≡ 0
unfolding cents whole_cents odd_cent pays_odd broken
none_pays l weight e c odd i h = rw (h, zero-mul c, zero-div (whole l weight e), zero-mod (whole l weight e)) refl

pub unused_pay_nothing_lem : UnusedPayNothing
unused_pay_nothing_lem l weight fits e c odd i k ki n = none_pays l weight e c odd i (fits.unused i e ki k n)

pub free_part : FreePart
unfolding cents odd_after whole_cents odd_cent pays_odd broken
free_part l weight e odd i = rw (mul-zero (weight i e), zero-div (whole l weight e), zero-mod (whole l weight e)) (refl, add-zero (odd i))

-- no farm pays more than the cost
pub cents_most : (l : Line) (weight : Weights) (e c : ℕ) (odd : ℕ → ℕ) (i : ℕ) → i < l.farms → cents l weight e c odd i ≤ c
cents_most l weight e c odd i k =
    elim (cases_lt 0 (whole l weight e)) [
      | inl used ↦ omega (arith, cents_add_up_lem l weight e c odd used, sum_has l.farms i (cents l weight e c odd) k)
      | inr none ↦ omega (arith, none_pays l weight e c odd i (omega (arith, weight_most l weight i e k)))
    ]

-- a split adds at most one odd cent
pub odd_after_most : (l : Line) (weight : Weights) (e c : ℕ) (odd : ℕ → ℕ) (i : ℕ) → odd_after l weight e c odd i ≤ odd i + 1
unfolding odd_after odd_cent
odd_after_most l weight e c odd i = each (pays_odd l weight e c odd i) (odd i)
  where
    each : (b : Bool) (x : ℕ) → x + one b ≤ x + 1
    each b x = grind arith

pub fewest_pay_lem : FewestPay
unfolding pays_odd before
fewest_pay_lem l weight e c odd i j kj pi bj pj =
    elim (cases_lt (odd j) (odd i)) [
      | inl h ↦ absurd (omega (
        arith,
        ltb-true _ _ (and_parts (broken l weight e c i) _ pi).1,
        ltb-false (rank l.farms (broken l weight e c) odd j) (rest l weight e c) (rw bj at pj),
        rank_lt l.farms (broken l weight e c) odd j i kj bj (or_left _ _ (lt-ltb (odd j) (odd i) h)),
      ))
      | inr h ↦ h
    ]

pub fewest_alike_lem : FewestAlike
unfolding pays_odd broken
fewest_alike_lem l weight e c odd i j kj w pi pj =
    fewest_pay_lem l weight e c odd i j kj pi (sym (ap (λ z. ltb 0 (z * c % whole l weight e)) w) ∙ (and_parts (broken l weight e c i) _ pi).0) pj
