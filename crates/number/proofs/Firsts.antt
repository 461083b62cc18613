-- Laws of `first` and `some`.
use Rattle.std.proofs.Common.{◌≡◌, ℕ, zero, suc, ◌<◌, ◌≤◌, Bool, true, false, sym, refl, ap, ◌∙◌, inl, inr, arith}
use Rattle.std.proofs.lemmas.Bool.{ltb-false, both_ways, cases_lt, lt-ltb, le-ltb}
use Rattle.std.proofs.lemmas.Bool.Decides.{nat_tests}
use Rattle.number.specs.Sum.{one, count}
use Rattle.number.specs.First.{first, some}
use Rattle.number.specs.Laws.{SomeCounts}
use Rattle.number.proofs.Sums.{sum_zero, sum_has}

-- the first is at most n
pub first_most : (n : ℕ) (p : ℕ → Bool) → first n p ≤ n
unfolding first
first_most zero p = omega arith
first_most (suc n) p = let h = first_most n p in grind (arith, nat_tests)

-- whatever is before the first fails
pub first_before : (n : ℕ) (p : ℕ → Bool) (k : ℕ) → k < first n p → p k ≡ false
unfolding first
first_before zero p k h = absurd (omega arith)
first_before (suc n) p k h = let before = first_before n p k in grind (arith, nat_tests)

-- the first passes if it is below n
pub first_passes : (n : ℕ) (p : ℕ → Bool) → first n p < n → p (first n p) ≡ true
unfolding first
first_passes zero p h = absurd (omega arith)
first_passes (suc n) p h = let found = first_passes n p in grind (arith, nat_tests)

-- where all fail it is n
pub first_none : (n : ℕ) (p : ℕ → Bool) → ((k : ℕ) → k < n → p k ≡ false) → first n p ≡ n
first_none n p none =
    elim (cases_lt (first n p) n) [
      | inl l ↦ absurd (both_ways (p (first n p)) (none (first n p) l) (first_passes n p l))
      | inr g ↦ omega (arith, first_most n p)
    ]

-- tests that agree below n have the same first
pub first_same : (n : ℕ) (p q : ℕ → Bool) → ((k : ℕ) → k < n → p k ≡ q k) → first n p ≡ first n q
unfolding first
first_same zero p q h = refl
first_same (suc n) p q h = cc (first_same n p q (λ k l. h k (omega arith)), h n (omega arith))

-- one that passes
pub some_from : (n : ℕ) (p : ℕ → Bool) (k : ℕ) → k < n → p k ≡ true → some n p ≡ true
some_from n p k l e =
    elim (cases_lt k (first n p)) [
      | inl before ↦ absurd (both_ways (p k) (first_before n p k before) e)
      | inr g ↦ lt-ltb (first n p) n (omega arith)
    ]

-- none that passes
pub none_from : (n : ℕ) (p : ℕ → Bool) → ((k : ℕ) → k < n → p k ≡ false) → some n p ≡ false
none_from n p none = le-ltb (first n p) n (omega (arith, first_none n p none))

-- some number passes where the count is above 0
pub some_count : SomeCounts
some_count n p =
    elim (cases_lt (first n p) n) [
      | inl l ↦
          let found = sum_has n (first n p) (λ i. one (p i)) l in
          lt-ltb (first n p) n l ∙ sym (lt-ltb 0 (count n p) (omega (arith, ap one (first_passes n p l))))
      | inr g ↦
          let none = sum_zero n (λ i. one (p i)) (λ i l. ap one (first_before n p i (omega arith))) in
          le-ltb (first n p) n g ∙ sym (le-ltb 0 (count n p) (omega arith))
    ]

-- where none passes, each fails
pub each_fails : (n : ℕ) (p : ℕ → Bool) → some n p ≡ false → (k : ℕ) → k < n → p k ≡ false
each_fails n p e k l = first_before n p k (omega (arith, ltb-false (first n p) n e))
