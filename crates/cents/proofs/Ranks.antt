-- Ranks: of those who pass a test as many as r have a rank below r.
use Rattle.std.proofs.Common.{◌≡◌, ℕ, zero, suc, ◌+◌, ◌-◌, ◌<◌, ◌≤◌, Bool, true, false, cond, ◌&&◌, ltb, ◌∙◌, subst, inl, inr, arith}
use Rattle.std.proofs.lemmas.Bool.{cases_eq}
use Rattle.std.proofs.lemmas.Bool.Decides.{nat_tests}
use Rattle.number.specs.Sum.{sum, one, count}
use Rattle.number.proofs.Sums.{sum_same, sum_le}
use Rattle.cents.specs.Rank.{before, rank}
use Rattle.cents.specs.Theorems.{RanksCount}

-- terms that are at most others, and one of them below
pub sum_lt : (n : ℕ) (f g : ℕ → ℕ) (i : ℕ) → i < n → ((j : ℕ) → f j ≤ g j) → f i < g i → sum n f < sum n g
unfolding sum
sum_lt zero f g i p h l = absurd (omega arith)
sum_lt (suc n) f g i p h l =
    elim (cases_eq i n) [
      | inl e ↦ omega (arith, sum_le n f g (λ j _. h j), subst (λ x. f x < g x) e l)
      | inr e ↦ omega (arith, h n, sum_lt n f g i (omega (arith, e)) h l)
    ]

-- to come before is a strict order
self : (odd : ℕ → ℕ) (i : ℕ) → before odd i i ≡ false
unfolding before
self odd i = grind (arith, nat_tests)

total : (odd : ℕ → ℕ) (i k : ℕ) → i < k → before odd k i ≡ false → before odd i k ≡ true
unfolding before
total odd i k l h = grind (arith, nat_tests)

later : (b : Bool) (odd : ℕ → ℕ) (j i k : ℕ) → before odd i k ≡ true → one (b && before odd j i) ≤ one (b && before odd j k)
unfolding before
later b odd j i k h = grind (arith, nat_tests)

module _ (n : ℕ) (p : ℕ → Bool) (odd : ℕ → ℕ) where
  rank_le : (i k : ℕ) → before odd i k ≡ true → rank n p odd i ≤ rank n p odd k
  unfolding rank
  rank_le i k h = sum_le n _ _ (λ j _. later (p j) odd j i k h)

  pub rank_lt : (i k : ℕ) → i < n → p i ≡ true → before odd i k ≡ true → rank n p odd i < rank n p odd k
  unfolding rank
  rank_lt i k l e h = sum_lt n _ _ i l (λ j. later (p j) odd j i k h) (rw (e, self odd i, h) (omega arith))

  rank_most : (i : ℕ) → rank n p odd i ≤ count n p
  unfolding rank
  rank_most i = sum_le n _ _ (λ j _. each (p j) (before odd j i))
    where
      each : (a b : Bool) → one (a && b) ≤ one a
      each a b = grind arith

-- of r ranks these are left for the others, if one more farm has rank k among them
left : Bool → ℕ → ℕ → ℕ
left a k r = cond (a && ltb k r) (r - 1) r

-- who comes after that farm moves up by one
moved : (a b w : Bool) (k R r : ℕ) → (w ≡ true → k ≤ R) → (b ≡ true → w ≡ false → R < k) → one (b && ltb (one (a && w) + R) r) ≡ one (b && ltb R (left a k r))
unfolding left
moved a b w k R r late soon = grind (arith, nat_tests)

left_most : (a : Bool) (k r m : ℕ) → k ≤ m → r ≤ one a + m → left a k r ≤ m
unfolding left
left_most a k r m h l = grind (arith, nat_tests)

left_and : (a w : Bool) (k r s : ℕ) → w ≡ false → s ≡ left a k r → one (a && ltb (one (a && w) + k) r) + s ≡ r
unfolding left
left_and a w k r s h e = grind (arith, nat_tests)

pub ranks_count_lem : RanksCount
unfolding sum rank
ranks_count_lem zero p odd r h = omega arith
ranks_count_lem (suc n) p odd r h =
    let k = rank n p odd n in
    left_and (p n) (before odd n n) k r _ (self odd n)
    (sum_same n _ _ (λ i l. moved (p n) (p i) (before odd n i) k (rank n p odd i) r (rank_le n p odd n i) (λ e w. rank_lt n p odd i n l e (total odd i n l w)))
    ∙ ranks_count_lem n p odd (left (p n) k r) (left_most (p n) k r (count n p) (rank_most n p odd n) h))
