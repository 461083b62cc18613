-- How many counts of a list are below a number.
use Rattle.std.proofs.Common.{◌≡◌, ℕ, suc, ◌+◌, ◌<◌, ◌≤◌, ltb, Bool, true, false, ◌&&◌, List, [], ◌∷◌, ◌++◌, length, refl, ap, arith}
use Rattle.std.proofs.lemmas.Bool.{lt-ltb, le-ltb}
use Rattle.std.proofs.lemmas.List.Sums.{sum_by-cons, sum_by_push}
use Rattle.std.proofs.lemmas.List.{length_push}
use Rattle.number.specs.Sum.{sum, one}
use Rattle.number.proofs.Sums.{sum_next, count_most}
use Rattle.share.specs.Answer.{at}
use Rattle.cents.specs.Marking.{under, fewer, Listed}

-- where no count is below t
pub none_below : (counts : List ℕ) (t : ℕ) → ((j : ℕ) → j < length counts → t ≤ at counts j) → fewer counts t ≡ 0
none_below [] t h = refl
none_below (x ∷ xs) t h = omega (arith, sum_by-cons (λ y. one (ltb y t)) x xs, ap one (le-ltb x t (h 0 (omega arith))), none_below xs t (λ j l. h (suc j) (omega arith)))

-- and where all are
pub all_below : (counts : List ℕ) (t : ℕ) → ((j : ℕ) → j < length counts → at counts j < t) → fewer counts t ≡ length counts
all_below [] t h = refl
all_below (x ∷ xs) t h = omega (arith, sum_by-cons (λ y. one (ltb y t)) x xs, ap one (lt-ltb x t (h 0 (omega arith))), all_below xs t (λ j l. h (suc j) (omega arith)))

module _ (p : ℕ → Bool) (odd : ℕ → ℕ) where
  under_next : (n t : ℕ) → under (n + 1) p odd t ≡ under n p odd t + one (p n && ltb (odd n) t)
  unfolding under
  under_next n t = sum_next n _

  -- nobody
  pub listed_none : (counts : List ℕ) → counts ≡ [] → Listed p odd 0 counts
  unfolding sum under
  listed_none counts none = rw none (record { all = refl; agree = λ t. refl })

  -- no more are listed than were asked
  pub listed_few : {n : ℕ} {counts : List ℕ} → Listed p odd n counts → length counts ≤ n
  listed_few {n} l = omega (arith, l.all, count_most n p)

  -- one more that passes
  pub listed_more : {i : ℕ} {counts : List ℕ} → Listed p odd i counts → p i ≡ true → (counts' : List ℕ) → counts' ≡ counts ++ odd i ∷ [] → Listed p odd (i + 1) counts'
  listed_more {i} {counts} l passes counts' is =
      rw is (record {
        all = omega (arith, l.all, length_push counts (odd i), sum_next i (λ j. one (p j)), ap one passes);
        agree = λ t. omega (arith, sum_by_push (λ y. one (ltb y t)) counts (odd i), l.agree t, under_next i t, ap (λ b. one (b && ltb (odd i) t)) passes);
      })

  -- one more that doesn't
  pub listed_same : {i : ℕ} {counts : List ℕ} → Listed p odd i counts → p i ≡ false → Listed p odd (i + 1) counts
  listed_same {i} l fails =
      record {
        all = omega (arith, l.all, sum_next i (λ j. one (p j)), ap one fails);
        agree = λ t. omega (arith, l.agree t, under_next i t, ap (λ b. one (b && ltb (odd i) t)) fails);
      }
