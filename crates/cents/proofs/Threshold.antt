-- A threshold selects the lowest ranks.
use Rattle.std.proofs.Common.{◌≡◌, ℕ, ◌+◌, ◌-◌, ◌<◌, ◌≤◌, Bool, true, false, ◌&&◌, ◌||◌, eqb, ltb, refl, ap, inl, inr, arith}
use Rattle.std.proofs.lemmas.Bool.{cases_order}
use Rattle.std.proofs.lemmas.Bool.Decides.{nat_tests}
use Rattle.number.specs.Sum.{sum, one}
use Rattle.number.proofs.Sums.{sum_same, sum_le, sum_add, sum_append, sum_zero}
use Rattle.cents.specs.Marking.{under, at_level, chosen}
use Rattle.cents.specs.Rank.{before, rank}
use Rattle.cents.specs.Theorems.{ThresholdSelects}
use Rattle.cents.proofs.Ranks.{sum_lt}

module _ (n : ℕ) (p : ℕ → Bool) (odd : ℕ → ℕ) (i : ℕ) (k : i < n) where
  -- the rank is the number of those who have paid less, and of those among the first i who have paid as much
  rank_parts : (t : ℕ) → odd i ≡ t → rank n p odd i ≡ under n p odd t + at_level p odd t i
  unfolding rank under at_level before
  rank_parts t e =
      let level : ℕ → ℕ = λ j. one (p j && (eqb (odd j) t && ltb j i)) in
      let cut : n ≡ n - i + i = omega arith in
      omega (
        arith,
        sum_same n _ _ (λ j _. parts (p j) (odd j) j),
        sum_add n (λ j. one (p j && ltb (odd j) t)) level,
        ap (λ z. sum z level) cut,
        sum_append i (n - i) level,
        sum_same i level _ (λ j l. on (p j) (eqb (odd j) t) j l),
        sum_zero (n - i) _ (λ j _. off (p (i + j)) (eqb (odd (i + j)) t) j),
      )
    where
      parts : (b : Bool) (x j : ℕ) → one (b && (ltb x (odd i) || (eqb x (odd i) && ltb j i))) ≡ one (b && ltb x t) + one (b && (eqb x t && ltb j i))
      parts b x j = grind (arith, nat_tests)

      on : (a b : Bool) (j : ℕ) → j < i → one (a && (b && ltb j i)) ≡ one (a && b)
      on a b j l = grind (arith, nat_tests)

      off : (a b : Bool) (j : ℕ) → one (a && (b && ltb (i + j) i)) ≡ 0
      off a b j = grind (arith, nat_tests)

  below : (t : ℕ) → p i ≡ true → odd i < t → rank n p odd i < under n p odd t
  unfolding rank under before
  below t e l = sum_lt n _ _ i k (λ j. each (p j) (odd j) j) here
    where
      each : (b : Bool) (x j : ℕ) → one (b && (ltb x (odd i) || (eqb x (odd i) && ltb j i))) ≤ one (b && ltb x t)
      each b x j = grind (arith, nat_tests)

      here : one (p i && (ltb (odd i) (odd i) || (eqb (odd i) (odd i) && ltb i i))) < one (p i && ltb (odd i) t)
      here = grind (arith, nat_tests)

  above : (t : ℕ) → t < odd i → under n p odd (t + 1) ≤ rank n p odd i
  unfolding rank under before
  above t l = sum_le n _ _ (λ j _. each (p j) (odd j) j)
    where
      each : (b : Bool) (x j : ℕ) → one (b && ltb x (t + 1)) ≤ one (b && (ltb x (odd i) || (eqb x (odd i) && ltb j i)))
      each b x j = grind (arith, nat_tests)

-- R the rank, U those under t, E those at t before
at_t : (R U E r x t : ℕ) → x ≡ t → R ≡ U + E → U ≤ r → ltb R r ≡ (ltb x t || (eqb x t && ltb E (r - U)))
at_t R U E r x t e s l = grind (arith, nat_tests)

under_t : (R E r x t D : ℕ) → x < t → R < r → ltb R r ≡ (ltb x t || (eqb x t && ltb E D))
under_t R E r x t D h s = grind (arith, nat_tests)

over_t : (R E r x t D : ℕ) → t < x → r ≤ R → ltb R r ≡ (ltb x t || (eqb x t && ltb E D))
over_t R E r x t D h s = grind (arith, nat_tests)

pub threshold_selects_lem : ThresholdSelects
unfolding chosen
threshold_selects_lem n p odd r t i k lo hi =
    and_same (p i) _ _ (λ e.
    elim (cases_order (odd i) t) [
      | inl q ↦ at_t _ (under n p odd t) (at_level p odd t i) r _ t q (rank_parts n p odd i k t q) lo
      | inr (inl q) ↦ under_t _ _ r _ t _ q (omega (arith, below n p odd i k t e q))
      | inr (inr q) ↦ over_t _ _ r _ t _ q (omega (arith, above n p odd i k t q))
    ])
  where
    and_same : (a b c : Bool) → (a ≡ true → b ≡ c) → (a && b) ≡ (a && c)
    and_same true b c h = h refl
    and_same false b c h = refl
