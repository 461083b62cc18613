-- The costs of a year: laws for loops over the parts, bounds, and what all farms pay together.
use Rattle.std.proofs.Common.{◌≡◌, ℕ, zero, suc, ◌+◌, ◌<◌, ◌≤◌, refl, ap, ◌∙◌, add-zero, add-one, arith}
use Rattle.number.specs.Sum.{sum}
use Rattle.number.proofs.Sums.{sum_next, sum_same, sum_le, sum_swap, sum_zero}
use Rattle.line.specs.Line.{Line}
use Rattle.share.specs.Cost.{Costs}
use Rattle.share.specs.Weight.{Weights}
use Rattle.cents.specs.Split.{cents, odd_after}
use Rattle.cents.specs.Closing.{odds, charged}
use Rattle.cents.specs.Theorems.{ClosingAddsUp}
use Rattle.cents.proofs.Same.{cents_same, odd_after_same}
use Rattle.cents.proofs.Split.{cents_add_up_lem, none_pays, free_part, cents_most, odd_after_most}

module _ (l : Line) (weight : Weights) (c : Costs) (odd : ℕ → ℕ) where
  -- before the first part
  pub odds_none : (i : ℕ) → odds l weight c odd 0 i ≡ odd i
  unfolding odds
  odds_none i = refl

  pub charged_none : (i : ℕ) → charged l weight c odd i 0 ≡ 0
  unfolding charged sum
  charged_none i = refl

  -- one more part
  pub odds_next : (i k : ℕ) → odds l weight c odd (k + 1) i ≡ odd_after l weight k (c k) (odds l weight c odd k) i
  unfolding odds
  odds_next i k = rw add-one refl

  pub charged_next : (i k : ℕ) → charged l weight c odd i (k + 1) ≡ charged l weight c odd i k + cents l weight k (c k) (odds l weight c odd k) i
  unfolding charged
  charged_next i k = sum_next k _

  -- a part that costs nothing
  pub odds_free : (i k : ℕ) → c k ≡ 0 → odds l weight c odd (k + 1) i ≡ odds l weight c odd k i
  odds_free i k free = odds_next i k ∙ ap (λ z. odd_after l weight k z (odds l weight c odd k) i) free ∙ (free_part l weight k (odds l weight c odd k) i).1

  pub charged_free : (i k : ℕ) → c k ≡ 0 → charged l weight c odd i (k + 1) ≡ charged l weight c odd i k
  charged_free i k free =
      charged_next i k
      ∙ ap (λ z. charged l weight c odd i k + z) (ap (λ z. cents l weight k z (odds l weight c odd k) i) free ∙ (free_part l weight k (odds l weight c odd k) i).0)
      ∙ add-zero (charged l weight c odd i k)

  -- bounds
  pub odds_most : (i k : ℕ) → odds l weight c odd k i ≤ odd i + k
  unfolding odds
  odds_most i zero = omega arith
  odds_most i (suc k) = omega (arith, odd_after_most l weight k (c k) (odds l weight c odd k) i, odds_most i k)

  pub charged_most : (i k : ℕ) → i < l.farms → charged l weight c odd i k ≤ sum k c
  unfolding charged
  charged_most i k ki = sum_le k _ c (λ e _. cents_most l weight e (c e) (odds l weight c odd e) i ki)

-- costs that are the same for the first m parts, and counts that are the same for all farms, are split alike
module _ (l : Line) (weight : Weights) (c d : Costs) (odd odd' : ℕ → ℕ) (m : ℕ) (costs : (e : ℕ) → e < m → c e ≡ d e) (counts : (i : ℕ) → i < l.farms → odd i ≡ odd' i) where
  pub odds_same : (k : ℕ) → k ≤ m → (i : ℕ) → i < l.farms → odds l weight c odd k i ≡ odds l weight d odd' k i
  unfolding odds
  odds_same zero h i ki = counts i ki
  odds_same (suc k) h i ki =
      ap (λ v. odd_after l weight k v (odds l weight c odd k) i) (costs k h)
      ∙ odd_after_same l weight k (d k) (odds l weight c odd k) (odds l weight d odd' k) (odds_same k (omega arith)) i ki

  pub charged_same : (k : ℕ) → k ≤ m → (i : ℕ) → i < l.farms → charged l weight c odd i k ≡ charged l weight d odd' i k
  unfolding charged
  charged_same k h i ki =
      sum_same k _ _ (λ e ke.
      ap (λ v. cents l weight e v (odds l weight c odd e) i) (costs e (omega arith))
      ∙ cents_same l weight e (d e) (odds l weight c odd e) (odds l weight d odd' e) (odds_same e (omega arith)) i ki)

-- who counts for no part pays nothing, and its count stays
module _ (l : Line) (weight : Weights) (c : Costs) (odd : ℕ → ℕ) (i : ℕ) (none : (e : ℕ) → weight i e ≡ 0) where
  pub odds_outside : (k : ℕ) → odds l weight c odd k i ≡ odd i
  unfolding odds odd_after cents
  odds_outside zero = refl
  odds_outside (suc k) = omega (arith, odds_outside k, none_pays l weight k (c k) (odds l weight c odd k) i (none k))

  pub charged_outside : (k : ℕ) → charged l weight c odd i k ≡ 0
  unfolding charged
  charged_outside k = sum_zero k _ (λ e _. none_pays l weight e (c e) (odds l weight c odd e) i (none e))

pub closing_adds_up_lem : ClosingAddsUp
unfolding charged
closing_adds_up_lem l weight fits c odd =
    sum_swap l.farms l.parts (λ i e. cents l weight e (c e) (odds l weight c odd e) i)
    ∙ sum_same l.parts _ c (λ e k. cents_add_up_lem l weight e (c e) (odds l weight c odd e) (fits.counted e k))
