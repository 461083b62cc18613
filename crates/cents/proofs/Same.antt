-- A split depends on the odd cents of the farms alone.
use Rattle.std.proofs.Common.{◌≡◌, ℕ, ◌+◌, ◌<◌, ◌&&◌, ◌||◌, eqb, ltb, ap, ap₂}
use Rattle.number.specs.Sum.{one}
use Rattle.number.proofs.Sums.{sum_same}
use Rattle.line.specs.Line.{Line}
use Rattle.share.specs.Weight.{Weights}
use Rattle.cents.specs.Rank.{before, rank}
use Rattle.cents.specs.Split.{whole_cents, broken, rest, pays_odd, odd_cent, cents, odd_after}

module _ (l : Line) (weight : Weights) (e c : ℕ) (odd odd' : ℕ → ℕ) (same : (j : ℕ) → j < l.farms → odd j ≡ odd' j) (i : ℕ) (k : i < l.farms) where
  pub pays_odd_same : pays_odd l weight e c odd i ≡ pays_odd l weight e c odd' i
  unfolding pays_odd rank before
  pays_odd_same =
      ap (λ r. broken l weight e c i && ltb r (rest l weight e c))
      (sum_same l.farms _ _ (λ j kj. ap₂ (λ x y. one (broken l weight e c j && (ltb x y || (eqb x y && ltb j i)))) (same j kj) (same i k)))

  pub cents_same : cents l weight e c odd i ≡ cents l weight e c odd' i
  unfolding cents odd_cent
  cents_same = ap (λ b. whole_cents l weight e c i + one b) pays_odd_same

  pub odd_after_same : odd_after l weight e c odd i ≡ odd_after l weight e c odd' i
  unfolding odd_after odd_cent
  odd_after_same = ap₂ (λ x b. x + one b) (same i k) pays_odd_same
