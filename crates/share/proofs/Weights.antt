-- Laws of weights.
use Rattle.std.proofs.Common.{ℕ, ◌<◌, ◌≤◌, ap}
use Rattle.number.specs.Sum.{one}
use Rattle.number.proofs.Sums.{sum_has}
use Rattle.line.specs.Line.{Line, users}
use Rattle.share.specs.Weight.{Weights, whole}
use Rattle.share.specs.Theorems.{OnceFits}

-- no farm counts for more than all together
pub weight_most : (l : Line) (weight : Weights) (i e : ℕ) → i < l.farms → weight i e ≤ whole l weight e
unfolding whole
weight_most l weight i e k = sum_has l.farms i (λ j. weight j e) k

pub once_fits_lem : OnceFits
unfolding whole users
once_fits_lem l u = record {
  unused = λ i e _ _ n. ap one n;
  counted = u;
}
