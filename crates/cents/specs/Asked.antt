-- What is known where costs are split.
use Rattle.std.specs.Prelude.{ℕ, ◌<◌, ◌≤◌, List, length}
use Rattle.line.specs.Limits.{costs_end}
use Rattle.line.specs.Line.{Line}
use Rattle.share.specs.Answer.{at}
use Rattle.cents.specs.Limits.{counts_end}

-- there is a cost for each part, none is too large, there is a count for each farm, and none is past the end
pub record Asked (l : Line) (costs odd : List ℕ) : Type 0 where
  pub enough : l.parts ≤ length costs
  pub small : (e : ℕ) → e < l.parts → at costs e < costs_end
  pub counts : l.farms ≤ length odd
  pub low : (i : ℕ) → i < l.farms → at odd i ≤ counts_end
