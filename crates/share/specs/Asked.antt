-- What is known where shares are added up.
use Rattle.std.specs.Prelude.{ℕ, ◌<◌, ◌≤◌, List, length}
use Rattle.line.specs.Limits.{costs_end}
use Rattle.line.specs.Line.{Line}
use Rattle.share.specs.Answer.{at}
use Rattle.share.specs.Least.{LeastScale}
use Rattle.share.specs.Limits.{scale_end}

-- there is a cost for each part, none is too large, and the scale is the least and below the limit
pub record Asked (l : Line) (costs : List ℕ) (scale : ℕ) : Type 0 where
  pub enough : l.parts ≤ length costs
  pub small : (e : ℕ) → e < l.parts → at costs e < costs_end
  pub least : LeastScale l (at costs) l.parts scale
  pub below : scale < scale_end
