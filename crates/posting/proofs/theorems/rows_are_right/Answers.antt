use Rattle.posting.proofs.Laws.{rows_right}
use Rattle.posting.proofs.theorems.rows_are_right.Goals as goal

pub returns : goal.returns
returns c = rows_right
