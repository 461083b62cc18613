use Rattle.posting.proofs.Years.{years_right}
use Rattle.posting.proofs.theorems.years_are_right.Goals as goal

pub returns : goal.returns
returns c = years_right
