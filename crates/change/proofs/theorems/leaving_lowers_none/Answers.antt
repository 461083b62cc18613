use Rattle.change.proofs.Growth.{leaving_lowers_none_lem}
use Rattle.change.proofs.theorems.leaving_lowers_none.Goals as goal

pub returns : goal.returns
returns c = leaving_lowers_none_lem
