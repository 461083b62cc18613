use Rattle.change.proofs.Growth.{joining_raises_none_lem}
use Rattle.change.proofs.theorems.joining_raises_none.Goals as goal

pub returns : goal.returns
returns c = joining_raises_none_lem
