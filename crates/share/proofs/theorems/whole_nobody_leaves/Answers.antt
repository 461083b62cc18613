use Rattle.share.proofs.Wholes.{whole_nobody_leaves_lem}
use Rattle.share.proofs.theorems.whole_nobody_leaves.Goals as goal

pub returns : goal.returns
returns c = whole_nobody_leaves_lem
