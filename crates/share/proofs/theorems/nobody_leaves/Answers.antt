use Rattle.share.proofs.Groups.{nobody_leaves_lem}
use Rattle.share.proofs.theorems.nobody_leaves.Goals as goal

pub returns : goal.returns
returns c = nobody_leaves_lem
