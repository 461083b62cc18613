use Rattle.share.proofs.Promised.{shares_right}
use Rattle.share.proofs.theorems.shares_are_right.Goals as goal

pub returns : goal.returns
returns c = shares_right
