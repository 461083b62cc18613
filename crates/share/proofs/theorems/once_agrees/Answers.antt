use Rattle.share.proofs.Once.{once_agree}
use Rattle.share.proofs.theorems.once_agrees.Goals as goal

pub returns : goal.returns
returns c = once_agree
