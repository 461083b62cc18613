use Rattle.share.proofs.Fairness.{no_other}
use Rattle.share.proofs.theorems.no_other_is_fair.Goals as goal

pub returns : goal.returns
returns c = no_other
