use Rattle.share.proofs.Once.{some_fair}
use Rattle.share.proofs.theorems.some_rule_is_fair.Goals as goal

pub returns : goal.returns
returns c = some_fair
