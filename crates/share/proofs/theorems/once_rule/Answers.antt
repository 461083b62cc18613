use Rattle.share.proofs.Once.{once_rule_lem}
use Rattle.share.proofs.theorems.once_rule.Goals as goal

pub returns : goal.returns
returns c = once_rule_lem
