use Rattle.share.proofs.Fairness.{every_fair_rule_lem}
use Rattle.share.proofs.theorems.every_fair_rule.Goals as goal

pub returns : goal.returns
returns c = every_fair_rule_lem
