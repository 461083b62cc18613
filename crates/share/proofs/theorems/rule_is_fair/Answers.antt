use Rattle.share.proofs.Fairness.{rule_fair}
use Rattle.share.proofs.theorems.rule_is_fair.Goals as goal

pub returns : goal.returns
returns c = rule_fair
