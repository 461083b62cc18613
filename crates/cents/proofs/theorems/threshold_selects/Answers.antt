use Rattle.cents.proofs.Threshold.{threshold_selects_lem}
use Rattle.cents.proofs.theorems.threshold_selects.Goals as goal

pub returns : goal.returns
returns c = threshold_selects_lem
