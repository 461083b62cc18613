use Rattle.cents.proofs.Near.{cents_fair_lem}
use Rattle.cents.proofs.theorems.cents_fair.Goals as goal

pub returns : goal.returns
returns c = cents_fair_lem
