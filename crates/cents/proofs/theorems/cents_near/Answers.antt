use Rattle.cents.proofs.Near.{cents_near_lem}
use Rattle.cents.proofs.theorems.cents_near.Goals as goal

pub returns : goal.returns
returns c = cents_near_lem
