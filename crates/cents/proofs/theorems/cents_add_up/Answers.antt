use Rattle.cents.proofs.Split.{cents_add_up_lem}
use Rattle.cents.proofs.theorems.cents_add_up.Goals as goal

pub returns : goal.returns
returns c = cents_add_up_lem
