use Rattle.cents.proofs.Split.{fewest_pay_lem}
use Rattle.cents.proofs.theorems.fewest_pay.Goals as goal

pub returns : goal.returns
returns c = fewest_pay_lem
