use Rattle.cents.proofs.Split.{unused_pay_nothing_lem}
use Rattle.cents.proofs.theorems.unused_pay_nothing.Goals as goal

pub returns : goal.returns
returns c = unused_pay_nothing_lem
