use Rattle.cents.proofs.Closing.{closing_adds_up_lem}
use Rattle.cents.proofs.theorems.closing_adds_up.Goals as goal

pub returns : goal.returns
returns c = closing_adds_up_lem
