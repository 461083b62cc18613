use Rattle.change.proofs.Growth.{back}
use Rattle.change.proofs.theorems.back_again.Goals as goal

pub returns : goal.returns
returns c = back
