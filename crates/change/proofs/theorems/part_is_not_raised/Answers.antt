use Rattle.change.proofs.Growth.{part_not_raised}
use Rattle.change.proofs.theorems.part_is_not_raised.Goals as goal

pub returns : goal.returns
returns c = part_not_raised
