use Rattle.cents.proofs.Split.{free_part}
use Rattle.cents.proofs.theorems.free_part.Goals as goal

pub returns : goal.returns
returns c = free_part
