use Rattle.cents.proofs.Split.{odd_count_lem}
use Rattle.cents.proofs.theorems.odd_count.Goals as goal

pub returns : goal.returns
returns c = odd_count_lem
