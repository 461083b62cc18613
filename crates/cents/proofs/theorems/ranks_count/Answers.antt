use Rattle.cents.proofs.Ranks.{ranks_count_lem}
use Rattle.cents.proofs.theorems.ranks_count.Goals as goal

pub returns : goal.returns
returns c = ranks_count_lem
