use Rattle.number.proofs.Sums.{sum_add, sum_times, sum_swap, sum_le}
use Rattle.number.proofs.laws.sums_stand.Goals as goal

pub returns : goal.returns
returns c = (sum_add, sum_times, sum_swap, sum_le)
