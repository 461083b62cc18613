use Rattle.cents.proofs.Level.{odd_gap_lem}
use Rattle.cents.proofs.theorems.odd_gap.Goals as goal

pub returns : goal.returns
returns c = odd_gap_lem
