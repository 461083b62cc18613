use Rattle.cents.proofs.Level.{odd_level_lem}
use Rattle.cents.proofs.theorems.odd_level.Goals as goal

pub returns : goal.returns
returns c = odd_level_lem
