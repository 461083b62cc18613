use Rattle.cents.proofs.Level.{closing_level_lem}
use Rattle.cents.proofs.theorems.closing_level.Goals as goal

pub returns : goal.returns
returns c = closing_level_lem
