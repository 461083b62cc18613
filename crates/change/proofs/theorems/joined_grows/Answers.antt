use Rattle.change.proofs.Growth.{joined_grows_lem}
use Rattle.change.proofs.theorems.joined_grows.Goals as goal

pub returns : goal.returns
returns c = joined_grows_lem
