use Rattle.change.proofs.Growth.{parted_grows_lem}
use Rattle.change.proofs.theorems.parted_grows.Goals as goal

pub returns : goal.returns
returns c = parted_grows_lem
