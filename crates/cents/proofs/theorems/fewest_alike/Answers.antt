use Rattle.cents.proofs.Split.{fewest_alike_lem}
use Rattle.cents.proofs.theorems.fewest_alike.Goals as goal

pub returns : goal.returns
returns c = fewest_alike_lem
