use Rattle.share.proofs.Wholes.{whole_every_lem}
use Rattle.share.proofs.theorems.whole_every.Goals as goal

pub returns : goal.returns
returns c = whole_every_lem
