use Rattle.share.proofs.Wholes.{whole_fair}
use Rattle.share.proofs.theorems.whole_is_fair.Goals as goal

pub returns : goal.returns
returns c = whole_fair
