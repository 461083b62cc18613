use Rattle.share.proofs.Wholes.{whole_no_other_lem}
use Rattle.share.proofs.theorems.whole_no_other.Goals as goal

pub returns : goal.returns
returns c = whole_no_other_lem
