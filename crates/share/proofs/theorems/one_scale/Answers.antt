use Rattle.share.proofs.Leasts.{one_scale_lem}
use Rattle.share.proofs.theorems.one_scale.Goals as goal

pub returns : goal.returns
returns c = one_scale_lem
