use Rattle.share.proofs.Scales.{scaled_right}
use Rattle.share.proofs.theorems.scaled_is_right.Goals as goal

pub returns : goal.returns
returns c = scaled_right
