use Rattle.share.proofs.Weights.{once_fits_lem}
use Rattle.share.proofs.theorems.once_fits.Goals as goal

pub returns : goal.returns
returns c = once_fits_lem
