use Rattle.number.proofs.LowestTerms.{lowest_exists, lowest_unique, lowest_least}
use Rattle.number.proofs.Reduced.{same_fraction, fitting_unique}
use Rattle.number.proofs.fraction.arithmetic.lowest_terms_stand.Goals as goal

pub returns : goal.returns
returns c = (lowest_exists, lowest_unique, lowest_least, same_fraction, fitting_unique)
