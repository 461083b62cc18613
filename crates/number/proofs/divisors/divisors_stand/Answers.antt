use Rattle.number.proofs.Euclid.{no_greater, no_smaller, only_one, always_one}
use Rattle.number.proofs.divisors.divisors_stand.Goals as goal

pub returns : goal.returns
returns c = (no_greater, no_smaller, only_one, always_one)
