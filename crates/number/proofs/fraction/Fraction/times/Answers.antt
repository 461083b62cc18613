use Rattle.number.proofs.Fractions.{times_over}
use Rattle.number.proofs.fraction.Fraction.times.Goals as goal

pub returns : goal.returns
returns c = rw times_over c.reduced.ensures
