use Rattle.std.proofs.Common.{arith}
use Rattle.share.specs.Answer.{known_refused}
use Rattle.share.proofs.year.Year.check_farm.Goals as goal

pub returns-then-farm-self : goal.returns-then-farm-self
unfolding known_refused
returns-then-farm-self c = grind arith

pub returns : goal.returns
unfolding known_refused
returns c = grind arith
