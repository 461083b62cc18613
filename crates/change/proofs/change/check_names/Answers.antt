use Rattle.std.proofs.Common.{arith}
use Rattle.change.specs.Change.{known_or}
use Rattle.change.proofs.change.check_names.Goals as goal

pub returns-then-part-line : goal.returns-then-part-line
unfolding known_or
returns-then-part-line c = grind arith

pub returns-then-farm-line : goal.returns-then-farm-line
unfolding known_or
returns-then-farm-line c = grind arith

pub returns : goal.returns
unfolding known_or
returns c = grind arith
