use Rattle.std.proofs.Common.{arith}
use Rattle.number.proofs.Euclid.{only_one}
use Rattle.number.proofs.divisors.lcm_below.Goals as goal

pub returns-else-m-bound : goal.returns-else-m-bound
returns-else-m-bound c = λ m h. omega (arith, (only_one _ _).1 _ m c.in_ok-m.ensures h)
