use mir.Facts.{Fits-of_lt}
use Rattle.std.proofs.Common.{arith}
use Rattle.number.proofs.Euclid.{greatest_fits}
use Rattle.number.proofs.divisors.gcd.Goals as goal

pub overflow_cast-result : goal.overflow_cast-result
overflow_cast-result c = Fits-of_lt (greatest_fits _ _ _ _ c.wide_gcd.ensures (omega arith) (omega arith))
