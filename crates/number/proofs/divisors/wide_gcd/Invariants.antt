use Rattle.std.proofs.Common.{ℕ}
use Rattle.number.specs.Divisors.{Greatest}
use Rattle.number.proofs.divisors.wide_gcd.Given as goal

-- what is the greatest common divisor of the two that are left is that of the two that were given
abbrev pub invariant-loop-rest : goal.invariant-loop-rest
invariant-loop-rest l = (g : ℕ) → Greatest l.d l.rest g → Greatest l.a l.b g

-- the remainder falls
abbrev pub decreases-loop-rest : goal.decreases-loop-rest
decreases-loop-rest l = l.rest
