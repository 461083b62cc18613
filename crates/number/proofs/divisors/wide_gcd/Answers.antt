use Rattle.number.proofs.Euclid.{greatest_zero, greatest_rest}
use Rattle.number.proofs.divisors.wide_gcd.Goals as goal

pub loop-rest-preserved : goal.loop-rest-preserved
loop-rest-preserved c = λ g h. c.loop-rest.invariant g (greatest_rest _ _ g h)

pub returns : goal.returns
returns c = c.loop-rest.invariant _ (rw c.loop-rest-test.false (greatest_zero _))
