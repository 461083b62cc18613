use Rattle.std.proofs.Common.{arith}
use Rattle.share.specs.Answer.{few_refused}
use Rattle.share.proofs.year.Year.new.Goals as goal

pub invariant_of-result : goal.invariant_of-result
unfolding few_refused
invariant_of-result c = record { enough = grind arith }
