use Rattle.std.proofs.Common.{arith}
use Rattle.share.specs.Answer.{few_refused}
use Rattle.share.proofs.costs.check_enough.Goals as goal

pub returns-then-costs-parts : goal.returns-then-costs-parts
unfolding few_refused
returns-then-costs-parts c = grind arith

pub returns : goal.returns
unfolding few_refused
returns c = grind arith
