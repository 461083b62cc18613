use Rattle.std.proofs.Common.{arith}
use Rattle.std.proofs.lemmas.Result.{err_from_is_err_and}
use Rattle.share.specs.Answer.{few_refused, costs_refused}
use Rattle.share.proofs.costs.check_costs.Goals as goal

pub returns-in_err-check_enough : goal.returns-in_err-check_enough
unfolding few_refused costs_refused
returns-in_err-check_enough c =
    let p = err_from_is_err_and c.from_residual.result c.from_residual.ensures.1 in
    rw (p.1, p.2) (grind (arith, c.in_err-check_enough.ensures))

pub check_large-requires : goal.check_large-requires
unfolding few_refused
check_large-requires c = grind arith

pub returns : goal.returns
unfolding few_refused costs_refused
returns c = grind arith
