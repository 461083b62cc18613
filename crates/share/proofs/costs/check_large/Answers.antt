use Rattle.line.specs.Limits.{costs_end}
use Rattle.share.proofs.Refusing.{position_refused}
use Rattle.share.proofs.costs.check_large.Goals as goal

pub returns-in-Some : goal.returns-in-Some
unfolding costs_end
returns-in-Some c = position_refused c.args.parts c.args.costs.now c.requires _ c.in-Some.ensures

pub returns-in-None : goal.returns-in-None
unfolding costs_end
returns-in-None c = position_refused c.args.parts c.args.costs.now c.requires _ c.in-None.ensures
