use Rattle.std.proofs.Common.{sym, subst, arith, rules}
use Rattle.number.specs.Divisors.{Least}
use Rattle.line.specs.Held.{held}
use Rattle.share.specs.Answer.{at}
use Rattle.share.specs.Least.{LeastScale}
use Rattle.share.specs.Limits.{scale_end}
use Rattle.number.proofs.Along.{along_start, along_turn, along_end}
use Rattle.share.proofs.Leasts.{least_none, least_free, least_more, least_large}
use Rattle.share.proofs.year.Year.scale.Goals as goal

pub loop-e-init : goal.loop-e-init
unfolding scale_end
loop-e-init c =
    let l = held c.args.self.now.line.now in
    let costs = c.args.self.now.costs.now in
    let start = along_start l.parts costs _ _ c.into_iter-e-iterator.ensures.into_iter_gives c.zip-e-items.ensures.first (search rules) in
    (((tt, tt), tt), start.0, subst (λ k. LeastScale l (at costs) k 1) (sym start.1) (least_none l (at costs)), omega arith)

pub returns-in_err-scale : goal.returns-in_err-scale
unfolding scale_end
returns-in_err-scale c =
    let l = held c.args.self.now.line.now in
    let costs = c.args.self.now.costs.now in
    let e = c.in-Some.e in
    let s = c.loop-e.scale in
    let turn = along_turn c.loop-e.invariant.1 c.next.new.self c.in-Some.cost c.in-Some.ensures.steps in
    simp c.from_residual.ensures (
    least_large l (at costs) e s scale_end c.args.self.now.line.now.sound.used turn.below (omega (arith, turn.item, c.if-cost-gt0.true))
    (subst (λ k. LeastScale l (at costs) k s) (sym turn.here) c.loop-e.invariant.2)
    (λ m h. c.in_err-scale.ensures m (subst (λ u. Least s u m) (sym c.users.ensures) h))
    )

pub loop-e-preserved-then-cost-gt0 : goal.loop-e-preserved-then-cost-gt0
unfolding scale_end
loop-e-preserved-then-cost-gt0 c =
    let l = held c.args.self.now.line.now in
    let costs = c.args.self.now.costs.now in
    let e = c.in-Some.e in
    let s = c.loop-e.scale in
    let turn = along_turn c.loop-e.invariant.1 c.next.new.self c.in-Some.cost c.in-Some.ensures.steps in
    let new = c.in_ok-scale.ensures in
    let before = subst (λ k. LeastScale l (at costs) k s) (sym turn.here) c.loop-e.invariant.2 in
    let after = least_more l (at costs) e s c.in_ok-scale.scale (omega (arith, turn.item, c.if-cost-gt0.true)) (subst (λ u. Least s u c.in_ok-scale.scale) c.users.ensures new.0) before in
    (((tt, tt), tt), turn.along, subst (λ k. LeastScale l (at costs) k c.in_ok-scale.scale) (sym turn.next) after, new.1)

pub loop-e-preserved : goal.loop-e-preserved
loop-e-preserved c =
    let l = held c.args.self.now.line.now in
    let costs = c.args.self.now.costs.now in
    let e = c.in-Some.e in
    let s = c.loop-e.scale in
    let turn = along_turn c.loop-e.invariant.1 c.next.new.self c.in-Some.cost c.in-Some.ensures.steps in
    let before = subst (λ k. LeastScale l (at costs) k s) (sym turn.here) c.loop-e.invariant.2 in
    let after = least_free l (at costs) e s (omega (arith, turn.item, c.if-cost-gt0.false)) before in
    (((tt, tt), tt), turn.along, subst (λ k. LeastScale l (at costs) k s) (sym turn.next) after, c.loop-e.invariant.3)

pub returns : goal.returns
returns c =
    let l = held c.args.self.now.line.now in
    let costs = c.args.self.now.costs.now in
    let all = along_end c.loop-e.invariant.1 c.next.new.self c.args.self.now.enough c.in-None.ensures.steps in
    (subst (λ k. LeastScale l (at costs) k c.loop-e.scale) all c.loop-e.invariant.2, c.loop-e.invariant.3)
