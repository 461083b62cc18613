use Rattle.std.proofs.Common.{◌+◌, rules, sym, ap, ◌∙◌, arith}
use Rattle.line.specs.Held.{held}
use Rattle.number.proofs.Along.{along_start, along_turn, along_end}
use Rattle.share.proofs.Dues.{owed, owed_small, each_small, owed_used, owed_unused}
use Rattle.share.proofs.Scales.{due_none}
use Rattle.share.proofs.year.Year.due_of.Goals as goal

pub loop-e-init : goal.loop-e-init
loop-e-init c =
    let year = c.args.self.now in
    let start = along_start year.line.now.size.parts year.costs.now _ _ c.into_iter-e-iterator.ensures.into_iter_gives c.zip-e-items.ensures.first (search rules) in
    (((tt, tt), tt), start.0, sym (due_none _ _ _ _) ∙ ap (owed (held year.line.now) c.args.scale year.costs.now c.args.farm.0) (sym start.1))

pub overflow_mul-due : goal.overflow_mul-due
overflow_mul-due c =
    let year = c.args.self.now in
    let turn = along_turn c.loop-e.invariant.1 c.next.new.self c.in-Some.cost c.in-Some.ensures.steps in
    omega (arith, each_small c.args.scale c.users.result c.in-Some.cost.now c.requires.asked.below (omega (arith, turn.item, c.requires.asked.small c.in-Some.e turn.below)))

pub overflow_add-due : goal.overflow_add-due
overflow_add-due c =
    let year = c.args.self.now in
    let l = held year.line.now in
    let e = c.in-Some.e in
    let turn = along_turn c.loop-e.invariant.1 c.next.new.self c.in-Some.cost c.in-Some.ensures.steps in
    omega (
      arith,
      owed_used l c.args.scale year.costs.now c.args.farm.0 e _ _ _ (sym c.if-uses.ensures) c.users.ensures turn.item (c.loop-e.invariant.2 ∙ ap (owed l c.args.scale year.costs.now c.args.farm.0) (sym turn.here)),
      owed_small l c.args.scale year.costs.now c.requires.asked year.line.now.sound.used year.line.now.sound.parts.1 c.args.farm.0 (e + 1) c.requires.member (omega (arith, turn.below)),
    )

pub loop-e-preserved-then-uses : goal.loop-e-preserved-then-uses
loop-e-preserved-then-uses c =
    let year = c.args.self.now in
    let l = held year.line.now in
    let due = owed l c.args.scale year.costs.now c.args.farm.0 in
    let turn = along_turn c.loop-e.invariant.1 c.next.new.self c.in-Some.cost c.in-Some.ensures.steps in (
      ((tt, tt), tt),
      turn.along,
      owed_used l c.args.scale year.costs.now c.args.farm.0 c.in-Some.e _ _ _ (sym c.if-uses.ensures) c.users.ensures turn.item (c.loop-e.invariant.2 ∙ ap due (sym turn.here)) ∙ ap due (sym turn.next),
    )

pub loop-e-preserved : goal.loop-e-preserved
loop-e-preserved c =
    let year = c.args.self.now in
    let l = held year.line.now in
    let due = owed l c.args.scale year.costs.now c.args.farm.0 in
    let turn = along_turn c.loop-e.invariant.1 c.next.new.self c.in-Some.cost c.in-Some.ensures.steps in (
      ((tt, tt), tt),
      turn.along,
      owed_unused l c.args.scale year.costs.now c.args.farm.0 c.in-Some.e _ (sym c.if-uses.ensures) (c.loop-e.invariant.2 ∙ ap due (sym turn.here)) ∙ ap due (sym turn.next),
    )

pub returns : goal.returns
returns c =
    let year = c.args.self.now in
    let l = held year.line.now in
    c.loop-e.invariant.2 ∙ ap (owed l c.args.scale year.costs.now c.args.farm.0) (along_end c.loop-e.invariant.1 c.next.new.self year.enough c.in-None.ensures.steps)
