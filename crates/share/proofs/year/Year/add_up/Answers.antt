use Rattle.std.proofs.Common.{ℕ, ◌+◌, ◌*◌, ◌/◌, ◌^◌, ◌<◌, List, rules, sym, refl, ap, ◌∙◌, subst, arith}
use mir.Facts.{Fits-of_lt}
use Rattle.line.specs.Held.{held}
use Rattle.line.specs.Limits.{most_farms, costs_end}
use Rattle.share.specs.Answer.{at}
use Rattle.share.specs.Limits.{scale_end}
use Rattle.number.proofs.Along.{along_start, along_turn, along_end}
use Rattle.share.proofs.Dues.{owed, owed_small, each_small, owed_used, owed_unused, Halfway, halfway_set}
use Rattle.share.proofs.Scales.{due_none}
use Rattle.share.proofs.year.Year.add_up.Goals as goal
use Rattle.share.proofs.year.Year.add_up.Goals.{then-uses, else-uses}

pub loop-e-init : goal.loop-e-init
loop-e-init c =
    let year = c.args.self.now in
    let l = held year.line.now in
    let start = along_start l.parts year.costs.now _ _ c.into_iter-e-iterator.ensures.into_iter_gives c.zip-e-items.ensures.first (search rules) in
    (((tt, tt), tt), start.0, λ k h. c.fill.ensures.clones k 0 (omega (arith, c.requires.room, h)) refl ∙ sym (due_none _ _ _ _) ∙ ap (owed l c.args.scale year.costs.now k) (sym start.1))

-- what a user pays of a part fits a word, whatever the scale is divided by
word_small : (scale u x : ℕ) → scale < scale_end → x < costs_end → scale / u * x < 2 ^ 64
word_small scale u x s c = omega (arith, each_small scale u x s c)

-- and so does what it owes of the parts before, with that
both_small : (x scale u y : ℕ) → x < 2 ^ 63 → scale < scale_end → y < costs_end → x + scale / u * y < 2 ^ 64
both_small x scale u y h s c = omega (arith, each_small scale u y s c)

pub overflow_mul-each : goal.overflow_mul-each
overflow_mul-each c =
    let year = c.args.self.now in
    let turn = along_turn c.loop-e.invariant.1 c.next.new.self c.in-Some.cost c.in-Some.ensures.steps in
    Fits-of_lt (word_small c.args.scale _ c.in-Some.cost.now c.requires.asked.below (omega (arith, turn.item, c.requires.asked.small c.in-Some.e turn.below)))

pub overflow_cast-i : goal.overflow_cast-i
unfolding most_farms
overflow_cast-i c = Fits-of_lt (omega (arith, c.args.self.now.line.now.sound.farms.1, c.requires.room))

pub overflow_add-due : goal.overflow_add-due
overflow_add-due c =
    let year = c.args.self.now in
    let l = held year.line.now in
    let i = c.loop-i.i in
    let e = c.in-Some.e in
    let turn = along_turn c.loop-e.invariant.1 c.next.new.self c.in-Some.cost c.in-Some.ensures.steps in
    let member : i < l.farms = omega (arith, c.requires.room) in
    let here = c.loop-i.invariant.after i (omega arith) member in
    let low : at c.loop-i.row i < 2 ^ 63 = omega (arith, here, owed_small l c.args.scale year.costs.now c.requires.asked year.line.now.sound.used year.line.now.sound.parts.1 i e member (omega (arith, turn.below))) in
    Fits-of_lt (both_small (at c.loop-i.row i) c.args.scale _ c.in-Some.cost.now low c.requires.asked.below (omega (arith, turn.item, c.requires.asked.small e turn.below)))

pub loop-i-preserved : goal.loop-i-preserved
loop-i-preserved c =
    let year = c.args.self.now in
    let l = held year.line.now in
    let i = c.loop-i.i in
    let e = c.in-Some.e in
    let turn = along_turn c.loop-e.invariant.1 c.next.new.self c.in-Some.cost c.in-Some.ensures.steps in
    let P : List ℕ → Type 0 = λ row. Halfway l c.args.scale year.costs.now row (i + 1) e in
    let here = c.loop-i.invariant.after i (omega arith) (omega (arith, c.requires.room)) in
    elim c.if-uses.branch [
      | then-uses w ↦
          subst P (sym w.row-is)
          (halfway_set l c.args.scale year.costs.now _ i e _ (omega arith) (owed_used l c.args.scale year.costs.now i e _ _ _ (sym c.uses.ensures ∙ w.if-uses.true) c.users.ensures turn.item here) c.loop-i.invariant)
      | else-uses w ↦
          subst P (sym w.row-is)
          (halfway_set l c.args.scale year.costs.now _ i e _ (omega arith) (owed_unused l c.args.scale year.costs.now i e _ (sym c.uses.ensures ∙ w.if-uses.false) here) c.loop-i.invariant)
    ]

pub loop-e-preserved : goal.loop-e-preserved
loop-e-preserved c =
    let year = c.args.self.now in
    let l = held year.line.now in
    let turn = along_turn c.loop-e.invariant.1 c.next.new.self c.in-Some.cost c.in-Some.ensures.steps in
    (((tt, tt), tt), turn.along, λ k h. c.loop-i.invariant.before k (omega (arith, c.requires.room)) ∙ ap (owed l c.args.scale year.costs.now k) (sym turn.next))

pub returns : goal.returns
returns c =
    let year = c.args.self.now in
    let l = held year.line.now in
    let all = along_end c.loop-e.invariant.1 c.next.new.self year.enough c.in-None.ensures.steps in
    λ k h. c.loop-e.invariant.2 k h ∙ ap (owed l c.args.scale year.costs.now k) all
