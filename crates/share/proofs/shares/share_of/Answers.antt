use Rattle.std.proofs.Common.{None, Ok, sym, ◌∙◌, subst₂, arith}
use Rattle.line.specs.Held.{held}
use Rattle.share.specs.Answer.{at, few_refused, known_refused, farm_refused, ShareAnswer}
use Rattle.share.specs.Asked.{Asked}
use Rattle.share.specs.Least.{ScaleAnswer}
use Rattle.share.proofs.Answering.{one_share}
use Rattle.share.proofs.Leasts.{least_positive}
use Rattle.share.proofs.Refusing.{passed_on, known_fine}
use Rattle.share.proofs.shares.share_of.Goals as goal

pub returns-in_err-year-clause-refused : goal.returns-in_err-year-clause-refused
unfolding few_refused farm_refused
returns-in_err-year-clause-refused c = passed_on _ _ c.from_residual.ensures.1 ∙ grind (arith, c.in_err-year.ensures.refused)

pub returns-in_err-check_farm-clause-refused : goal.returns-in_err-check_farm-clause-refused
unfolding few_refused known_refused farm_refused
returns-in_err-check_farm-clause-refused c = passed_on _ _ c.from_residual-in_err-check_farm.ensures.1 ∙ grind (arith, c.in_ok-year.ensures.refused, c.in_ok-year.ensures.same, c.in_err-check_farm.ensures)

pub returns-in_default-clause-refused : goal.returns-in_default-clause-refused
unfolding few_refused known_refused farm_refused
returns-in_default-clause-refused c = grind (arith, c.in_ok-year.ensures.refused, c.in_ok-year.ensures.same, c.in_ok-check_farm.ensures)

pub returns-in_default-clause-answer : goal.returns-in_default-clause-answer
returns-in_default-clause-answer c = subst₂ (λ line costs. ScaleAnswer (held line) (at costs) None) c.in_ok-year.ensures.same.0 c.in_ok-year.ensures.same.1 c.in_default.ensures

pub due_of-requires-clause-asked : goal.due_of-requires-clause-asked
due_of-requires-clause-asked c =
    let year = c.in_ok-year.year in
    let fine = known_fine (held year.line.now) year.costs.now c.args.farm.0 (sym c.in_ok-check_farm.ensures) in
    record { enough = year.enough; small = fine.1; least = c.in-Some.ensures.0; below = c.in-Some.ensures.1 }

pub due_of-requires-clause-member : goal.due_of-requires-clause-member
due_of-requires-clause-member c = (known_fine (held c.in_ok-year.year.line.now) c.in_ok-year.year.costs.now c.args.farm.0 (sym c.in_ok-check_farm.ensures)).0

pub returns-clause-refused : goal.returns-clause-refused
unfolding few_refused known_refused farm_refused
returns-clause-refused c = grind (arith, c.in_ok-year.ensures.refused, c.in_ok-year.ensures.same, c.in_ok-check_farm.ensures)

pub returns-clause-answer : goal.returns-clause-answer
returns-clause-answer c =
    let year = c.in_ok-year.year in
    let l = held year.line.now in
    let s = c.in-Some.scale in
    let fine = known_fine l year.costs.now c.args.farm.0 (sym c.in_ok-check_farm.ensures) in
    let asked : Asked l year.costs.now s = record { enough = year.enough; small = fine.1; least = c.in-Some.ensures.0; below = c.in-Some.ensures.1 } in
    subst₂ (λ line costs. ShareAnswer (held line) costs c.args.farm.0 (Ok c.new-2.result)) c.in_ok-year.ensures.same.0 c.in_ok-year.ensures.same.1
    (
    one_share l year.costs.now s asked year.line.now.sound.used year.line.now.sound.parts.1 c.args.farm.0 c.due_of.result fine.0 c.due_of.ensures c.new-2.result
    (c.new-2.ensures.fits (least_positive l (at year.costs.now) s year.line.now.sound.used c.in-Some.ensures.0))
    )
