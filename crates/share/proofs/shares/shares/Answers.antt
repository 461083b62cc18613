use Rattle.std.proofs.Common.{◌++◌, drop, None, Some, refl, sym, ap, ◌∙◌, subst₂, arith}
use Rattle.std.proofs.lemmas.List.{length-take-le}
use Rattle.line.specs.Held.{held}
use Rattle.share.specs.Answer.{at, few_refused, costs_refused, shares_refused, OverScale}
use Rattle.share.specs.Asked.{Asked}
use Rattle.share.specs.Least.{ScaleAnswer}
use Rattle.share.proofs.Answering.{over_scale}
use Rattle.share.proofs.Refusing.{passed_on, costs_small}
use Rattle.share.proofs.shares.shares.Goals as goal

pub returns-then-row-line-clause-refused : goal.returns-then-row-line-clause-refused
unfolding shares_refused
returns-then-row-line-clause-refused c = grind arith

pub returns-in_err-year-clause-refused : goal.returns-in_err-year-clause-refused
unfolding few_refused costs_refused shares_refused
returns-in_err-year-clause-refused c = passed_on _ _ c.from_residual.ensures.1 ∙ grind (arith, c.in_err-year.ensures.refused)

pub returns-in_err-check_large-clause-refused : goal.returns-in_err-check_large-clause-refused
unfolding few_refused costs_refused shares_refused
returns-in_err-check_large-clause-refused c = passed_on _ _ c.from_residual-in_err-check_large.ensures.1 ∙ grind (arith, c.in_ok-year.ensures.refused, c.in_ok-year.ensures.same, c.in_err-check_large.ensures)

pub returns-in_default-clause-refused : goal.returns-in_default-clause-refused
unfolding few_refused costs_refused shares_refused
returns-in_default-clause-refused c = grind (arith, c.in_ok-year.ensures.refused, c.in_ok-year.ensures.same, c.in_ok-check_large.ensures)

pub returns-in_default-clause-answer : goal.returns-in_default-clause-answer
returns-in_default-clause-answer c =
    let same = c.in_ok-year.ensures.same in
    (subst₂ (λ line costs. ScaleAnswer (held line) (at costs) None) same.0 same.1 c.in_default.ensures, refl)

pub add_up-requires-clause-asked : goal.add_up-requires-clause-asked
add_up-requires-clause-asked c =
    let year = c.in_ok-year.year in
    record { enough = year.enough; small = costs_small year.line.now.size.parts year.costs.now (sym c.in_ok-check_large.ensures); least = c.in-Some.ensures.0; below = c.in-Some.ensures.1 }

pub returns-clause-refused : goal.returns-clause-refused
unfolding few_refused costs_refused shares_refused
returns-clause-refused c = grind (arith, c.in_ok-year.ensures.refused, c.in_ok-year.ensures.same, c.in_ok-check_large.ensures)

pub returns-clause-answer : goal.returns-clause-answer
returns-clause-answer c =
    let year = c.in_ok-year.year in
    let same = c.in_ok-year.ensures.same in
    let s = c.in-Some.scale in
    let small = costs_small year.line.now.size.parts year.costs.now (sym c.in_ok-check_large.ensures) in
    let asked : Asked (held year.line.now) year.costs.now s = record { enough = year.enough; small = small; least = c.in-Some.ensures.0; below = c.in-Some.ensures.1 } in
    let long = c.add_up.auto.row ∙ length-take-le _ _ c.if-row-line.false ∙ ap (λ line. line.size.farms) (sym same.0) in
    subst₂ (λ line costs. ScaleAnswer (held line) (at costs) (Some s) × OverScale (held line) costs c.args.row.now (c.add_up.new.row ++ drop line.size.farms c.args.row.now) s) same.0 same.1
    (over_scale (held year.line.now) year.costs.now s asked year.line.now.sound.used year.line.now.sound.parts.1 c.add_up.new.row c.args.row.now long c.add_up.ensures)
