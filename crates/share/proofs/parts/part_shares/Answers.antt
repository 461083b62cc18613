use Rattle.std.proofs.Common.{sym, ◌∙◌, subst₂, arith}
use Rattle.number.proofs.Fractions.{same_sym, ◌then◌}
use Rattle.line.specs.Held.{held}
use Rattle.share.specs.Answer.{at, few_refused, known_refused, parts_refused, Rows}
use Rattle.share.proofs.Lists.{total_listed}
use Rattle.share.proofs.Once.{once_rule_lem}
use Rattle.share.proofs.Promised.{fair_share}
use Rattle.share.proofs.Refusing.{passed_on, known_fine}
use Rattle.share.proofs.parts.part_shares.Goals as goal

pub returns-in_err-year-clause-refused : goal.returns-in_err-year-clause-refused
unfolding few_refused parts_refused
returns-in_err-year-clause-refused c = passed_on _ _ c.from_residual.ensures.1 ∙ grind (arith, c.in_err-year.ensures.refused)

pub returns-then-rows-line-clause-refused : goal.returns-then-rows-line-clause-refused
unfolding few_refused parts_refused
returns-then-rows-line-clause-refused c = grind (arith, c.in_ok-year.ensures.refused)

pub returns-in_err-check_farm-clause-refused : goal.returns-in_err-check_farm-clause-refused
unfolding few_refused known_refused parts_refused
returns-in_err-check_farm-clause-refused c = passed_on _ _ c.from_residual-in_err-check_farm.ensures.1 ∙ grind (arith, c.in_ok-year.ensures.refused, c.in_ok-year.ensures.same, c.in_err-check_farm.ensures)

pub list_parts-requires : goal.list_parts-requires
list_parts-requires c = grind (arith, c.in_ok-year.ensures.same)

pub returns-clause-refused : goal.returns-clause-refused
unfolding few_refused known_refused parts_refused
returns-clause-refused c = grind (arith, c.in_ok-year.ensures.refused, c.in_ok-year.ensures.same, c.in_ok-check_farm.ensures)

pub returns-clause-answer : goal.returns-clause-answer
returns-clause-answer c =
    let year = c.in_ok-year.year in
    let l = held year.line.now in
    let costs = at year.costs.now in
    let i = c.args.farm.0 in
    let fine = known_fine l year.costs.now i (sym c.in_ok-check_farm.ensures) in
    let share = total_listed l costs i l.parts then same_sym (once_rule_lem l year.line.now.sound.used costs i) in
    subst₂ (λ line costs. Rows (held line) costs i c.args.rows.now c.list_parts.new.rows c.list_parts.result) c.in_ok-year.ensures.same.0 c.in_ok-year.ensures.same.1
    (record {
      rows = c.list_parts.ensures.front;
      count = c.list_parts.ensures.count;
      share = share;
      fair = λ r f. share then fair_share l year.line.now.sound.used costs i fine.0 r f;
      rest = c.list_parts.ensures.rest;
    })
