use Rattle.std.proofs.Common.{false, [], ap, ◌∙◌, arith}
use Rattle.std.specs.Bool.{then_some}
use Rattle.line.specs.Line.{Line}
use Rattle.line.specs.declared.refusal.Holder.TheVariants.{Cooperative}
use Rattle.ledger.proofs.Ranges.{farm_found, no_farm_found}
use Rattle.ledger.proofs.closing.whose_off.Goals as goal

pub overflow_cast-result : goal.overflow_cast-result
overflow_cast-result c =
    let l : Line = record { farms = c.args.farms; parts = 0; uses = λ _ _. false } in
    omega (arith, farm_found l c.args.accounts.now c.args.odd.now [] c.requires.accounts c.requires.odd c.in-Some.i c.in-Some.ensures)

pub returns-in-Some : goal.returns-in-Some
returns-in-Some c = λ l costs e.
    (farm_found l c.args.accounts.now c.args.odd.now costs (rw e c.requires.accounts) (rw e c.requires.odd) c.in-Some.i (rw e c.in-Some.ensures)).1

pub returns-in-None : goal.returns-in-None
returns-in-None c = λ l costs e.
    c.then_some.ensures ∙ ap (λ b. then_some b Cooperative) (rw e c.is_out.ensures)
    ∙ no_farm_found l c.args.accounts.now c.args.odd.now costs (rw e c.requires.accounts) (rw e c.requires.odd) (rw e c.in-None.ensures)
