use Rattle.std.proofs.Common.{length, Some, None, sym, refl, ap, ◌∙◌, arith}
use Rattle.line.specs.declared.refusal.Refusal.TheVariants.{Account}
use Rattle.ledger.specs.Open.{blank}
use Rattle.ledger.proofs.Lending.{enough, lent_on}
use Rattle.ledger.proofs.open.check_lent.Goals as goal

pub returns-in-Some : goal.returns-in-Some
returns-in-Some c =
    ap (λ n. Some (Account n c.in-Some.whose)) c.account_place.ensures
    ∙ sym (lent_on c.args.size c.args.accounts.now c.args.odd.now c.args.costs.now (length c.args.sheet.now) c.if-accounts-farms.false c.if-odd-farms.false (enough _ _ c.in_ok-check_enough.ensures) None (Some c.in-Some.whose)
    (omega (arith, c.sheet_bytes.ensures, c.if-sheet-sheet_bytes.false)) c.in_ok-check_costs.ensures (c.in-Some.ensures (blank c.args.size) c.args.costs.now refl))

pub returns-in-None : goal.returns-in-None
returns-in-None c =
    sym (lent_on c.args.size c.args.accounts.now c.args.odd.now c.args.costs.now (length c.args.sheet.now) c.if-accounts-farms.false c.if-odd-farms.false (enough _ _ c.in_ok-check_enough.ensures) None None
    (omega (arith, c.sheet_bytes.ensures, c.if-sheet-sheet_bytes.false)) c.in_ok-check_costs.ensures (c.in-None.ensures (blank c.args.size) c.args.costs.now refl))
