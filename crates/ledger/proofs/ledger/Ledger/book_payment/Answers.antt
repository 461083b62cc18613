use Rattle.std.proofs.Common.{◌≡◌, pos, ◌+ℤ◌, sym, ap, ◌∙◌, arith}
use Rattle.std.proofs.lemmas.Bool.Decides.{nat_tests}
use Rattle.line.specs.Held.{held as line_held}
use Rattle.account.specs.Range.{in_range}
use Rattle.posting.specs.Posting.{refused}
use Rattle.ledger.specs.Held.{held}
use Rattle.ledger.proofs.Answering.{posted_so}
use Rattle.ledger.proofs.Rows.{payment_rows}
use Rattle.ledger.proofs.ledger.Ledger.book_payment.Goals as goal

pub returns-clause-posted : goal.returns-clause-posted
unfolding refused
returns-clause-posted c =
    let g = c.args.self.now in
    let is : c.in-Some.balance.cents ≡ (held g).accounts c.args.farm.0 +ℤ pos c.args.cents.0 = c.in-Some.ensures ∙ ap (λ z. z +ℤ pos c.args.cents.0) c.kept.ensures in
    let fits = ap in_range (sym is) ∙ c.in-Some.balance.range in
    posted_so c.args.at (held g) _ _ (grind (arith, nat_tests))
    (payment_rows (line_held g.line.now) g.accounts.now g.odd.now g.costs.now c.args.farm c.args.cents c.word.result c.if-farm-self.false g.fits.accounts_room (c.word.ensures ∙ is))
