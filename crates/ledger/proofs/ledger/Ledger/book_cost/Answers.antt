use Rattle.std.proofs.Common.{◌≡◌, pos, ◌-ℤ◌, sym, ap, ◌∙◌, arith}
use Rattle.std.proofs.lemmas.Bool.Decides.{nat_tests}
use Rattle.line.specs.Held.{held as line_held}
use Rattle.line.specs.Limits.{costs_end}
use Rattle.account.specs.Range.{in_range}
use Rattle.posting.specs.Posting.{refused}
use Rattle.ledger.specs.Held.{held}
use Rattle.ledger.proofs.Answering.{posted_so}
use Rattle.ledger.proofs.Rows.{cost_rows}
use Rattle.ledger.proofs.ledger.Ledger.book_cost.Goals as goal

pub overflow_add-self : goal.overflow_add-self
unfolding costs_end
overflow_add-self c = grind (arith, nat_tests, c.if-not-is_cost.ensures)

pub returns-clause-posted : goal.returns-clause-posted
unfolding refused
returns-clause-posted c =
    let g = c.args.self.now in
    let is : c.in-Some.balance.cents ≡ (held g).cooperative -ℤ pos c.args.cents.0 = c.in-Some.ensures ∙ ap (λ z. z -ℤ pos c.args.cents.0) c.kept.ensures in
    let fits = ap in_range (sym is) ∙ c.in-Some.balance.range in
    posted_so c.args.at (held g) _ _ (grind (arith, nat_tests, c.if-not-is_cost.ensures))
    (cost_rows (line_held g.line.now) g.accounts.now g.odd.now g.costs.now c.args.part c.args.cents c.word.result c.if-part-self.false g.fits.costs_room g.fits.accounts_room (c.word.ensures ∙ is))
