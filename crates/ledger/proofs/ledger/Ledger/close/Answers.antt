use Rattle.std.proofs.Common.{◌≡◌, ℕ, List, Some, None, Ok, Option, sym, refl, ap, ◌∙◌}
use Rattle.std.specs.Option.{option_map}
use Rattle.line.specs.declared.refusal.Holder.{Holder}
use Rattle.line.specs.declared.refusal.Refusal.TheVariants.{Account}
use Rattle.line.specs.Held.{held as line_held}
use Rattle.account.specs.declared.booking.Booking.TheVariants.{Closing}
use Rattle.account.specs.declared.booking.Done.TheVariants.{Closed}
use Rattle.posting.specs.Run.{Answer}
use Rattle.posting.specs.Posting.{booked, out_of_range, refused}
use Rattle.ledger.specs.Held.{state_of, held, cleared}
use Rattle.ledger.specs.declared.ledger.Ledger.{Ledger}
use Rattle.ledger.proofs.Answering.{posted_not, posted_so}
use Rattle.ledger.proofs.Ranges.{cleared_off, accounts_fit, counts_fit}
use Rattle.ledger.proofs.ledger.Ledger.close.Goals as goal

-- why the closing is refused, from what it would leave
closing_refused : (at : ℕ) (g : Ledger) (accounts odd : List ℕ) → cleared (state_of (line_held g.line.now) accounts odd g.costs.now) ≡ booked (held g) Closing →
    (r : Option Holder) → r ≡ out_of_range (state_of (line_held g.line.now) accounts odd g.costs.now) → refused at (held g) Closing ≡ option_map (Account at) r
unfolding refused
closing_refused at g accounts odd after r is = ap (option_map (Account at)) (sym (is ∙ sym (cleared_off (state_of (line_held g.line.now) accounts odd g.costs.now)) ∙ ap out_of_range after))

pub returns-in-Some-clause-posted : goal.returns-in-Some-clause-posted
returns-in-Some-clause-posted c =
    let g = c.args.self.now in
    let b = c.compute.result.0 in
    posted_not c.args.at (held g) _ _ (closing_refused c.args.at g b.accounts b.odd c.compute.ensures.after (Some c.in-Some.whose) (c.in-Some.ensures (line_held g.line.now) g.costs.now refl))

pub write-requires : goal.write-requires
write-requires c =
    let g = c.args.self.now in
    let b = c.compute.result.0 in
    let nobody = c.in_default.ensures (line_held g.line.now) g.costs.now refl in
    record { accounts_fit = accounts_fit (line_held g.line.now) b.accounts b.odd g.costs.now nobody; odd_fit = counts_fit (line_held g.line.now) b.accounts b.odd g.costs.now nobody }

pub returns-clause-posted : goal.returns-clause-posted
returns-clause-posted c =
    let g = c.args.self.now in
    let b = c.compute.result.0 in
    let fine = closing_refused c.args.at g b.accounts b.odd c.compute.ensures.after None (c.in_default.ensures (line_held g.line.now) g.costs.now refl) in
    let so = posted_so c.args.at (held g) _ Closing fine (c.write.ensures.after ∙ c.compute.ensures.after) in
    record { answer = ap {B = Answer} (λ n. Ok (Closed (record { 0 = n }))) c.compute.ensures.total ∙ so.answer; after = so.after }
