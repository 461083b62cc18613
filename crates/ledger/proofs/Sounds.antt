-- The state that a ledger holds is sound, so that what is promised of rows holds of the rows that it books.
use Rattle.std.proofs.Common.{◌≡◌, ℕ, ◌%◌, ◌<◌, List, length, get_or, drop, pos, Ok, Err, sym, ap, ◌∙◌, subst, arith}
use Rattle.line.specs.declared.refusal.Refusal.TheVariants.{Length}
use Rattle.line.specs.Limits.{costs_end}
use Rattle.account.specs.Range.{in_range, account_at}
use Rattle.account.specs.declared.booking.Done.TheVariants.{Booked}
use Rattle.share.specs.Answer.{at}
use Rattle.cents.specs.Limits.{counts_end}
use Rattle.posting.specs.Laws.{Sound, Laws}
use Rattle.posting.specs.Run.{Answer, run, answer, entry, entries, bookings}
use Rattle.posting.specs.State.{State}
use Rattle.posting.proofs.Laws.{rows_right}
use Rattle.ledger.specs.Held.{held}
use Rattle.ledger.specs.Row.{answers_of, Done}
use Rattle.ledger.specs.declared.ledger.Ledger.{Ledger}
use Rattle.ledger.proofs.Rows.{inside_below}

pub ledger_sound : (g : Ledger) → Sound (held g)
ledger_sound g =
    let n = g.line.now.size.farms in
    let m = g.line.now.size.parts in
    record {
      used = g.line.now.sound.used;
      accounts = λ i h. ap in_range (inside_below n (pos 0) (account_at g.accounts.now) i h) ∙ g.fits.accounts_fit i (omega arith);
      cooperative = g.fits.accounts_fit n (omega arith);
      costs = λ e h. subst (λ x. x < costs_end) (sym (inside_below m 0 (at g.costs.now) e h)) (g.fits.costs_fit e h);
      odd = λ i h. subst (λ x. x < counts_end) (sym (inside_below n 0 (at g.odd.now) i h)) (g.fits.odd_fit i h);
    }

-- what is known after the last booking of a row
pub row_done : (g : Ledger) (t : State) (row : List ℕ) (before after : List Answer) (k : ℕ) → k ≡ bookings row → t ≡ run (held g) (entries row k) →
    ((j : ℕ) → j < k → get_or after j (Ok Booked) ≡ answer j (run (held g) (entries row j)) (entry row j)) →
    (0 < length row % 7 → get_or after (bookings row) (Ok Booked) ≡ Err (Length (length row))) → drop (answers_of row) after ≡ drop (answers_of row) before →
    Done (held g) row before t after
row_done g t row before after k all is each end rest =
    let state = is ∙ ap (λ n. run (held g) (entries row n)) all in
    let right = rows_right (held g) (entries row (bookings row)) (ledger_sound g) in
    record {
      state = state;
      each = λ j h. each j (omega arith);
      end = end;
      rest = rest;
      laws = subst (λ x. Laws (held g) (entries row (bookings row)) x) (sym state) right.1;
    }
