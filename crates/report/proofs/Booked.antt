-- What is told of a row that was booked.
use Rattle.std.proofs.Common.{◌≡◌, ℕ, ◌<◌, ◌≤◌, cond, List, length, get_or, Some, None, Ok, Err, sym, refl, ap, ◌∙◌, ap₂, inl, inr, arith}
use Rattle.std.proofs.lemmas.List.FromFn.{fill_by_all}
use Rattle.std.proofs.lemmas.Option.{none-some}
use Rattle.std.proofs.lemmas.Bool.{cases_lt, lt-ltb, le-ltb}
use Rattle.line.specs.declared.refusal.Refusal.{Refusal}
use Rattle.line.specs.declared.refusal.Refusal.TheVariants.{Length}
use Rattle.account.specs.declared.booking.Done.TheVariants.{Booked}
use Rattle.posting.specs.Run.{Answer, run, answer, entry, entries, bookings}
use Rattle.posting.specs.State.{State}
use Rattle.ledger.specs.Row.{answers_of, row_refused, Done}
use Rattle.report.specs.Report.{report_text}
use Rattle.report.specs.Told.{answer_at, row_text}

-- where enough answers are lent, no row is refused
pub never_refused : (row : List ℕ) (lent : ℕ) (e : Refusal) → answers_of row ≤ lent → Some e ≡ row_refused row lent → ⊥
unfolding row_refused
never_refused row lent e room h =
    let is : row_refused row lent ≡ None = rw (le-ltb lent (answers_of row) room) refl in
    none-some e (sym (h ∙ is))

module _ (s t : State) (row : List ℕ) (before after : List Answer) (done : Done s row before t after) where
  each : (k : ℕ) → k < answers_of row → get_or after k (Ok Booked) ≡ answer_at s row k
  each k h =
      elim (cases_lt k (bookings row)) [
        | inl low ↦ done.each k low ∙ sym (ap (λ b. cond b (answer k (run s (entries row k)) (entry row k)) (Err (Length (length row)))) (lt-ltb k (bookings row) low))
        | inr high ↦
            let last : bookings row ≡ k = omega arith in
            ap (λ n. get_or after n (Ok Booked)) (sym last) ∙ done.end (omega arith)
            ∙ sym (ap (λ b. cond b (answer k (run s (entries row k)) (entry row k)) (Err (Length (length row)))) (le-ltb k (bookings row) high))
      ]

  -- where just as many answers are lent as the row takes, the report of them is the row's text
  pub told_row : length after ≡ answers_of row → report_text after t ≡ row_text s row
  unfolding row_text
  told_row long = ap₂ report_text (fill_by_all (answer_at s row) after (answers_of row) (Ok Booked) long each) done.state
