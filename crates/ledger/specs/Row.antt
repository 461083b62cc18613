-- What a row of bookings leaves, and how each of them is answered.
use Rattle.std.specs.Prelude.{◌≡◌, ℕ, ◌+◌, ◌/◌, ◌%◌, ◌<◌, cond, List, length, drop, Some, None, Ok, Err, Option, Result, ◌==◌, nat_lt, slice_index_or}
use Rattle.line.specs.declared.refusal.Lent.TheVariants.{Answers}
use Rattle.line.specs.declared.refusal.Refusal.{Refusal}
use Rattle.line.specs.declared.refusal.Refusal.TheVariants.{Length, Short}
use Rattle.account.specs.Booking.{meant}
use Rattle.account.specs.declared.booking.Done.TheVariants.{Booked}
use Rattle.posting.specs.Laws.{Laws}
use Rattle.posting.specs.Run.{Answer, step, run, answer, entry, entries, bookings}
use Rattle.posting.specs.State.{State}

-- how the bytes at place k of a row are answered: other than seven are refused at their number
unfoldable pub answered : ℕ → State → List ℕ → Answer
answered k s bytes = cond (length bytes == 7) (answer k s (meant bytes)) (Err (Length (length bytes)))

-- the state after them
unfoldable pub left_by : State → List ℕ → State
left_by s bytes = cond (length bytes == 7) (step s (meant bytes)) s

-- how many answers a row takes: one for each booking, and one for bytes at its end that are no whole booking
abbrev pub answers_of : List ℕ → ℕ
answers_of row = (length row + 6) / 7

-- a row is refused if too few answers are lent for it
unfoldable pub row_refused : List ℕ → ℕ → Option Refusal
row_refused row lent = cond (nat_lt lent (answers_of row)) (Some (Short Answers)) None

-- The row led from s to t as its run does. Each booking is answered as the state before it asks, and bytes left at the end are refused at the length of the row; answers past these stay.
-- And what is promised of every row holds of this one.
pub record Done (s : State) (row : List ℕ) (before : List Answer) (t : State) (after : List Answer) : Type 0 where
  pub state : t ≡ run s (entries row (bookings row))
  pub each : (k : ℕ) → k < bookings row → slice_index_or after k (Ok Booked) ≡ answer k (run s (entries row k)) (entry row k)
  pub end : 0 < length row % 7 → slice_index_or after (bookings row) (Ok Booked) ≡ Err (Length (length row))
  pub rest : drop (answers_of row) after ≡ drop (answers_of row) before
  pub laws : Laws s (entries row (bookings row)) t

-- what the call that books a row leaves
abbrev pub Row : (s : State) (row : List ℕ) (before : List Answer) (t : State) (after : List Answer) → Result (Unit {0}) Refusal → Type 0
Row s row before t after (Ok _) = Done s row before t after
Row s row before t after (Err e) = (t ≡ s) × (after ≡ before)
