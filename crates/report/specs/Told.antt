-- What is told of the bytes of a line and of a row of bookings.
use Rattle.std.specs.Prelude.{◌≡◌, ℕ, true, cond, List, map, length, is_ok, Ok, Err, string_bytes, Result, String, nat_lt}
use Rattle.std.specs.List.{range_with_len}
use Rattle.std.specs.declared.alloc.Global.{Global}
use Rattle.line.specs.declared.refusal.Refusal.{Refusal}
use Rattle.line.specs.declared.refusal.Refusal.TheVariants.{Length}
use Rattle.line.specs.Bytes.{meant}
use Rattle.line.specs.Limits.{most_farms, most_parts}
use Rattle.line.specs.Reading.{reading}
use Rattle.line.specs.Rows.{word_length}
use Rattle.line.specs.declared.size.Size.{Size}
use Rattle.posting.specs.Run.{Answer, run, answer, entry, entries, bookings}
use Rattle.posting.specs.State.{State}
use Rattle.posting.specs.Years.{empty}
use Rattle.ledger.specs.Row.{answers_of}
use Rattle.report.specs.Report.{report_text}
use Rattle.report.specs.declared.untold.Untold.{Untold}
use Rattle.report.specs.declared.untold.Untold.TheVariants.{Refused, OutOfMemory}

-- answer k to a row that is booked from the state s on: each booking is answered as the state before it asks, and bytes left at the end are refused at the length of the row
abbrev pub answer_at : State → List ℕ → ℕ → Answer
answer_at s row k = cond (nat_lt k (bookings row)) (answer k (run s (entries row k)) (entry row k)) (Err (Length (length row)))

-- all of them
abbrev pub answers : State → List ℕ → List Answer
answers s row = map (answer_at s row) (range_with_len 0 (answers_of row))

-- the text for a row: its answers, and the accounts after it
unfoldable pub row_text : State → List ℕ → List ℕ
row_text s row = report_text (answers s row) (run s (entries row (bookings row)))

-- the answer to the bytes of a line, where words for the largest line are at hand
abbrev pub line_answer : List ℕ → Result Size Refusal
line_answer b = reading b (word_length most_farms most_parts)

-- what is told of a line and a row: the text for the row from the line that the bytes mean, with nothing booked before; or why the line is refused; or nothing, where memory runs out
abbrev pub Told : (b row : List ℕ) → Result (String Global) Untold → Type 0
Told b row (Ok t) = (is_ok (line_answer b) ≡ true) × (string_bytes t ≡ row_text (empty (meant b)) row)
Told b row (Err (Refused e)) = line_answer b ≡ Err e
Told b row (Err OutOfMemory) = Unit {0}
