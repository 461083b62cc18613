-- The text that tells how a row of bookings was answered, and the accounts after it.
use Rattle.std.specs.Prelude.{ℕ, zero, suc, List, [], ◌++◌, length, ℤ, codes, decimal, Ok, Err, slice_index_or}
use Rattle.std.specs.Fmt.{signed_decimal}
use Rattle.line.specs.declared.refusal.Holder.{Holder}
use Rattle.line.specs.declared.refusal.Holder.TheVariants.{Farm as OfFarm, Cooperative}
use Rattle.line.specs.Refusals.{holder_text, told}
use Rattle.account.specs.declared.booking.Done.TheVariants.{Booked, Closed}
use Rattle.posting.specs.Run.{Answer}
use Rattle.posting.specs.State.{State}

-- the line that tells the answer to booking k: none where it was booked, and otherwise what a closing came to, or the refusal
abbrev pub answer_text : ℕ → Answer → List ℕ
answer_text k (Ok Booked) = []
answer_text k (Ok (Closed c)) = codes "booking " ++ (decimal k ++ (codes " closed " ++ (decimal c.0 ++ codes "\n")))
answer_text k (Err e) = told e ++ codes "\n"

-- the lines of the first k answers
unfoldable pub answers_text : List Answer → ℕ → List ℕ
answers_text xs zero = []
answers_text xs (suc k) = answers_text xs k ++ answer_text k (slice_index_or xs k (Ok Booked))

-- the line that tells whose account it is, and the account in cents, with a sign where it is below 0
abbrev pub account_text : Holder → ℤ → List ℕ
account_text whose z = holder_text whose ++ (codes " " ++ (signed_decimal z ++ codes "\n"))

-- the lines of the first n farms
unfoldable pub accounts_text : State → ℕ → List ℕ
accounts_text s zero = []
accounts_text s (suc n) = accounts_text s n ++ account_text (OfFarm (record { 0 = n })) (s.accounts n)

-- all of it: the answers in order, then the farms' accounts, then the cooperative's
abbrev pub report_text : List Answer → State → List ℕ
report_text xs s = answers_text xs (length xs) ++ (accounts_text s s.line.farms ++ account_text Cooperative s.cooperative)
