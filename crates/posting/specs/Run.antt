-- A row of bookings, one after the other. Where no booking can be read, nothing is booked.
use Rattle.std.specs.Prelude.{ℕ, zero, suc, ◌*◌, ◌/◌, List, [], ◌∷◌, ◌++◌, length, take, drop, Some, None, Ok, Err, fold, Option, Result}
use Rattle.line.specs.declared.refusal.Refusal.{Refusal}
use Rattle.line.specs.declared.refusal.Refusal.TheVariants.{Kind}
use Rattle.account.specs.Booking.{meant}
use Rattle.account.specs.declared.booking.Booking.{Booking}
use Rattle.account.specs.declared.booking.Booking.TheVariants.{Cost, Payment, Closing}
use Rattle.account.specs.declared.booking.Done.{Done}
use Rattle.account.specs.declared.booking.Done.TheVariants.{Booked, Closed}
use Rattle.posting.specs.State.{State}
use Rattle.posting.specs.Posting.{closing_total, refused, post}

-- an entry of a row: a booking, or bytes that mean none
abbrev pub Entry : Type 0
Entry = Option Booking

-- the state after an entry
abbrev pub step : State → Entry → State
step s (Some b) = post s b
step s None = s

-- the state after a row
abbrev pub run : State → List Entry → State
run s row = fold step s row

-- what is done by a booking that is taken
abbrev pub done : State → Booking → Done
done s (Cost p c) = Booked
done s (Payment f c) = Booked
done s Closing = Closed (record { 0 = closing_total s })

-- how a booking is answered: what is done, or why nothing is booked
abbrev pub Answer : Type 0
Answer = Result Done Refusal

-- what is done, unless there is a refusal
abbrev pub unless : Option Refusal → Done → Answer
unless (Some e) d = Err e
unless None d = Ok d

-- how entry k is answered
abbrev pub answer : ℕ → State → Entry → Answer
answer k s (Some b) = unless (refused k s b) (done s b)
answer k s None = Err (Kind k)

-- entry k of a row of bytes
abbrev pub entry : List ℕ → ℕ → Entry
entry bytes k = meant (take 7 (drop (k * 7) bytes))

-- its first k entries
unfoldable pub entries : List ℕ → ℕ → List Entry
entries bytes zero = []
entries bytes (suc k) = entries bytes k ++ (entry bytes k ∷ [])

-- how many whole bookings there are
abbrev pub bookings : List ℕ → ℕ
bookings bytes = length bytes / 7
