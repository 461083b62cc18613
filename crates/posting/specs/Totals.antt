-- What the bookings of a row that are taken come to.
use Rattle.std.specs.Prelude.{ℕ, zero, suc, ◌+◌, cond, List, [], ◌∷◌, ℤ, pos, ◌+ℤ◌, Some, None}
use Rattle.account.specs.declared.booking.Booking.{Booking}
use Rattle.account.specs.declared.booking.Booking.TheVariants.{Cost, Payment, Closing}
use Rattle.share.specs.Cost.{only}
use Rattle.posting.specs.State.{State}
use Rattle.posting.specs.Posting.{closing_cents, closing_total, taken}
use Rattle.posting.specs.Run.{Entry, step}

-- the number that f gives for a booking and the state before it if the booking is taken, and 0 if it is refused or can't be read
abbrev pub if_taken : (State → Booking → ℕ) → State → Entry → ℕ
if_taken f s (Some b) = cond (taken s b) (f s b) 0
if_taken f s None = 0

-- these numbers for all entries of a row added up, each with the state that the entries before it have left
unfoldable pub tally : (State → Booking → ℕ) → State → List Entry → ℕ
tally f s [] = 0
tally f s (e ∷ row) = if_taken f s e + tally f (step s e) row

-- a cost, and a cost of part e
abbrev pub cost : State → Booking → ℕ
cost s (Cost p c) = c.0
cost s (Payment f c) = 0
cost s Closing = 0

abbrev pub cost_of : ℕ → State → Booking → ℕ
cost_of e s (Cost p c) = only p.0 c.0 e
cost_of e s (Payment f c) = 0
cost_of e s Closing = 0

-- a payment, and a payment by farm i
abbrev pub payment : State → Booking → ℕ
payment s (Cost p c) = 0
payment s (Payment f c) = c.0
payment s Closing = 0

abbrev pub payment_by : ℕ → State → Booking → ℕ
payment_by i s (Cost p c) = 0
payment_by i s (Payment f c) = only f.0 c.0 i
payment_by i s Closing = 0

-- what closings book to all farms, and to farm i
abbrev pub closed : State → Booking → ℕ
closed s (Cost p c) = 0
closed s (Payment f c) = 0
closed s Closing = closing_total s

abbrev pub closed_to : ℕ → State → Booking → ℕ
closed_to i s (Cost p c) = 0
closed_to i s (Payment f c) = 0
closed_to i s Closing = closing_cents s i

-- the sum of the first n
unfoldable pub sumZ : ℕ → (ℕ → ℤ) → ℤ
sumZ zero f = pos 0
sumZ (suc n) f = f n +ℤ sumZ n f

-- all accounts together
unfoldable pub all_accounts : State → ℤ
all_accounts s = s.cooperative +ℤ sumZ s.line.farms s.accounts
