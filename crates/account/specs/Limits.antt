-- How large accounts and bookings may be.
use Rattle.std.specs.Prelude.{ℕ}

-- an account is at most this many cents away from 0
unfoldable pub account_most : ℕ
account_most = 1000000000000

-- the most cents of one booking
unfoldable pub booking_most : ℕ
booking_most = 1000000000
