-- A booking as seven bytes: its kind, a part or farm in two bytes, and cents in four, low byte first, with zeros where there is nothing to say.
use Rattle.std.specs.Prelude.{◌≡◌, ℕ, cond, ◌&&◌, List, ◌∷◌, ◌++◌, length, Some, None, Err, Option, Result, ◌==◌, slice_index}
use Rattle.std.specs.Option.{ok_or}
use Rattle.line.specs.Bytes.{two_at, two}
use Rattle.line.specs.declared.refusal.Refusal.{Refusal}
use Rattle.line.specs.declared.refusal.Refusal.TheVariants.{Length, Kind}
use Rattle.account.specs.Bytes.{four_at, four}
use Rattle.account.specs.declared.booking.Booking.{Booking}
use Rattle.account.specs.declared.booking.Booking.TheVariants.{Cost, Payment, Closing}

-- how many bytes a booking takes
abbrev pub booking_bytes : ℕ
booking_bytes = 7

-- the bytes of a booking: kind 1 is a cost, 2 a payment, 3 the closing
abbrev pub bytes_of : Booking → List ℕ
bytes_of (Cost p c) = 1 ∷ (two p.0 ++ four c.0)
bytes_of (Payment f c) = 2 ∷ (two f.0 ++ four c.0)
bytes_of Closing = 3 ∷ (two 0 ++ four 0)

-- the booking of kind k, with the number w of a part or farm, and c cents
abbrev pub booking : (k w c : ℕ) → Option Booking
booking k w c =
    cond (k == 1) (Some (Cost (record { 0 = w }) (record { 0 = c })))
    (cond (k == 2) (Some (Payment (record { 0 = w }) (record { 0 = c })))
    (cond (k == 3 && (w == 0 && c == 0)) (Some Closing) None))

-- the booking that seven bytes mean, if they mean one
unfoldable pub meant : List ℕ → Option Booking
meant b = booking (slice_index b 0) (two_at b 1) (four_at b 3)

-- the answer to the bytes at place k of a row: other than seven bytes are refused at their number, and bytes that mean no booking at k
unfoldable pub reading : ℕ → List ℕ → Result Booking Refusal
reading k b = cond (length b == booking_bytes) (ok_or (meant b) (Kind k)) (Err (Length (length b)))

-- seven bytes mean a booking exactly if they are its bytes
pub record Right (b : List ℕ) : Type 0 where
  pub sound : length b ≡ booking_bytes → (x : Booking) → meant b ≡ Some x → b ≡ bytes_of x
  pub whole : (x : Booking) → b ≡ bytes_of x → meant b ≡ Some x
