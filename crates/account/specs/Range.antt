-- Where an account may stand.
use Rattle.std.specs.Prelude.{ℕ, Bool, ◌&&◌, List, ℤ, pos, neg_ℤ, int_le, nat_le, nat_lt, slice_index}
use Rattle.std.specs.Int.{w64}
use Rattle.std.proofs.Common.{to_z}
use Rattle.account.specs.Limits.{account_most, booking_most}

-- whether an account may stand at so many cents
unfoldable pub in_range : ℤ → Bool
in_range z = int_le (neg_ℤ (pos account_most)) z && int_le z (pos account_most)

-- whether so many cents may be booked: one at least, and not too many
unfoldable pub bookable : ℕ → Bool
bookable c = nat_lt 0 c && nat_le c booking_most

-- the account that stands at place i of a row of words, each read with its sign
abbrev pub account_at : List ℕ → ℕ → ℤ
account_at row i = to_z w64 (slice_index row i)
