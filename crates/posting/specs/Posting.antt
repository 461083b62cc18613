-- What a booking does, and when it is refused.
use Rattle.std.specs.Prelude.{ℕ, ◌+◌, Bool, cond, not, ◌&&◌, ◌||◌, pos, ◌+ℤ◌, ◌-ℤ◌, is_some, Some, None, Option, nat_lt}
use Rattle.std.specs.Option.{option_map}
use Rattle.number.specs.First.{first, some}
use Rattle.number.specs.Sum.{sum}
use Rattle.line.specs.declared.refusal.Holder.{Holder}
use Rattle.line.specs.declared.refusal.Holder.TheVariants.{Farm as OfFarm, Cooperative}
use Rattle.line.specs.declared.refusal.Refusal.{Refusal}
use Rattle.line.specs.declared.refusal.Refusal.TheVariants.{Unknown, Amount, Account}
use Rattle.line.specs.Limits.{costs_end}
use Rattle.account.specs.Range.{in_range, bookable}
use Rattle.account.specs.declared.booking.Booking.{Booking}
use Rattle.account.specs.declared.booking.Booking.TheVariants.{Cost, Payment, Closing}
use Rattle.share.specs.Cost.{together, only}
use Rattle.share.specs.Weight.{Weights, once}
use Rattle.cents.specs.Answer.{past}
use Rattle.cents.specs.Closing.{odds, charged}
use Rattle.cents.specs.Split.{cents}
use Rattle.posting.specs.State.{State}

-- how much a farm counts for a part: each user once
abbrev pub weights : State → Weights
weights s = once s.line

-- what farm i pays of part e at a closing: parts are split by their numbers, each with the odd cents that the parts before it left
abbrev pub part_cents : State → ℕ → ℕ → ℕ
part_cents s i e = cents s.line (weights s) e (s.costs e) (odds s.line (weights s) s.costs s.odd e) i

-- what farm i pays at a closing
abbrev pub closing_cents : State → ℕ → ℕ
closing_cents s i = charged s.line (weights s) s.costs s.odd i s.line.parts

-- what all farms pay
abbrev pub closing_total : State → ℕ
closing_total s = sum s.line.farms (closing_cents s)

-- A cost is added to the costs of its part and taken from the cooperative's account; a payment goes into the farm's.
-- A closing takes what each farm pays from its account, all of it into the cooperative's, and leaves no costs.
unfoldable pub booked : State → Booking → State
booked s (Cost p c) = record {
  line = s.line;
  accounts = s.accounts;
  cooperative = s.cooperative -ℤ pos c.0;
  costs = together s.costs (only p.0 c.0);
  odd = s.odd;
}
booked s (Payment f c) = record {
  line = s.line;
  accounts = λ i. s.accounts i +ℤ pos (only f.0 c.0 i);
  cooperative = s.cooperative;
  costs = s.costs;
  odd = s.odd;
}
booked s Closing = record {
  line = s.line;
  accounts = λ i. s.accounts i -ℤ pos (closing_cents s i);
  cooperative = s.cooperative +ℤ pos (closing_total s);
  costs = λ _. 0;
  odd = odds s.line (weights s) s.costs s.odd s.line.parts;
}

-- farm i's account or its count of odd cents is out of range
unfoldable pub off : State → ℕ → Bool
off s i = not (in_range (s.accounts i)) || past s.odd i

-- whose account or count is out of range: the first farm's that is, and after all farms the cooperative's
unfoldable pub out_of_range : State → Option Holder
out_of_range s =
    cond (some s.line.farms (off s)) (Some (OfFarm (record { 0 = first s.line.farms (off s) })))
    (cond (in_range s.cooperative) None (Some Cooperative))

-- Whether booking k is refused: there is no such part or farm; then its cents are out of range, or the costs of its part would be; then an account or a count would be
unfoldable pub refused : ℕ → State → Booking → Option Refusal
refused k s (Cost p c) =
    cond (not (nat_lt p.0 s.line.parts)) (Some (Unknown k))
    (cond (not (bookable c.0 && nat_lt (s.costs p.0 + c.0) costs_end)) (Some (Amount k))
    (cond (in_range (s.cooperative -ℤ pos c.0)) None (Some (Account k Cooperative))))
refused k s (Payment f c) =
    cond (not (nat_lt f.0 s.line.farms)) (Some (Unknown k))
    (cond (not (bookable c.0)) (Some (Amount k))
    (cond (in_range (s.accounts f.0 +ℤ pos c.0)) None (Some (Account k (OfFarm f)))))
refused k s Closing = option_map (Account k) (out_of_range (booked s Closing))

-- a booking is taken if it is not refused; its place has no part in that
abbrev pub taken : State → Booking → Bool
taken s b = not (is_some (refused 0 s b))

-- the state after a booking; a refused one leaves it as it was
unfoldable pub post : State → Booking → State
post s b = cond (taken s b) (booked s b) s
