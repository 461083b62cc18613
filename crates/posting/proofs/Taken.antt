-- When a booking is taken.
use Rattle.std.proofs.Common.{◌≡◌, ℕ, ◌+◌, ◌<◌, true, false, pos, ◌+ℤ◌, ◌-ℤ◌, refl, arith}
use Rattle.std.proofs.lemmas.Bool.{not-false, or_parts, leb-false, lt-ltb}
use Rattle.std.proofs.lemmas.Bool.Decides.{nat_tests}
use Rattle.number.specs.First.{some}
use Rattle.number.specs.declared.cents.Cents.{Cents}
use Rattle.number.proofs.Firsts.{each_fails}
use Rattle.line.specs.declared.names.Farm.{Farm}
use Rattle.line.specs.declared.names.Part.{Part}
use Rattle.line.specs.Limits.{costs_end}
use Rattle.account.specs.Range.{in_range, bookable}
use Rattle.account.specs.declared.booking.Booking.TheVariants.{Cost, Payment, Closing}
use Rattle.cents.specs.Limits.{counts_end}
use Rattle.posting.specs.State.{State}
use Rattle.posting.specs.Posting.{booked, off, out_of_range, refused, taken}

-- a cost: there is the part, its cents are in range, and so are the part's costs and the cooperative's account then
pub record CostFits (s : State) (p : Part) (c : Cents) : Type 0 where
  pub known : p.0 < s.line.parts
  pub right : bookable c.0 ≡ true
  pub costs : s.costs p.0 + c.0 < costs_end
  pub held : in_range (s.cooperative -ℤ pos c.0) ≡ true

-- a payment: there is the farm, its cents are in range, and so is the farm's account then
pub record PaymentFits (s : State) (f : Farm) (c : Cents) : Type 0 where
  pub known : f.0 < s.line.farms
  pub right : bookable c.0 ≡ true
  pub held : in_range (s.accounts f.0 +ℤ pos c.0) ≡ true

-- a closing: all accounts and counts that it leaves are in range
pub record ClosingFits (t : State) : Type 0 where
  pub accounts : (i : ℕ) → i < t.line.farms → in_range (t.accounts i) ≡ true
  pub odd : (i : ℕ) → i < t.line.farms → t.odd i < counts_end
  pub cooperative : in_range t.cooperative ≡ true

-- what is taken fits, and what fits is taken
pub cost_fits : (s : State) (p : Part) (c : Cents) → taken s (Cost p c) ≡ true → CostFits s p c
unfolding refused
cost_fits s p c t = record { known = grind (arith, nat_tests); right = grind (arith, nat_tests); costs = grind (arith, nat_tests); held = grind (arith, nat_tests) }

pub fits_cost : (s : State) (p : Part) (c : Cents) → CostFits s p c → taken s (Cost p c) ≡ true
unfolding refused
fits_cost s p c f = rw (lt-ltb _ _ f.known, f.right, lt-ltb _ _ f.costs, f.held) refl

pub payment_fits : (s : State) (f : Farm) (c : Cents) → taken s (Payment f c) ≡ true → PaymentFits s f c
unfolding refused
payment_fits s f c t = record { known = grind (arith, nat_tests); right = grind (arith, nat_tests); held = grind (arith, nat_tests) }

pub fits_payment : (s : State) (f : Farm) (c : Cents) → PaymentFits s f c → taken s (Payment f c) ≡ true
unfolding refused
fits_payment s f c h = rw (lt-ltb _ _ h.known, h.right, h.held) refl

-- a closing that is taken leaves no farm out of range, and not the cooperative
none_off : (s : State) → taken s Closing ≡ true → some (booked s Closing).line.farms (off (booked s Closing)) ≡ false
unfolding refused out_of_range
none_off s t = grind arith

cooperative_fits : (s : State) → taken s Closing ≡ true → in_range (booked s Closing).cooperative ≡ true
unfolding refused out_of_range
cooperative_fits s t = grind arith

pub closing_fits : (s : State) → taken s Closing ≡ true → ClosingFits (booked s Closing)
unfolding off
closing_fits s t =
    let each = λ (i : ℕ) (k : i < (booked s Closing).line.farms). or_parts _ _ (each_fails (booked s Closing).line.farms (off (booked s Closing)) (none_off s t) i k) in
    record { accounts = λ i k. not-false _ (each i k).0; odd = λ i k. leb-false counts_end ((booked s Closing).odd i) (each i k).1; cooperative = cooperative_fits s t }
