-- No cent is lost over any row.
use Rattle.std.proofs.Common.{◌≡◌, ℕ, zero, suc, true, List, ℤ, pos, ◌+ℤ◌, ◌-ℤ◌, refl, arith}
use borrow.Author.Differences.{ints}
use Rattle.number.specs.Sum.{sum}
use Rattle.account.specs.declared.booking.Booking.{Booking}
use Rattle.account.specs.declared.booking.Booking.TheVariants.{Cost, Payment, Closing}
use Rattle.share.specs.Cost.{only}
use Rattle.share.proofs.Building.{sum_only}
use Rattle.posting.specs.State.{State}
use Rattle.posting.specs.Posting.{closing_cents, booked, taken}
use Rattle.posting.specs.Run.{Entry, run}
use Rattle.posting.specs.Totals.{cost, payment, payment_by, closed, closed_to, sumZ, all_accounts}
use Rattle.posting.specs.Laws.{Kept}
use Rattle.posting.proofs.Runs.{run_adds}
use Rattle.posting.proofs.Taken.{payment_fits}

-- sums whose terms are raised, and lowered
sumZ_plus : (n : ℕ) (f : ℕ → ℤ) (g : ℕ → ℕ) → sumZ n (λ i. f i +ℤ pos (g i)) ≡ sumZ n f +ℤ pos (sum n g)
unfolding sumZ sum
sumZ_plus zero f g = refl
sumZ_plus (suc n) f g = omega (arith, ints, sumZ_plus n f g)

sumZ_less : (n : ℕ) (f : ℕ → ℤ) (g : ℕ → ℕ) → sumZ n (λ i. f i -ℤ pos (g i)) ≡ sumZ n f -ℤ pos (sum n g)
unfolding sumZ sum
sumZ_less zero f g = refl
sumZ_less (suc n) f g = omega (arith, ints, sumZ_less n f g)

-- what one booking does to the cooperative's account, to all accounts together, and to a farm's
cooperative_adds : (s : State) (b : Booking) → (booked s b).cooperative ≡ s.cooperative +ℤ pos (closed s b) -ℤ pos (cost s b)
unfolding booked
cooperative_adds s (Cost p c) = omega (arith, ints)
cooperative_adds s (Payment f c) = omega (arith, ints)
cooperative_adds s Closing = omega (arith, ints)

together_adds : (s : State) (b : Booking) → taken s b ≡ true → all_accounts (booked s b) ≡ all_accounts s +ℤ pos (payment s b) -ℤ pos (cost s b)
unfolding booked all_accounts
together_adds s (Cost p c) t = omega (arith, ints)
together_adds s (Payment f c) t =
    omega (arith, ints, sumZ_plus s.line.farms s.accounts (only f.0 c.0), sum_only s.line.farms f.0 c.0 (payment_fits s f c t).known)
together_adds s Closing t = omega (arith, ints, sumZ_less s.line.farms s.accounts (closing_cents s))

account_adds : (i : ℕ) (s : State) (b : Booking) → (booked s b).accounts i ≡ s.accounts i +ℤ pos (payment_by i s b) -ℤ pos (closed_to i s b)
unfolding booked
account_adds i s (Cost p c) = omega (arith, ints)
account_adds i s (Payment f c) = omega (arith, ints)
account_adds i s Closing = omega (arith, ints)

-- and what a row does
pub kept : (s : State) (row : List Entry) → Kept s row (run s row)
kept s row = record {
  cooperative = run_adds (λ s. s.cooperative) closed cost (λ s b _. cooperative_adds s b) s row;
  together = run_adds all_accounts payment cost together_adds s row;
  account = λ i. run_adds (λ s. s.accounts i) (payment_by i) (closed_to i) (λ s b _. account_adds i s b) s row;
}
