-- What holds over every row because it holds over one booking that is taken.
use Rattle.std.proofs.Common.{◌≡◌, ℕ, Bool, true, false, cond, List, [], ◌∷◌, ℤ, pos, ◌+ℤ◌, ◌-ℤ◌, Some, None, sym, refl, subst, arith}
use borrow.Author.Differences.{ints}
use Rattle.std.proofs.lemmas.Bool.{cond_both}
use Rattle.line.specs.Line.{Line}
use Rattle.account.specs.declared.booking.Booking.{Booking}
use Rattle.account.specs.declared.booking.Booking.TheVariants.{Cost, Payment, Closing}
use Rattle.posting.specs.State.{State}
use Rattle.posting.specs.Posting.{booked, taken, post}
use Rattle.posting.specs.Run.{Entry, step, run}
use Rattle.posting.specs.Totals.{if_taken, tally}

-- what a booking that is taken keeps, every entry keeps
step_keeps : (P : State → Type 0) → ((s : State) (b : Booking) → taken s b ≡ true → P s → P (booked s b)) → (s : State) (e : Entry) → P s → P (step s e)
unfolding post
step_keeps P one s (Some b) p = cond_both (taken s b) (booked s b) s P (λ t. one s b t p) (λ _. p)
step_keeps P one s None p = p

-- and every row
pub run_keeps : (P : State → Type 0) → ((s : State) (b : Booking) → taken s b ≡ true → P s → P (booked s b)) → (s : State) (row : List Entry) → P s → P (run s row)
run_keeps P one s [] p = p
run_keeps P one s (e ∷ row) p = run_keeps P one (step s e) row (step_keeps P one s e p)

-- no booking changes the line
booked_line : (s : State) (b : Booking) → (booked s b).line ≡ s.line
unfolding booked
booked_line s (Cost p c) = refl
booked_line s (Payment f c) = refl
booked_line s Closing = refl

-- what holds of a line holds after every row
pub line_holds : (P : Line → Type 0) (s : State) (row : List Entry) → P s.line → P (run s row).line
line_holds P s row p = run_keeps (λ t. P t.line) (λ t b _ h. subst P (sym (booked_line t b)) h) s row p

-- so the line after a row is the line before it
pub line_kept : (s : State) (row : List Entry) → (run s row).line ≡ s.line
line_kept s row = line_holds (λ l. l ≡ s.line) s row refl

-- a value that each booking that is taken raises by f and lowers by g
module _ (value : State → ℤ) (f g : State → Booking → ℕ)
    (one : (s : State) (b : Booking) → taken s b ≡ true → value (booked s b) ≡ value s +ℤ pos (f s b) -ℤ pos (g s b)) where
  step_adds : (s : State) (e : Entry) → value (step s e) ≡ value s +ℤ pos (if_taken f s e) -ℤ pos (if_taken g s e)
  unfolding post
  step_adds s (Some b) = go (taken s b) (one s b)
    where
      go : (t : Bool) → (t ≡ true → value (booked s b) ≡ value s +ℤ pos (f s b) -ℤ pos (g s b)) →
          value (cond t (booked s b) s) ≡ value s +ℤ pos (cond t (f s b) 0) -ℤ pos (cond t (g s b) 0)
      go true h = h refl
      go false h = omega (arith, ints)
  step_adds s None = omega (arith, ints)

  -- and over a row by what f and g come to
  pub run_adds : (s : State) (row : List Entry) → value (run s row) ≡ value s +ℤ pos (tally f s row) -ℤ pos (tally g s row)
  unfolding tally
  run_adds s [] = omega (arith, ints)
  run_adds s (e ∷ row) = omega (arith, ints, step_adds s e, run_adds (step s e) row)
