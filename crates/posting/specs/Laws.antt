-- What is promised of every row of bookings, whatever the sound state it starts from.
use Rattle.std.specs.Prelude.{◌≡◌, ℕ, ◌+◌, ◌<◌, true, false, List, [], ◌∷◌, ◌++◌, pos, ◌+ℤ◌, ◌-ℤ◌, Some, None}
use Rattle.std.specs.List.{AllByRecursion}
use Rattle.number.specs.Sum.{sum}
use Rattle.line.specs.Limits.{costs_end}
use Rattle.account.specs.Range.{in_range}
use Rattle.account.specs.declared.booking.Booking.TheVariants.{Cost, Payment, Closing}
use Rattle.share.specs.Cost.{only}
use Rattle.share.specs.Fair.{FairOnce}
use Rattle.share.specs.Rule.{Rule}
use Rattle.share.specs.Weight.{AllUsed}
use Rattle.cents.specs.Level.{Differ}
use Rattle.cents.specs.Limits.{counts_end}
use Rattle.cents.specs.Near.{Within}
use Rattle.posting.specs.State.{State}
use Rattle.posting.specs.Posting.{part_cents, closing_cents, closing_total, booked, taken}
use Rattle.posting.specs.Run.{Entry, step, run}
use Rattle.posting.specs.Totals.{tally, cost, cost_of, payment, payment_by, closed, closed_to, all_accounts}

-- accounts, counts and costs are in their ranges, and every part has a user
pub record Sound (s : State) : Type 0 where
  pub used : AllUsed s.line
  pub accounts : (i : ℕ) → i < s.line.farms → in_range (s.accounts i) ≡ true
  pub cooperative : in_range s.cooperative ≡ true
  pub costs : (e : ℕ) → e < s.line.parts → s.costs e < costs_end
  pub odd : (i : ℕ) → i < s.line.farms → s.odd i < counts_end

-- The cooperative's account is what it was, and what closings booked to the farms, less the costs that were taken.
-- All accounts together are what they were, and the payments, less the costs. A farm's account is what it was, and its payments, less what closings booked to it.
pub record Kept (s : State) (row : List Entry) (t : State) : Type 0 where
  pub cooperative : t.cooperative ≡ s.cooperative +ℤ pos (tally closed s row) -ℤ pos (tally cost s row)
  pub together : all_accounts t ≡ all_accounts s +ℤ pos (tally payment s row) -ℤ pos (tally cost s row)
  pub account : (i : ℕ) → t.accounts i ≡ s.accounts i +ℤ pos (tally (payment_by i) s row) -ℤ pos (tally (closed_to i) s row)

-- A closing books all costs, and to a farm the sum of what it pays of each part.
-- Of each part by itself a farm pays less than one cent more or less than every fair rule has it pay for that part, and nothing where it doesn't use the part. Of the sum over the parts this is not said.
pub record NearFair (s : State) : Type 0 where
  pub total : closing_total s ≡ sum s.line.parts s.costs
  pub parts : (i : ℕ) → closing_cents s i ≡ sum s.line.parts (part_cents s i)
  pub near : (rule : Rule) → FairOnce s.line rule → (i e : ℕ) → i < s.line.farms → e < s.line.parts → Within (part_cents s i e) (rule (only e (s.costs e)) i)
  pub unused : (i e : ℕ) → i < s.line.farms → e < s.line.parts → s.line.uses i e ≡ false → part_cents s i e ≡ 0

-- P holds of the state before each closing that is taken
abbrev pub AtClosings : (State → Type 0) → State → List Entry → Type 0
AtClosings P s [] = Unit {0}
AtClosings P s (e ∷ row) = (e ≡ Some Closing → taken s Closing ≡ true → P s) × AtClosings P (step s e) row

-- what a closing books to farm i, and its count then, is the same in both states
pub record SameClosing (s t : State) (i : ℕ) : Type 0 where
  pub cents : closing_cents s i ≡ closing_cents t i
  pub odd : (booked s Closing).odd i ≡ (booked t Closing).odd i

-- no closing of a row is taken; there may be some that are refused
abbrev pub NoClosingTaken : State → List Entry → Type 0
NoClosingTaken s [] = Unit {0}
NoClosingTaken s (e ∷ row) = (e ≡ Some Closing → taken s Closing ≡ false) × NoClosingTaken (step s e) row

-- What a closing books depends on what each part has cost since the last closing, and on the odd cents that each farm has paid before, alone.
-- Take the row, which led from s to t, and any other row from any other state s'. Assumed is that no closing of either row is taken; that s and s' have the same line;
-- that after both rows each part has cost the same, what it had cost before the row and what the row's taken costs add together; and that each farm had paid the same odd cents in s and in s'.
-- Then a closing after either row books the same to each farm, and leaves it the same count of odd cents.
abbrev pub Depends : State → List Entry → State → Type 0
Depends s row t =
    NoClosingTaken s row → (s' : State) (row' : List Entry) → NoClosingTaken s' row' → s'.line ≡ s.line →
    ((e : ℕ) → e < s.line.parts → s'.costs e + tally (cost_of e) s' row' ≡ s.costs e + tally (cost_of e) s row) →
    ((i : ℕ) → i < s.line.farms → s'.odd i ≡ s.odd i) →
    (i : ℕ) → i < s.line.farms → SameClosing (run s' row') t i

-- an entry is no closing
abbrev pub NoClosing : Entry → Type 0
NoClosing (Some (Cost p c)) = Unit {0}
NoClosing (Some (Payment f c)) = Unit {0}
NoClosing (Some Closing) = ⊥
NoClosing None = Unit {0}

-- one row is another in some other order: neighbours change places, again and again
pub data Reordered : List Entry → List Entry → Type 0 where
  nothing : Reordered [] []
  next : (e : Entry) {xs ys : List Entry} → Reordered xs ys → Reordered (e ∷ xs) (e ∷ ys)
  swapped : (a b : Entry) (xs : List Entry) → Reordered (a ∷ b ∷ xs) (b ∷ a ∷ xs)
  after : {xs ys zs : List Entry} → Reordered xs ys → Reordered ys zs → Reordered xs zs

-- every entry of a row is a booking that is taken
abbrev pub AllTaken : State → List Entry → Type 0
AllTaken s [] = Unit {0}
AllTaken s (Some b ∷ row) = (taken s b ≡ true) × AllTaken (step s (Some b)) row
AllTaken s (None ∷ row) = ⊥

-- costs and payments that are all taken in one order are taken in every order, and leave the same state
abbrev pub OrderFree : State → List Entry → State → Type 0
OrderFree s row t = AllByRecursion NoClosing row → AllTaken s row → (row' : List Entry) → Reordered row row' → AllTaken s row' × (run s row' ≡ t)

-- every cost of a row is taken; other entries may be anything
abbrev pub CostsTaken : State → List Entry → Type 0
CostsTaken s [] = Unit {0}
CostsTaken s (Some (Cost p c) ∷ row) = (taken s (Cost p c) ≡ true) × CostsTaken (step s (Some (Cost p c))) row
CostsTaken s (Some (Payment f c) ∷ row) = CostsTaken (step s (Some (Payment f c))) row
CostsTaken s (Some Closing ∷ row) = CostsTaken (step s (Some Closing)) row
CostsTaken s (None ∷ row) = CostsTaken s row

-- If the costs of a row without closings are all taken in one order, they are all taken in every order, whatever becomes of the payments and unreadable entries between them;
-- and each part has cost the same then, and the cooperative's account is the same
abbrev pub CostsOrderFree : State → List Entry → State → Type 0
CostsOrderFree s row t =
    AllByRecursion NoClosing row → CostsTaken s row → (row' : List Entry) → Reordered row row' →
    CostsTaken s row' × ((e : ℕ) → (run s row').costs e ≡ t.costs e) × ((run s row').cooperative ≡ t.cooperative)

-- two farms that use the same parts, whose counts were at most one apart, are at most one odd cent apart
abbrev pub Level : State → State → Type 0
Level s t =
    (i j : ℕ) → i < s.line.farms → j < s.line.farms → ((e : ℕ) → e < s.line.parts → s.line.uses i e ≡ s.line.uses j e) →
    Differ 1 (s.odd i) (s.odd j) → Differ 1 (t.odd i) (t.odd j)

-- P holds of every stretch of a row: of the state before it, the stretch, and the state after it
abbrev pub OnStretches : (State → List Entry → State → Type 0) → State → List Entry → Type 0
OnStretches P s row = (before stretch after : List Entry) → row ≡ before ++ (stretch ++ after) → P (run s before) stretch (run (run s before) stretch)

-- all of it, of a row that led from s to t, which is its run
pub record Laws (s : State) (row : List Entry) (t : State) : Type 0 where
  pub kept : Kept s row t
  pub near : AtClosings NearFair s row
  pub depends : OnStretches Depends s row
  pub order : OnStretches OrderFree s row
  pub costs_order : OnStretches CostsOrderFree s row
  pub level : OnStretches (λ s' _ t'. Level s' t') s row

-- every row from a sound state leads to a sound state, and has all of it
abbrev pub RowsRight : Type 0
RowsRight = (s : State) (row : List Entry) → Sound s → Sound (run s row) × Laws s row (run s row)
