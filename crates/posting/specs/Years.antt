-- Worked years: who uses which part, what the parts cost, and what each farm pays then.
use Rattle.std.specs.Prelude.{◌≡◌, ℕ, suc, ◌<◌, Bool, false, ◌||◌, List, [], ◌∷◌, ◌++◌, length, get_or, pos, neg_ℤ, Some, ◌==◌, slice_index, slice_index_or}
use Rattle.std.specs.List.{AllByRecursion}
use Rattle.number.specs.Fraction.{Fraction, over, ◌≈◌}
use Rattle.line.specs.Line.{Line}
use Rattle.account.specs.declared.booking.Booking.TheVariants.{Cost, Closing}
use Rattle.share.specs.Rule.{the_rule}
use Rattle.posting.specs.State.{State}
use Rattle.posting.specs.Posting.{weights, closing_cents}
use Rattle.posting.specs.Run.{Entry, step, run}

-- the users of each part, what the parts cost in the years before and in this one; and for each farm its exact share of this year, what the closing books to it, and what it owes then
pub record Year : Type 0 where
  pub users : List (List ℕ)
  pub earlier : List (List ℕ)
  pub costs : List ℕ
  pub shares : List Fraction
  pub cents : List ℕ
  pub owed : List ℕ

-- i is among those listed
abbrev pub among : ℕ → List ℕ → Bool
among i [] = false
among i (j ∷ js) = i == j || among i js

-- the line with these users, and as many farms as are listed
abbrev pub line_of : Year → Line
line_of y = record { farms = length y.cents; parts = length y.users; uses = λ i e. among i (slice_index_or y.users e []) }

-- nothing is booked yet
abbrev pub empty : Line → State
empty l = record { line = l; accounts = λ _. pos 0; cooperative = pos 0; costs = λ _. 0; odd = λ _. 0 }

-- a cost for each part from e on
abbrev pub costs_from : ℕ → List ℕ → List Entry
costs_from e [] = []
costs_from e (c ∷ cs) = Some (Cost (record { 0 = e }) (record { 0 = c })) ∷ costs_from (suc e) cs

-- years one after the other: costs, and a closing
abbrev pub closed_years : List (List ℕ) → List Entry
closed_years [] = []
closed_years (c ∷ cs) = costs_from 0 c ++ (Some Closing ∷ closed_years cs)

-- the state before the year's closing
abbrev pub before : Year → State
before y = run (empty (line_of y)) (closed_years y.earlier ++ costs_from 0 y.costs)

-- farm i's share, what the closing books to it, and its account then, are as the table has them
pub record Right (y : Year) (i : ℕ) : Type 0 where
  pub share : the_rule (before y).line (weights (before y)) (before y).costs i ≈ get_or y.shares i (over 0 1)
  pub cents : closing_cents (before y) i ≡ slice_index y.cents i
  pub owed : (step (before y) (Some Closing)).accounts i ≡ neg_ℤ (pos (slice_index y.owed i))

-- and so for all farms
abbrev pub AllRight : Year → Type 0
AllRight y = (i : ℕ) → i < length y.cents → Right y i

-- the worked years
unfoldable pub years : List Year
years =
    record { users = (0 ∷ 1 ∷ 2 ∷ []) ∷ (1 ∷ 2 ∷ []) ∷ (2 ∷ []) ∷ []; earlier = []; costs = 90 ∷ 30 ∷ 7 ∷ []; shares = over 30 1 ∷ over 45 1 ∷ over 52 1 ∷ []; cents = 30 ∷ 45 ∷ 52 ∷ []; owed = 30 ∷ 45 ∷ 52 ∷ [] }
    ∷ record { users = (0 ∷ 1 ∷ 2 ∷ []) ∷ []; earlier = []; costs = 10 ∷ []; shares = over 10 3 ∷ over 10 3 ∷ over 10 3 ∷ []; cents = 4 ∷ 3 ∷ 3 ∷ []; owed = 4 ∷ 3 ∷ 3 ∷ [] }
    ∷ record { users = (0 ∷ 1 ∷ 2 ∷ []) ∷ []; earlier = (10 ∷ []) ∷ []; costs = 10 ∷ []; shares = over 10 3 ∷ over 10 3 ∷ over 10 3 ∷ []; cents = 3 ∷ 4 ∷ 3 ∷ []; owed = 7 ∷ 7 ∷ 6 ∷ [] }
    ∷ record { users = (0 ∷ 1 ∷ []) ∷ (1 ∷ 2 ∷ []) ∷ []; earlier = []; costs = 1 ∷ 1 ∷ []; shares = over 1 2 ∷ over 1 1 ∷ over 1 2 ∷ []; cents = 1 ∷ 1 ∷ 0 ∷ []; owed = 1 ∷ 1 ∷ 0 ∷ [] }
    ∷ record { users = (0 ∷ []) ∷ []; earlier = []; costs = 5 ∷ []; shares = over 5 1 ∷ []; cents = 5 ∷ []; owed = 5 ∷ [] }
    ∷ record { users = (0 ∷ 1 ∷ 2 ∷ 3 ∷ []) ∷ (0 ∷ 1 ∷ 2 ∷ []) ∷ (0 ∷ 1 ∷ []) ∷ []; earlier = []; costs = 10 ∷ 10 ∷ 10 ∷ []; shares = over 65 6 ∷ over 65 6 ∷ over 35 6 ∷ over 5 2 ∷ []; cents = 11 ∷ 11 ∷ 6 ∷ 2 ∷ []; owed = 11 ∷ 11 ∷ 6 ∷ 2 ∷ [] }
    ∷ []

-- each comes out as the table has it
abbrev pub YearsRight : Type 0
YearsRight = AllByRecursion AllRight years
