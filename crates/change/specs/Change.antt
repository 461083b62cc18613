-- One farm's use of one part, changed.
use Rattle.std.specs.Prelude.{◌≡◌, ℕ, ◌<◌, ◌≤◌, Bool, true, cond, not, ◌&&◌, ◌||◌, ◌≢◌, Some, None, Option, ◌==◌, nat_le}
use Rattle.line.specs.declared.refusal.Refusal.{Refusal}
use Rattle.line.specs.declared.refusal.Refusal.TheVariants.{Users, Unknown}
use Rattle.line.specs.Line.{Line, users}

-- the line where farm i uses part e as well
abbrev pub joined : Line → (i e : ℕ) → Line
joined l i e = record { farms = l.farms; parts = l.parts; uses = λ j f. l.uses j f || (j == i && f == e) }

-- the line where farm i uses part e no more
abbrev pub parted : Line → (i e : ℕ) → Line
parted l i e = record { farms = l.farms; parts = l.parts; uses = λ j f. l.uses j f && not (j == i && f == e) }

-- the line where x says whether farm i uses part e
abbrev pub marked : Line → (i e : ℕ) → Bool → Line
marked l i e x = record { farms = l.farms; parts = l.parts; uses = λ j f. cond (j == i && f == e) x (l.uses j f) }

-- l' is l, but that farm i uses more parts, or is new, with the next number
pub record Grows (i : ℕ) (l l' : Line) : Type 0 where
  pub parts : l'.parts ≡ l.parts
  pub more : l.farms ≤ l'.farms
  pub new : (j : ℕ) → l.farms ≤ j → j < l'.farms → j ≡ i
  pub others : (j e : ℕ) → j < l.farms → j ≢ i → e < l.parts → l'.uses j e ≡ l.uses j e
  pub keeps : (e : ℕ) → i < l.farms → e < l.parts → l.uses i e ≡ true → l'.uses i e ≡ true

-- whether farm i uses part e, and no other does
abbrev pub only_user : Line → (i e : ℕ) → Bool
only_user l i e = l.uses i e && users l e == 1

-- a part that doesn't exist is refused, then a farm that doesn't; x is the answer for those that do
unfoldable pub known_or : Line → (i e : ℕ) → Option Refusal → Option Refusal
known_or l i e x = cond (nat_le l.parts e) (Some (Unknown e)) (cond (nat_le l.farms i) (Some (Unknown i)) x)

-- nothing else is refused to who joins
abbrev pub join_refused : Line → (i e : ℕ) → Option Refusal
join_refused l i e = known_or l i e None

-- who leaves is refused as well if no other farm uses the part
abbrev pub leave_refused : Line → (i e : ℕ) → Option Refusal
leave_refused l i e = known_or l i e (cond (only_user l i e) (Some (Users e)) None)
