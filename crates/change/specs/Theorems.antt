-- What is promised of a line that changes. Each is a statement; the function in src/ that names it owes its proof.
use Rattle.std.specs.Prelude.{◌≡◌, ℕ, ◌<◌, true, false, ◌≢◌}
use Rattle.number.specs.Fraction.{◌≼◌}
use Rattle.line.specs.Line.{Line}
use Rattle.share.specs.Cost.{Costs}
use Rattle.share.specs.Fair.{FairOnce}
use Rattle.share.specs.Rule.{Rule, part_share, the_rule}
use Rattle.share.specs.Weight.{once, AllUsed}
use Rattle.change.specs.Change.{joined, parted, Grows}

-- From l to l' no other farm's exact share than that of i is more, whatever the parts cost: by the rule, and by any two rules that are fair on these lines
pub record NoneRaised (i : ℕ) (l l' : Line) : Type 0 where
  pub rule : (c : Costs) (j : ℕ) → j < l.farms → j ≢ i → the_rule l' (once l') c j ≼ the_rule l (once l) c j
  pub fair : (r r' : Rule) → FairOnce l r → FairOnce l' r' → (c : Costs) (j : ℕ) → j < l.farms → j ≢ i → r' c j ≼ r c j

-- from l to l' no other farm's exact share than that of i is less
pub record NoneLowered (i : ℕ) (l l' : Line) : Type 0 where
  pub rule : (c : Costs) (j : ℕ) → j < l'.farms → j ≢ i → the_rule l (once l) c j ≼ the_rule l' (once l') c j
  pub fair : (r r' : Rule) → FairOnce l r → FairOnce l' r' → (c : Costs) (j : ℕ) → j < l'.farms → j ≢ i → r c j ≼ r' c j

-- who joins raises no other farm's share of a part
abbrev pub PartNotRaised : Type 0
PartNotRaised =
    (i : ℕ) (l l' : Line) → Grows i l l' → AllUsed l → (c : Costs) (j e : ℕ) → j < l.farms → j ≢ i → e < l.parts →
    part_share l' (once l') c j e ≼ part_share l (once l) c j e

-- who joins raises no other farm's share
abbrev pub JoiningRaisesNone : Type 0
JoiningRaisesNone = (i : ℕ) (l l' : Line) → Grows i l l' → AllUsed l → NoneRaised i l l'

-- who leaves lowers no other farm's share, if each part still has a user
abbrev pub LeavingLowersNone : Type 0
LeavingLowersNone = (i : ℕ) (l l' : Line) → Grows i l' l → AllUsed l' → NoneLowered i l l'

-- a line grows by a farm that joins
abbrev pub JoinedGrows : Type 0
JoinedGrows = (l : Line) (i e : ℕ) → Grows i l (joined l i e)

-- and has grown by a farm that leaves
abbrev pub PartedGrows : Type 0
PartedGrows = (l : Line) (i e : ℕ) → Grows i (parted l i e) l

-- who joins a part that it doesn't use, and leaves it again, leaves the line as it was; so does who leaves one that it uses, and joins it again
abbrev pub Back : Type 0
Back =
    ((l : Line) (i e : ℕ) → l.uses i e ≡ false → parted (joined l i e) i e ≡ l) ×
    ((l : Line) (i e : ℕ) → l.uses i e ≡ true → joined (parted l i e) i e ≡ l)
