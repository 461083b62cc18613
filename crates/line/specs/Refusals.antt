-- The number and the place by which a refusal is told.
use Rattle.std.specs.Prelude.{ℕ, List, ◌++◌, codes, decimal}
use Rattle.line.specs.declared.refusal.Holder.{Holder}
use Rattle.line.specs.declared.refusal.Holder.TheVariants.{Farm, Cooperative}
use Rattle.line.specs.declared.refusal.Lent.{Lent}
use Rattle.line.specs.declared.refusal.Lent.TheVariants.{Line, Accounts, Costs, Sheet, Answers}
use Rattle.line.specs.declared.refusal.Refusal.{Refusal}
use Rattle.line.specs.declared.refusal.Refusal.TheVariants.{Length, Count, Users, Kind, Unknown, Amount, Account, Short, Row, Sum}

-- what is lent, by its place
abbrev pub lent_place : Lent → ℕ
lent_place Line = 0
lent_place Accounts = 1
lent_place Costs = 2
lent_place Sheet = 3
lent_place Answers = 4

-- the number of a refusal
abbrev pub number_of : Refusal → ℕ
number_of (Length at) = 1
number_of (Count at) = 2
number_of (Users at) = 3
number_of (Kind at) = 4
number_of (Unknown at) = 5
number_of (Amount at) = 6
number_of (Account at whose) = 7
number_of (Short what) = 8
number_of (Row at) = 9
number_of (Sum at) = 10

-- where it was found
abbrev pub place_of : Refusal → ℕ
place_of (Length at) = at
place_of (Count at) = at
place_of (Users at) = at
place_of (Kind at) = at
place_of (Unknown at) = at
place_of (Amount at) = at
place_of (Account at whose) = at
place_of (Short what) = lent_place what
place_of (Row at) = at
place_of (Sum at) = at

-- the text that tells whose account it is
abbrev pub holder_text : Holder → List ℕ
holder_text (Farm f) = codes "farm " ++ decimal f.0
holder_text Cooperative = codes "cooperative"

-- the text that tells a refusal
abbrev pub told : Refusal → List ℕ
told r = codes "refused " ++ (decimal (number_of r) ++ (codes " at " ++ decimal (place_of r)))
