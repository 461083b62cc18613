-- A farm's share part by part.
use Rattle.std.specs.Prelude.{ℕ, zero, suc, cond, ◌&&◌, List, [], ◌∷◌, ◌++◌, nat_lt}
use Rattle.number.specs.Fraction.{Fraction, over, ◌⊕◌}
use Rattle.line.specs.Line.{Line, users}
use Rattle.share.specs.declared.form.PartShare.{PartShare}
use Rattle.share.specs.Cost.{Costs}

-- what a user pays of part e: its cost over the number of its users
abbrev pub part_of : Line → Costs → ℕ → PartShare
part_of l c e = record { part = record { 0 = e }; cost = record { 0 = c e }; users = users l e }

-- of the first k parts those that farm i uses and that cost something, by their numbers
unfoldable pub listed : Line → Costs → ℕ → ℕ → List PartShare
listed l c i zero = []
listed l c i (suc e) = listed l c i e ++ cond (l.uses i e && nat_lt 0 (c e)) (part_of l c e ∷ []) []

-- what they come to together
unfoldable pub comes_to : List PartShare → Fraction
comes_to [] = over 0 1
comes_to (p ∷ ps) = over p.cost.0 p.users ⊕ comes_to ps
