-- What is refused, test by test.
use Rattle.std.proofs.Common.{◌≡◌, ℕ, ◌<◌, ◌≤◌, Bool, true, false, cond, nat_le, List, length, take, position, option_map, slice_index_or, Some, None, Option, Result, Ok, Err, sym, refl, ap, ◌∙◌, arith}
use Rattle.std.proofs.lemmas.Bool.{ltb-false, leb-false}
use Rattle.std.specs.Result.{IsErrAnd, result_err}
use Rattle.std.proofs.lemmas.List.{get_or-take, get_or_default, length-take-le}
use Rattle.std.proofs.lemmas.Option.{none-some}
use Rattle.number.proofs.Firsts.{each_fails}
use Rattle.number.proofs.Positions.{position_found, found_map}
use Rattle.line.specs.declared.refusal.Refusal.{Refusal}
use Rattle.line.specs.declared.refusal.Refusal.TheVariants.{Amount}
use Rattle.line.specs.Limits.{costs_end}
use Rattle.line.specs.Line.{Line}
use Rattle.share.specs.Answer.{at, too_large, large_refused, costs_refused, known_refused}

-- a test that refuses has failed where nothing is refused
pub passed : (t : Bool) (e : Refusal) (x : Option Refusal) → cond t (Some e) x ≡ None → (t ≡ false) × (x ≡ None)
passed true e x h = absurd (none-some e (sym h))
passed false e x h = (refl, h)

-- what is refused of what the library's `position` finds among the first m costs
pub position_refused : (m : ℕ) (costs : List ℕ) → m ≤ length costs → (r : Option ℕ) → r ≡ position (nat_le costs_end) (take m costs) → option_map Amount r ≡ large_refused m costs
unfolding large_refused
position_refused m costs h r is =
    ap (option_map Amount) (is ∙ position_found (nat_le costs_end) (take m costs) m (too_large costs) (length-take-le m costs h) same) ∙ found_map Amount m (too_large costs)
  where
    same : (k d : ℕ) → k < m → nat_le costs_end (slice_index_or (take m costs) k d) ≡ too_large costs k
    same k d l = ap (nat_le costs_end) (get_or-take m costs k d l ∙ get_or_default costs k d 0 (omega arith))

-- none of the costs is too large where none is refused
pub costs_small : (m : ℕ) (costs : List ℕ) → large_refused m costs ≡ None → (e : ℕ) → e < m → at costs e < costs_end
unfolding large_refused
costs_small m costs h e l = leb-false _ _ (each_fails m (too_large costs) (passed _ _ _ h).0 e l)

-- costs that are not refused are enough, and none is too large
pub costs_fine : (m : ℕ) (costs : List ℕ) → costs_refused m costs ≡ None → (m ≤ length costs) × ((e : ℕ) → e < m → at costs e < costs_end)
unfolding costs_refused
costs_fine m costs h = let p = passed _ _ _ h in (ltb-false _ _ p.0, costs_small m costs p.1)

-- and if the farm is not refused either, there is such a farm
pub known_fine : (l : Line) (costs : List ℕ) (i : ℕ) → known_refused l costs i ≡ None → (i < l.farms) × ((e : ℕ) → e < l.parts → at costs e < costs_end)
unfolding known_refused
known_fine l costs i h = let p = passed _ _ _ h in (leb-false _ _ p.0, costs_small l.parts costs p.1)

-- what the exit of a `?` returns is the refusal of the call
pub passed_on : {T : Type 0} (r : Result T Refusal) (e : Refusal) → IsErrAnd r (λ x. x ≡ e) → result_err r ≡ Some e
passed_on (Ok x) e h = elim h [ ]
passed_on (Err x) e h = ap Some h
