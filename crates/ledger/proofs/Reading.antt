-- Bytes of a row, and how they are answered.
use Rattle.std.proofs.Common.{◌≡◌, ℕ, ◌+◌, ◌*◌, ◌≤◌, true, cond, eqb, List, length, take, drop, Err, ap, arith}
use Rattle.std.proofs.lemmas.List.{length-take-le, length-drop}
use Rattle.std.proofs.lemmas.Bool.{eq-eqb}
use Rattle.line.specs.declared.refusal.Refusal.TheVariants.{Length}
use Rattle.posting.specs.Run.{step, answer, entry}
use Rattle.posting.specs.State.{State}
use Rattle.ledger.specs.Row.{answered, left_by}

-- seven bytes of a row are its booking
module _ (k : ℕ) (s : State) (row : List ℕ) (inside : k * 7 + 7 ≤ length row) where
  whole : eqb (length (take 7 (drop (k * 7) row))) 7 ≡ true
  whole = eq-eqb _ 7 (length-take-le 7 (drop (k * 7) row) (omega (arith, length-drop (k * 7) row)))

  pub answered_entry : answered k s (take 7 (drop (k * 7) row)) ≡ answer k s (entry row k)
  unfolding answered
  answered_entry = ap (λ seven. cond seven (answer k s (entry row k)) (Err (Length (length (take 7 (drop (k * 7) row)))))) whole

  pub left_by_entry : left_by s (take 7 (drop (k * 7) row)) ≡ step s (entry row k)
  unfolding left_by
  left_by_entry = ap (λ seven. cond seven (step s (entry row k)) s) whole
