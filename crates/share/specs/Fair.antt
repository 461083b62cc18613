-- What a fair rule is.
use Rattle.std.specs.Prelude.{◌≡◌, ℕ, ◌<◌, true}
use Rattle.number.specs.Fraction.{over, ◌≈◌, ◌⊕◌, times, sumF}
use Rattle.number.specs.Sum.{sum}
use Rattle.line.specs.Line.{Line}
use Rattle.share.specs.Cost.{Costs, together, only}
use Rattle.share.specs.Weight.{Weights}
use Rattle.share.specs.Rule.{Rule}

-- Three properties that no weight enters.
-- The shares add up to the costs; costs put together are shared as they are one by one; a farm that uses no part that costs something pays nothing.
pub record Sharing (l : Line) (rule : Rule) : Type 0 where
  pub total : (c : Costs) → sumF l.farms (rule c) ≈ over (sum l.parts c) 1
  pub adds : (c d : Costs) (i : ℕ) → i < l.farms → rule (together c d) i ≈ rule c i ⊕ rule d i
  pub unused : (c : Costs) (i : ℕ) → i < l.farms → ((e : ℕ) → e < l.parts → l.uses i e ≡ true → c e ≡ 0) → rule c i ≈ over 0 1

-- A rule is fair if it has them, and where only one part costs something the shares of its users are as their weights.
pub record Fair (l : Line) (weight : Weights) (rule : Rule) : Type 0 where
  pub sharing : Sharing l rule
  pub by_weight :
      (e v i j : ℕ) → e < l.parts → i < l.farms → j < l.farms → l.uses i e ≡ true → l.uses j e ≡ true →
      times (weight j e) (rule (only e v) i) ≈ times (weight i e) (rule (only e v) j)

-- The same where each user counts once: all who use the part pay the same.
pub record FairOnce (l : Line) (rule : Rule) : Type 0 where
  pub sharing : Sharing l rule
  pub equally :
      (e v i j : ℕ) → e < l.parts → i < l.farms → j < l.farms → l.uses i e ≡ true → l.uses j e ≡ true →
      rule (only e v) i ≈ rule (only e v) j
