-- What a program that computes shares promises.
use Rattle.std.specs.Prelude.{ℕ, ◌*◌, ◌<◌, ◌≤◌}
use Rattle.number.specs.Fraction.{over, ◌≈◌}
use Rattle.line.specs.Line.{Line}
use Rattle.share.specs.Cost.{Costs}
use Rattle.share.specs.Rule.{Rule, the_rule}
use Rattle.share.specs.Weight.{once}
use Rattle.share.specs.Fair.{FairOnce}
use Rattle.share.specs.Group.{Group, alone, group_sum}

-- v i over the scale is what the rule has farm i pay of the costs c, and so is what every fair rule has it pay; no group pays more than the parts that one of it uses cost
pub record Shares (l : Line) (c : Costs) (scale : ℕ) (v : ℕ → ℕ) : Type 0 where
  pub positive : 0 < scale
  pub rule : (i : ℕ) → i < l.farms → over (v i) scale ≈ the_rule l (once l) c i
  pub fair : (r : Rule) → FairOnce l r → (i : ℕ) → i < l.farms → over (v i) scale ≈ r c i
  pub no_group : (g : Group) → group_sum l g v ≤ scale * alone l g c
