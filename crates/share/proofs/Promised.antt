-- Whole numbers over a scale that are the shares of the rule are fair, and no group pays more than the parts that one of it uses cost.
use Rattle.std.proofs.Common.{ℕ, ◌*◌, ◌<◌, ◌≤◌, Bool, true, false, cond}
use Rattle.number.specs.Fraction.{over, ◌≈◌}
use Rattle.number.proofs.Fractions.{same_sym, ◌then◌, over_same, over_none, le_same, le_trans}
use Rattle.number.proofs.FractionSums.{sumF_same, sumF_over}
use Rattle.line.specs.Line.{Line}
use Rattle.share.specs.Cost.{Costs}
use Rattle.share.specs.Weight.{Weights, Fits, once, AllUsed}
use Rattle.share.specs.Rule.{Rule, the_rule}
use Rattle.share.specs.Fair.{FairOnce}
use Rattle.share.specs.Group.{Group, alone, group_sum}
use Rattle.share.specs.Scale.{scaled}
use Rattle.share.specs.Theorems.{SharesRight}
use Rattle.share.proofs.Weights.{once_fits_lem}
use Rattle.share.proofs.Fairness.{every_fair_rule_lem}
use Rattle.share.proofs.Groups.{nobody_leaves_lem}
use Rattle.share.proofs.Once.{once_agree}
use Rattle.share.proofs.Scales.{over_most, scaled_right}

-- no group pays more, in whole numbers and for any weights
pub group_most : (l : Line) (weight : Weights) → Fits l weight → (c : Costs) (scale : ℕ) (v : ℕ → ℕ) → 0 < scale →
    ((i : ℕ) → i < l.farms → over (v i) scale ≈ the_rule l weight c i) → (g : Group) → group_sum l g v ≤ scale * alone l g c
group_most l weight fits c scale v h share g =
    over_most (group_sum l g v) (alone l g c) scale h
    (le_trans (le_same (same_sym (sumF_over l.farms scale (λ i. cond (g i) (v i) 0)) then sumF_same l.farms _ _ (λ i k. each i k (g i))))
    (nobody_leaves_lem l weight fits c g))
  where
    each : (i : ℕ) → i < l.farms → (b : Bool) → over (cond b (v i) 0) scale ≈ cond b (the_rule l weight c i) (over 0 1)
    each i k true = share i k
    each i k false = over_none scale

-- where each user counts once, what the rule has a farm pay is what every fair rule has it pay
pub fair_share : (l : Line) → AllUsed l → (c : Costs) (i : ℕ) → i < l.farms → (r : Rule) → FairOnce l r → the_rule l (once l) c i ≈ r c i
fair_share l used c i k r f = same_sym (every_fair_rule_lem l (once l) (once_fits_lem l used) r ((once_agree l r).1 f) c i k)

pub shares_right : SharesRight
shares_right l c scale per v used s is = record {
  positive = s.positive;
  rule = share;
  fair = λ r f i k. share i k then fair_share l used c i k r f;
  no_group = group_most l (once l) (once_fits_lem l used) c scale v s.positive share;
}
  where
    share : (i : ℕ) → i < l.farms → over (v i) scale ≈ the_rule l (once l) c i
    share i k = over_same (v i) (scaled l (once l) per c i) scale (is i k) then scaled_right l (once l) c scale per s i
