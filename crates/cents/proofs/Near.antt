-- What a farm pays is less than one cent away from what every fair rule has it pay.
use Rattle.std.proofs.Common.{◌≡◌, ℕ, ◌+◌, ◌*◌, ◌%◌, ◌<◌, Bool, ◌&&◌, ltb, Less, ap, ◌∙◌, inl, inr, mod-lt, mul-pos, mul-zero, div-add-mod', arith}
use Rattle.std.proofs.lemmas.Bool.{cases_Bool, cases_eq, and_parts, ltb-true}
use Rattle.number.specs.Sum.{one}
use Rattle.number.specs.Fraction.{Fraction, over, ◌≈◌}
use Rattle.number.specs.Reduced.{Below}
use Rattle.number.proofs.Fractions.{same_refl, same_sym, ◌then◌, add_same, over_same, over_none, le_same, le_trans}
use Rattle.number.proofs.FractionSums.{sumF_same, sumF_over}
use Rattle.number.proofs.Crosswise.{over_sum}
use Rattle.number.proofs.Reduced.{ordered}
use Rattle.line.specs.Line.{Line}
use Rattle.share.specs.Cost.{only}
use Rattle.share.specs.Weight.{Weights, whole}
use Rattle.share.specs.Rule.{part_share, the_rule}
use Rattle.share.proofs.Building.{only_same, only_other, sum_only}
use Rattle.share.proofs.Fairness.{every_fair_rule_lem}
use Rattle.cents.specs.Rank.{rank}
use Rattle.cents.specs.Split.{whole_cents, broken, rest, pays_odd, odd_cent, cents}
use Rattle.cents.specs.Near.{Near, Within}
use Rattle.cents.specs.Theorems.{CentsNear, CentsFair}

pub cents_near_lem : CentsNear
unfolding cents whole_cents odd_cent pays_odd broken
cents_near_lem l weight e c odd i used =
    near _ (weight i e * c % whole l weight e) (ltb (rank l.farms (broken l weight e c) odd i) (rest l weight e c))
    (div-add-mod' (weight i e * c) (whole l weight e)) (mod-lt (weight i e * c) used)
  where
    near : {x w : ℕ} (q m : ℕ) (b : Bool) → q * w + m ≡ x → m < w → Near (q + one (ltb 0 m && b)) x w
    near q m b p h =
        elim (cases_Bool (ltb 0 m && b)) [
          | inl t ↦ let k = ltb-true 0 m (and_parts (ltb 0 m) b t).0 in rw t (record { above = omega arith; below = omega arith })
          | inr t ↦ rw t (record { above = omega arith; below = omega arith })
        ]

-- what is below stays so, however it is written
below_same : {x x' y y' : Fraction} → x ≈ x' → y ≈ y' → Below x y → Below x' y'
below_same e f h = (
  le_trans (le_same (same_sym e)) (le_trans h.0 (le_same f)),
  λ back. h.1 (le_trans (le_same f) (le_trans back (le_same (same_sym e)))),
)

-- near x / w crosswise is near the fraction x / w
within : (a x w : ℕ) (y : Fraction) → 0 < w → y ≈ over x w → Near a x w → Within a y
within a x w y h e n = record {
  above = below_same same_refl (same_sym (add_same e same_refl then over_sum x w 1 1 h one_some))
      (ordered a 1 (x * 1 + 1 * w) (w * 1) Less one_some (mul-pos h one_some) (omega (arith, n.above)));
  below = below_same (same_sym e) same_refl (ordered x w (a + 1) 1 Less h one_some (omega (arith, n.below)));
}
  where
    one_some : 0 < 1
    one_some = omega arith

-- where only part e costs something, the rule has a farm pay its weight times the cost over the whole weight
pub rule_only : (l : Line) (weight : Weights) (e c i : ℕ) → e < l.parts → the_rule l weight (only e c) i ≈ over (weight i e * c) (whole l weight e)
unfolding the_rule part_share
rule_only l weight e c i k =
    sumF_same l.parts _ (λ f. over (only e (weight i e * c) f) (whole l weight e)) (λ f _. each f)
    then sumF_over l.parts (whole l weight e) (only e (weight i e * c))
    then over_same _ _ (whole l weight e) (sum_only l.parts e (weight i e * c) k)
  where
    each : (f : ℕ) → over (weight i f * only e c f) (whole l weight f) ≈ over (only e (weight i e * c) f) (whole l weight e)
    each f =
        elim (cases_eq e f) [
          | inl p ↦ rw (← p, only_same e c, only_same e (weight i e * c)) same_refl
          | inr q ↦
              over_same _ 0 (whole l weight f) (ap (λ z. weight i f * z) (only_other e c f q) ∙ mul-zero (weight i f))
              then over_none (whole l weight f)
              then same_sym (over_same _ 0 (whole l weight e) (only_other e (weight i e * c) f q) then over_none (whole l weight e))
        ]

pub cents_fair_lem : CentsFair
cents_fair_lem l weight fits r f e c odd i k ki =
    within (cents l weight e c odd i) (weight i e * c) (whole l weight e) (r (only e c) i) (fits.counted e k)
    (every_fair_rule_lem l weight fits r f (only e c) i ki then rule_only l weight e c i k)
    (cents_near_lem l weight e c odd i (fits.counted e k))
