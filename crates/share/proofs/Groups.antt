-- No group pays more than the parts that one of it uses cost.
use Rattle.std.proofs.Common.{◌≡◌, ℕ, ◌*◌, ◌<◌, ◌≤◌, Bool, true, false, cond, ◌&&◌, refl, ap, ◌∙◌, inl, inr, mul-le-mul_right, zero-mul, arith}
use Rattle.std.proofs.lemmas.Bool.{both_ways, and_cases}
use Rattle.number.specs.Fraction.{over, ◌≈◌, ◌≼◌, sumF}
use Rattle.number.specs.Sum.{sum}
use Rattle.number.proofs.Sums.{sum_le, sum_zero, sum_times}
use Rattle.number.proofs.Firsts.{each_fails}
use Rattle.number.proofs.Fractions.{same_refl, same_sym, ◌then◌, over_same, over_none, over_whole, le_same, le_trans, over_le}
use Rattle.number.proofs.FractionSums.{sumF_same, sumF_le, sumF_zero, sumF_swap, sumF_over}
use Rattle.line.specs.Line.{Line}
use Rattle.share.specs.Weight.{whole}
use Rattle.share.specs.Rule.{part_share, the_rule}
use Rattle.share.specs.Group.{Group, group_uses, alone, group_sum}
use Rattle.share.specs.Theorems.{NobodyLeaves}

-- who is in a group that does not use a part does not use it
none_uses : (l : Line) (g : Group) (e i : ℕ) → group_uses l g e ≡ false → i < l.farms → g i ≡ true → l.uses i e ≡ false
unfolding group_uses
none_uses l g e i n k gi =
    elim (and_cases (g i) (l.uses i e) (each_fails l.farms (λ j. g j && l.uses j e) n i k)) [
      | inl out ↦ absurd (both_ways (g i) out gi)
      | inr unused ↦ unused
    ]

cond_le : (b : Bool) (x : ℕ) → cond b x 0 ≤ x
cond_le true x = omega arith
cond_le false x = omega arith

cond_zero : (b : Bool) (x : ℕ) → (b ≡ true → x ≡ 0) → cond b x 0 ≡ 0
cond_zero true x h = h refl
cond_zero false x h = refl

-- a group pays no more than all
pub group_sum_le : (l : Line) (g : Group) (v : ℕ → ℕ) → group_sum l g v ≤ sum l.farms v
group_sum_le l g v = sum_le l.farms _ v (λ i _. cond_le (g i) (v i))

pub nobody_leaves_lem : NobodyLeaves
unfolding the_rule part_share alone whole
nobody_leaves_lem l weight fits c g =
    le_trans (le_same (sumF_same n _ _ (λ i _. in_group i (g i)) then sumF_swap n m (λ i e. over (mine i e * c e) (whole l weight e))))
    (le_trans (sumF_le m _ (λ e. over (cond (group_uses l g e) (c e) 0) 1) (λ e k. le_trans (le_same (sumF_over n (whole l weight e) (λ i. mine i e * c e))) (bound e k (group_uses l g e) refl)))
    (le_same (sumF_over m 1 (λ e. cond (group_uses l g e) (c e) 0))))
  where
    n : ℕ
    n = l.farms

    m : ℕ
    m = l.parts

    mine : ℕ → ℕ → ℕ
    mine i e = cond (g i) (weight i e) 0

    in_group : (i : ℕ) (b : Bool) → cond b (the_rule l weight c i) (over 0 1) ≈ sumF m (λ e. over (cond b (weight i e) 0 * c e) (whole l weight e))
    in_group i true = same_refl
    in_group i false = same_sym (sumF_zero m _ (λ e _. over_same _ 0 (whole l weight e) (zero-mul (c e)) then over_none (whole l weight e)))

    fewer : (e : ℕ) → sum n (λ i. mine i e * c e) ≤ whole l weight e * c e
    fewer e = omega (arith, sum_le n _ _ (λ i _. mul-le-mul_right (c e) (cond_le (g i) (weight i e))), sum_times n (c e) (λ i. weight i e))

    bound : (e : ℕ) → e < m → (b : Bool) → group_uses l g e ≡ b → over (sum n (λ i. mine i e * c e)) (whole l weight e) ≼ over (cond b (c e) 0) 1
    bound e k true s = le_trans (over_le _ (whole l weight e * c e) (whole l weight e) (fewer e)) (le_same (over_whole (c e) (whole l weight e) (fits.counted e k)))
    bound e k false s =
        le_same
        (over_same _ 0 (whole l weight e)
        (sum_zero n _ (λ i ki. ap (λ z. z * c e) (cond_zero (g i) (weight i e) (λ gi. fits.unused i e ki k (none_uses l g e i s ki gi))) ∙ zero-mul (c e)))
        then over_none (whole l weight e))
