-- Whole numbers over one scale.
use Rattle.std.proofs.Common.{◌≡◌, ℕ, zero, suc, pred, ◌+◌, ◌*◌, ◌<◌, ◌≤◌, true, false, pos, refl, ap, ◌∙◌, inl, inr, mul-le-mul_right, mul-le-mul_left, mul-zero, arith}
use native.Mathlib.Nat.{eq_of_mul-eq-mul_right}
use borrow.Author.Differences.{ints, same_out}
use Rattle.std.proofs.lemmas.Bool.{cases_lt}
use Rattle.number.specs.Fraction.{over, ◌≈◌, ◌≼◌}
use Rattle.number.specs.Sum.{sum, one}
use Rattle.number.proofs.Sums.{sum_next, sum_le, sum_times}
use Rattle.number.proofs.Fractions.{same_sym, ◌then◌, over_same, over_none}
use Rattle.number.proofs.FractionSums.{sumF_same, sumF_over}
use Rattle.line.specs.Line.{Line}
use Rattle.share.specs.Cost.{Costs}
use Rattle.share.specs.Weight.{Weights, whole, once}
use Rattle.share.specs.Rule.{part_share, the_rule}
use Rattle.share.specs.Scale.{Scale, due}
use Rattle.share.specs.Theorems.{ScaledRight}
use Rattle.share.proofs.Weights.{weight_most}

-- any number of nothing
free_of : (w x : ℕ) → x ≡ 0 → w * x ≡ 0
free_of w x none = rw none (mul-zero w)

-- for a part that costs nothing nobody pays
free_part : (p w x : ℕ) → x ≡ 0 → p * (w * x) ≡ 0
free_part p w x none = free_of p (w * x) (free_of w x none)

-- for loops over the parts
pub due_none : (weight : Weights) (per : ℕ → ℕ) (c : Costs) (i : ℕ) → due weight per c i 0 ≡ 0
unfolding due sum
due_none weight per c i = refl

pub due_next : (weight : Weights) (per : ℕ → ℕ) (c : Costs) (i k : ℕ) → due weight per c i (k + 1) ≡ due weight per c i k + per k * (weight i k * c k)
unfolding due
due_next weight per c i k = sum_next k (λ e. per e * (weight i e * c e))

-- where each user counts once: a part that farm i uses, and one that it does not use
pub due_used : (l : Line) (per : ℕ → ℕ) (c : Costs) (i k : ℕ) → l.uses i k ≡ true → due (once l) per c i (k + 1) ≡ due (once l) per c i k + per k * c k
due_used l per c i k u = due_next (once l) per c i k ∙ ap (λ b. due (once l) per c i k + per k * (one b * c k)) u ∙ omega arith

pub due_unused : (l : Line) (per : ℕ → ℕ) (c : Costs) (i k : ℕ) → l.uses i k ≡ false → due (once l) per c i (k + 1) ≡ due (once l) per c i k
due_unused l per c i k n = due_next (once l) per c i k ∙ ap (λ b. due (once l) per c i k + per k * (one b * c k)) n ∙ omega arith

-- what divides a number above 0 is above 0
pub divisor : (p d s : ℕ) → 0 < s → p * d ≡ s → 0 < d
divisor p zero s h e = omega (arith, mul-zero p)
divisor p (suc d) s h e = omega arith

-- a factor above and below
over_both : (p a d s : ℕ) → 0 < s → p * d ≡ s → over (p * a) s ≈ over a d
unfolding over
over_both p a d s h e =
    let below : suc (pred d) ≡ d = omega (arith, divisor p d s h e) in
    let above : suc (pred s) ≡ s = omega arith in
    record { crossed = ap pos (rw (below, above) (omega (arith, ap (λ z. a * z) e))) }

-- over one scale the same fractions are the same numbers
pub over_apart : (a b d : ℕ) → over a d ≈ over b d → a ≡ b
unfolding over
over_apart a b d e = eq_of_mul-eq-mul_right (suc (pred d)) (omega arith) a b (same_out _ _ e.crossed).0

-- at most b wholes of d parts each
pub over_most : (a b d : ℕ) → 0 < d → over a d ≼ over b 1 → a ≤ d * b
unfolding over
over_most a b d h e =
    let below : suc (pred d) ≡ d = omega arith in
    omega (arith, ints, e.crossed, ap (λ z. b * z) below)

pub scaled_right : ScaledRight
unfolding due the_rule part_share
scaled_right l weight c scale per s i =
    same_sym (sumF_over l.parts scale (λ e. per e * (weight i e * c e)))
    then sumF_same l.parts _ _ each
  where
    each : (e : ℕ) → e < l.parts → over (per e * (weight i e * c e)) scale ≈ over (weight i e * c e) (whole l weight e)
    each e k =
        elim (cases_lt 0 (c e)) [
          | inl costs ↦ over_both (per e) (weight i e * c e) (whole l weight e) scale s.positive (s.divides e k costs)
          | inr none ↦
              let free : c e ≡ 0 = omega arith in
              over_same _ 0 scale (free_part (per e) (weight i e) (c e) free)
              then over_none scale
              then same_sym (over_same _ 0 (whole l weight e) (free_of (weight i e) (c e) free) then over_none (whole l weight e))
        ]

-- a farm pays for no part more than it costs
pub due_part : (l : Line) (weight : Weights) (c : Costs) (scale : ℕ) (per : ℕ → ℕ) → Scale l weight c scale per →
    (i e : ℕ) → i < l.farms → e < l.parts → per e * (weight i e * c e) ≤ scale * c e
due_part l weight c scale per s i e ki k =
    elim (cases_lt 0 (c e)) [
      | inl costs ↦ omega (arith, ap (λ z. c e * z) (s.divides e k costs), mul-le-mul_left (per e) (mul-le-mul_right (c e) (weight_most l weight i e ki)))
      | inr none ↦ omega (arith, free_part (per e) (weight i e) (c e) (omega arith))
    ]

-- nor for the first k parts together: what bounds a loop that adds up what is due
pub due_most : (l : Line) (weight : Weights) (c : Costs) (scale : ℕ) (per : ℕ → ℕ) → Scale l weight c scale per →
    (i k : ℕ) → i < l.farms → k ≤ l.parts → due weight per c i k ≤ scale * sum k c
unfolding due
due_most l weight c scale per s i k ki h =
    omega (arith, sum_le k (λ e. per e * (weight i e * c e)) (λ e. c e * scale) (λ e ke. omega (arith, due_part l weight c scale per s i e ki (omega arith))), sum_times k scale c)
