-- What the calls answer, from what they computed.
use Rattle.std.proofs.Common.{◌≡◌, ℕ, ◌/◌, ◌^◌, ◌<◌, ◌≤◌, List, ◌++◌, length, drop, Some, None, Ok, Option, sym, ◌∙◌, subst, arith}
use Rattle.std.proofs.Math.ListN.{get_or-append}
use Rattle.std.proofs.lemmas.Slice.{drop-append-drop}
use Rattle.number.specs.Fraction.{over, ◌≈◌}
use Rattle.number.specs.Reduced.{value, Fitting}
use Rattle.number.specs.declared.fraction.Fraction.{Fraction as Reduced}
use Rattle.number.proofs.Fractions.{same_refl, ◌then◌}
use Rattle.line.specs.Limits.{most_parts}
use Rattle.line.specs.Line.{Line, users}
use Rattle.share.specs.Answer.{at, OverScale, ShareAnswer}
use Rattle.share.specs.Asked.{Asked}
use Rattle.share.specs.Least.{ScaleAnswer}
use Rattle.share.specs.Limits.{scale_end}
use Rattle.share.specs.Rule.{the_rule}
use Rattle.share.specs.Weight.{AllUsed, once}
use Rattle.share.proofs.Dues.{owed, owed_small}
use Rattle.share.proofs.Leasts.{least_scale, least_positive}
use Rattle.share.proofs.Promised.{fair_share, shares_right}
use Rattle.share.proofs.Scales.{scaled_right}

module _ (l : Line) (costs : List ℕ) (s : ℕ) (a : Asked l costs s) (used : AllUsed l) (few : l.parts ≤ most_parts) where
  -- all farms: what each owes stands at the front of a row
  pub over_scale : (front row : List ℕ) → length front ≡ l.farms → ((i : ℕ) → i < l.farms → at front i ≡ owed l s costs i l.parts) →
      ScaleAnswer l (at costs) (Some s) × OverScale l costs row (front ++ drop l.farms row) s
  over_scale front row long is = (
    (a.least, a.below),
    record {
      shares = shares_right l (at costs) s (λ e. s / users l e) (at after) used (least_scale l (at costs) s used a.least) there;
      small = λ i h. subst (λ x. x < 2 ^ 63) (sym (there i h)) (owed_small l s costs a used few i l.parts h (omega arith));
      rest = drop-append-drop l.farms row front l.farms (omega arith) long;
    },
  )
    where
      after : List ℕ
      after = front ++ drop l.farms row

      there : (i : ℕ) → i < l.farms → at after i ≡ owed l s costs i l.parts
      there i h = get_or-append front (drop l.farms row) 0 i (omega (arith, long)) ∙ is i h

  -- one farm: what it owes over the scale is its share, and it always fits
  pub one_share : (i v : ℕ) → i < l.farms → v ≡ owed l s costs i l.parts → (r : Option Reduced) → Fitting (over v s) r → ShareAnswer l costs i (Ok r)
  unfolding scale_end
  one_share i v h is None none =
      absurd (none v s (least_positive l (at costs) s used a.least) (subst (λ x. x < 2 ^ 63) (sym is) (owed_small l s costs a used few i l.parts h (omega arith))) (omega (arith, a.below)) same_refl)
  one_share i v h is (Some f) same = (
    (s, (a.least, a.below)),
    share,
    λ r fair. share then fair_share l used (at costs) i h r fair,
  )
    where
      share : value f ≈ the_rule l (once l) (at costs) i
      share = same then subst (λ x. over x s ≈ the_rule l (once l) (at costs) i) (sym is) (scaled_right l (once l) (at costs) s (λ e. s / users l e) (least_scale l (at costs) s used a.least) i)
