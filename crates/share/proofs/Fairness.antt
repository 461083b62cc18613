-- The rule is fair, and no other is.
use Rattle.std.proofs.Common.{◌≡◌, ℕ, ◌*◌, ◌<◌, Bool, true, false, refl, ap, ◌∙◌, inl, inr, mul-zero, zero-mul, mul-add, arith}
use Rattle.std.proofs.lemmas.Bool.{cases_eq, cases_Bool, both_ways}
use Rattle.number.specs.Fraction.{over, ◌≈◌, ◌⊕◌, times, sumF}
use Rattle.number.proofs.Sums.{sum_times}
use Rattle.number.proofs.Fractions.{same_sym, ◌then◌, add_same, times_same, times_cancel, times_none, times_nothing, over_same, over_add, over_none, over_whole}
use Rattle.number.proofs.FractionSums.{sumF_same, sumF_zero, sumF_add, sumF_times, sumF_swap, sumF_over, times_sum}
use Rattle.line.specs.Line.{Line}
use Rattle.share.specs.Cost.{Costs, together, only}
use Rattle.share.specs.Weight.{Weights, whole, Fits}
use Rattle.share.specs.Rule.{Rule, part_share, the_rule}
use Rattle.share.specs.Fair.{Sharing, Fair}
use Rattle.share.specs.Theorems.{RuleFair, NoOther, EveryFairRule}
use Rattle.share.proofs.Building.{only_other, sum_only, all_costs}

-- who does not use a part counts 0, and who uses it has nothing to pay for it
none_due : (b : Bool) (w c : ℕ) → (b ≡ false → w ≡ 0) → (b ≡ true → c ≡ 0) → w * c ≡ 0
none_due true w c outside free = ap (λ z. w * z) (free refl) ∙ mul-zero w
none_due false w c outside free = ap (λ z. z * c) (outside refl) ∙ zero-mul c

crosswise : (w w' : ℕ → ℕ) (e v f : ℕ) → w' e * (w f * only e v f) ≡ w e * (w' f * only e v f)
crosswise w w' e v f =
    elim (cases_eq e f) [
      | inl p ↦ rw p (omega arith)
      | inr q ↦ rw (only_other e v f q) (omega arith)
    ]

module _ (l : Line) (weight : Weights) (fits : Fits l weight) where
  -- all farms together pay a part's cost
  part_total : (c : Costs) (e : ℕ) → e < l.parts → sumF l.farms (λ i. part_share l weight c i e) ≈ over (c e) 1
  unfolding part_share whole
  part_total c e k =
      sumF_over l.farms (whole l weight e) (λ i. weight i e * c e)
      then over_same _ _ (whole l weight e) (sum_times l.farms (c e) (λ i. weight i e))
      then over_whole (c e) (whole l weight e) (fits.counted e k)

  part_adds : (c d : Costs) (i e : ℕ) → part_share l weight (together c d) i e ≈ part_share l weight c i e ⊕ part_share l weight d i e
  unfolding part_share together
  part_adds c d i e =
      over_same _ _ (whole l weight e) (mul-add (weight i e) (c e) (d e))
      then same_sym (over_add (weight i e * c e) (weight i e * d e) (whole l weight e))

  part_unused : (c : Costs) (i e : ℕ) → i < l.farms → e < l.parts → (l.uses i e ≡ true → c e ≡ 0) → part_share l weight c i e ≈ over 0 1
  unfolding part_share
  part_unused c i e ki k free =
      over_same _ 0 (whole l weight e) (none_due (l.uses i e) (weight i e) (c e) (fits.unused i e ki k) free)
      then over_none (whole l weight e)

  part_by_weight : (e v i j f : ℕ) → times (weight j e) (part_share l weight (only e v) i f) ≈ times (weight i e) (part_share l weight (only e v) j f)
  unfolding part_share times over
  part_by_weight e v i j f = over_same _ _ (whole l weight f) (crosswise (weight i) (weight j) e v f)

  rule_sharing : Sharing l (the_rule l weight)
  unfolding the_rule
  rule_sharing = record {
    total = λ c.
        sumF_swap l.farms l.parts (part_share l weight c)
        then sumF_same l.parts _ (λ e. over (c e) 1) (part_total c)
        then sumF_over l.parts 1 c;
    adds = λ c d i _.
        sumF_same l.parts _ _ (λ e _. part_adds c d i e)
        then sumF_add l.parts (part_share l weight c i) (part_share l weight d i);
    unused = λ c i ki h. sumF_zero l.parts _ (λ e k. part_unused c i e ki k (h e k));
  }

pub rule_fair : RuleFair
unfolding the_rule
rule_fair l weight fits = record {
  sharing = rule_sharing l weight fits;
  by_weight = λ e v i j _ _ _ _ _.
      same_sym (sumF_times l.parts (weight j e) (part_share l weight (only e v) i))
      then sumF_same l.parts _ _ (λ f _. part_by_weight l weight fits e v i j f)
      then sumF_times l.parts (weight i e) (part_share l weight (only e v) j);
}

module _ (l : Line) (weight : Weights) (fits : Fits l weight) (r : Rule) (f : Fair l weight r) where
  not_mine : (e v i : ℕ) → i < l.farms → l.uses i e ≡ false → r (only e v) i ≈ over 0 1
  not_mine e v i ki n = f.sharing.unused (only e v) i ki (λ g _ u. only_other e v g (λ p. both_ways (l.uses i e) n (ap (l.uses i) p ∙ u)))

  -- the fourth property for all farms, users or not
  all_by_weight : (e v i j : ℕ) → e < l.parts → i < l.farms → j < l.farms → times (weight j e) (r (only e v) i) ≈ times (weight i e) (r (only e v) j)
  all_by_weight e v i j k ki kj =
      elim (cases_Bool (l.uses i e)) [
        | inl ui ↦ elim (cases_Bool (l.uses j e)) [ inl uj ↦ f.by_weight e v i j k ki kj ui uj | inr nj ↦ same_sym (none j i kj nj) ]
        | inr ni ↦ none i j ki ni
      ]
    where
      none : (a b : ℕ) → a < l.farms → l.uses a e ≡ false → times (weight b e) (r (only e v) a) ≈ times (weight a e) (r (only e v) b)
      none a b ka na =
          times_same (weight b e) (not_mine e v a ka na)
          then times_nothing (weight b e)
          then same_sym (times_none (weight a e) _ (fits.unused a e ka k na))

  one_part : (e v i : ℕ) → e < l.parts → i < l.farms → times (whole l weight e) (r (only e v) i) ≈ times (weight i e) (over v 1)
  unfolding whole
  one_part e v i k ki =
      times_sum l.farms (λ j. weight j e) (r (only e v) i)
      then sumF_same l.farms _ (λ j. times (weight i e) (r (only e v) j)) (λ j kj. all_by_weight e v i j k ki kj)
      then sumF_times l.farms (weight i e) (r (only e v))
      then times_same (weight i e) (f.sharing.total (only e v) then over_same _ v 1 (sum_only l.parts e v k))

pub no_other : NoOther
no_other l weight fits r q fr fq c i ki =
    all_costs (λ c. r c i ≈ q c i) l.parts
    (λ c h. fr.sharing.unused c i ki (λ e k _. h e k) then same_sym (fq.sharing.unused c i ki (λ e k _. h e k)))
    (λ e v k. times_cancel (whole l weight e) _ _ (fits.counted e k) (one_part l weight fits r fr e v i k ki then same_sym (one_part l weight fits q fq e v i k ki)))
    (λ c d p p'. fr.sharing.adds c d i ki then add_same p p' then same_sym (fq.sharing.adds c d i ki))
    c

pub every_fair_rule_lem : EveryFairRule
every_fair_rule_lem l weight fits r f = no_other l weight fits r (the_rule l weight) f (rule_fair l weight fits)
