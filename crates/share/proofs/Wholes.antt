-- The rule in whole numbers.
use Rattle.std.proofs.Common.{◌≡◌, ℕ, zero, suc, ◌+◌, ◌*◌, ◌<◌, Bool, true, false, cond, sym, refl, ap, ◌∙◌, inl, inr, mul-zero, mul-add, arith}
use Rattle.std.proofs.lemmas.Bool.{cases_eq}
use Rattle.number.specs.Fraction.{over}
use Rattle.number.specs.Sum.{sum, one}
use Rattle.number.proofs.Sums.{sum_same, sum_zero, sum_add, sum_times, sum_swap, sum_has}
use Rattle.number.proofs.Fractions.{same_sym, ◌then◌, over_same, over_add, over_none, over_whole}
use Rattle.number.proofs.FractionSums.{sumF_over}
use Rattle.line.specs.Line.{Line, users}
use Rattle.share.specs.Cost.{Costs, together, only}
use Rattle.share.specs.Weight.{whole, once, AllUsed}
use Rattle.share.specs.Fair.{Fair, FairOnce}
use Rattle.share.specs.Scale.{due, scaled}
use Rattle.share.specs.Whole.{ScaledRule, FairWhole, whole_rule}
use Rattle.share.specs.Theorems.{WholeFair, WholeNoOther, WholeEvery, WholeNobodyLeaves}
use Rattle.share.proofs.Building.{only_other}
use Rattle.share.proofs.Weights.{once_fits_lem}
use Rattle.share.proofs.Fairness.{no_other}
use Rattle.share.proofs.Groups.{group_sum_le}
use Rattle.share.proofs.Once.{once_agree}
use Rattle.share.proofs.Scales.{divisor, over_apart}
use Rattle.share.proofs.Promised.{shares_right}

-- what one farm pays for one part: p for each of the cost x, if it uses the part
pays_once : (b : Bool) (p x : ℕ) → cond b (p * x) 0 ≡ p * (one b * x)
pays_once true p x = omega arith
pays_once false p x = omega arith

pays_free : (b : Bool) (p x : ℕ) → (b ≡ true → x ≡ 0) → cond b (p * x) 0 ≡ 0
pays_free true p x h = ap (λ z. p * z) (h refl) ∙ mul-zero p
pays_free false p x h = refl

pays_adds : (b : Bool) (p x y : ℕ) → cond b (p * (x + y)) 0 ≡ cond b (p * x) 0 + cond b (p * y) 0
pays_adds true p x y = mul-add p x y
pays_adds false p x y = refl

-- the rule in whole numbers is the rule over that scale where each user counts once
pub whole_scaled : (l : Line) (per : ℕ → ℕ) (c : Costs) (i : ℕ) → whole_rule l per c i ≡ scaled l (once l) per c i
unfolding whole_rule due
whole_scaled l per c i = sum_same l.parts _ _ (λ e _. pays_once (l.uses i e) (per e) (c e))

pub whole_fair : WholeFair
unfolding whole_rule together users
whole_fair l scale per divide = record {
  total = λ c. sum_swap n m (λ i e. cond (l.uses i e) (per e * c e) 0) ∙ sum_same m _ (λ e. c e * scale) (part_total c) ∙ sum_times m scale c ∙ omega arith;
  adds = λ c d i _. sum_same m _ _ (λ e _. pays_adds (l.uses i e) (per e) (c e) (d e)) ∙ sum_add m _ _;
  unused = λ c i _ h. sum_zero m _ (λ e k. pays_free (l.uses i e) (per e) (c e) (h e k));
  equally = λ e v i j _ _ _ ui uj. sum_same m _ _ (λ f _. like e v i j f ui uj);
}
  where
    n : ℕ
    n = l.farms

    m : ℕ
    m = l.parts

    part_total : (c : Costs) (e : ℕ) → e < m → sum n (λ i. cond (l.uses i e) (per e * c e) 0) ≡ c e * scale
    part_total c e k =
        sum_same n _ (λ i. one (l.uses i e) * (per e * c e)) (λ i _. pays_once (l.uses i e) (per e) (c e) ∙ omega arith)
        ∙ sum_times n (per e * c e) (λ i. one (l.uses i e))
        ∙ omega (arith, ap (λ z. c e * z) (divide e k))

    like : (e v i j f : ℕ) → l.uses i e ≡ true → l.uses j e ≡ true → cond (l.uses i f) (per f * only e v f) 0 ≡ cond (l.uses j f) (per f * only e v f) 0
    like e v i j f ui uj =
        elim (cases_eq e f) [
          | inl p ↦ ap (λ b. cond b (per f * only e v f) 0) (ap (l.uses i) (sym p) ∙ ui ∙ sym uj ∙ ap (l.uses j) p)
          | inr q ↦ pays_free (l.uses i f) (per f) _ (λ _. only_other e v f q) ∙ sym (pays_free (l.uses j f) (per f) _ (λ _. only_other e v f q))
        ]

-- whole numbers over one scale are fractions, so a rule that is fair in whole numbers is fair
pub fair_over : (l : Line) (scale : ℕ) (r : ScaledRule) → 0 < scale → FairWhole l scale r → FairOnce l (λ c i. over (r c i) scale)
fair_over l scale r h f = record {
  sharing = record {
    total = λ c. sumF_over l.farms scale (r c) then over_same _ _ scale (f.total c) then over_whole (sum l.parts c) scale h;
    adds = λ c d i k. over_same _ _ scale (f.adds c d i k) then same_sym (over_add (r c i) (r d i) scale);
    unused = λ c i k z. over_same _ 0 scale (f.unused c i k z) then over_none scale;
  };
  equally = λ e v i j k ki kj ui uj. over_same _ _ scale (f.equally e v i j k ki kj ui uj);
}

-- over the scale 0 nobody pays anything
nothing : (l : Line) (r : ScaledRule) → FairWhole l 0 r → (c : Costs) (i : ℕ) → i < l.farms → r c i ≡ 0
nothing l r f c i k = omega (arith, sum_has l.farms i (r c) k, f.total c)

pub whole_no_other_lem : WholeNoOther
whole_no_other_lem l zero r q used fr fq c i k = nothing l r fr c i k ∙ sym (nothing l q fq c i k)
whole_no_other_lem l (suc s) r q used fr fq c i k =
    over_apart (r c i) (q c i) (suc s)
    (no_other l (once l) (once_fits_lem l used) _ _ (by_weight r fr) (by_weight q fq) c i k)
  where
    by_weight : (p : ScaledRule) → FairWhole l (suc s) p → Fair l (once l) (λ d j. over (p d j) (suc s))
    by_weight p f = (once_agree l _).1 (fair_over l (suc s) p (omega arith) f)

pub whole_every_lem : WholeEvery
whole_every_lem l scale per used divide r f c i k = whole_no_other_lem l scale r (whole_rule l per) used f (whole_fair l scale per divide) c i k

pub whole_nobody_leaves_lem : WholeNobodyLeaves
unfolding whole users
whole_nobody_leaves_lem l zero per divide c g = omega (arith, group_sum_le l g (whole_rule l per c), (whole_fair l 0 per divide).total c)
whole_nobody_leaves_lem l (suc s) per divide c g =
    (shares_right l c (suc s) per (whole_rule l per c) used
    (record { positive = omega arith; divides = λ e k _. divide e k }) (λ i _. whole_scaled l per c i)).no_group g
  where
    used : AllUsed l
    used e k = divisor (per e) (users l e) (suc s) (omega arith) (divide e k)
