-- Splitting costs part by part and farm by farm.
use Rattle.std.proofs.Common.{◌≡◌, ℕ, ◌+◌, ◌*◌, ◌/◌, ◌^◌, ◌<◌, ◌≤◌, true, false, cond, ◌≢◌, List, length, set, sym, refl, ap, ◌∙◌, ap₂, ⊎_elim, arith, below_more}
use Rattle.std.proofs.lemmas.List.{get_or-set_same, get_or-set_other}
use Rattle.std.proofs.lemmas.Bool.{cases_lt, and_left}
use Rattle.number.specs.Sum.{one}
use Rattle.number.proofs.Sums.{sum_most}
use Rattle.line.specs.Limits.{most_parts, costs_end}
use Rattle.line.specs.Line.{Line, users}
use Rattle.share.specs.Answer.{at}
use Rattle.share.specs.Weight.{once}
use Rattle.cents.specs.Asked.{Asked}
use Rattle.cents.specs.Closing.{odds, charged}
use Rattle.cents.specs.Limits.{counts_end}
use Rattle.cents.specs.Split.{pays_odd, odd_cent, cents, odd_after}
use Rattle.cents.proofs.Closing.{odds_none, charged_none, odds_next, charged_next, odds_free, charged_free, odds_most, charged_most}
use Rattle.cents.proofs.Equal.{equal_users_lem}
use Rattle.cents.proofs.Same.{cents_same, odd_after_same}

-- how many odd cents farm i has paid after the first k parts, and what it pays for them
abbrev pub paid : Line → (costs odd : List ℕ) → ℕ → ℕ → ℕ
paid l costs odd k i = odds l (once l) (at costs) (at odd) k i

abbrev pub due : Line → (costs odd : List ℕ) → ℕ → ℕ → ℕ
due l costs odd k i = charged l (once l) (at costs) (at odd) i k

-- rows that hold the counts and the sums of all farms after the first k parts; what stands behind the farms' stays
pub record Upto (l : Line) (costs odd₀ sums₀ : List ℕ) (k : ℕ) (odd sums : List ℕ) : Type 0 where
  pub counts : (i : ℕ) → i < l.farms → at odd i ≡ paid l costs odd₀ k i
  pub cents : (i : ℕ) → i < l.farms → at sums i ≡ due l costs odd₀ k i
  pub counts_rest : (i : ℕ) → l.farms ≤ i → at odd i ≡ at odd₀ i
  pub cents_rest : (i : ℕ) → l.farms ≤ i → at sums i ≡ at sums₀ i

-- rows that hold the counts and the sums of all farms where part e's cost c is split among the first i farms, and not yet among the others
pub record Halfway (l : Line) (e c : ℕ) (odd₁ sums₁ : List ℕ) (i : ℕ) (odd sums : List ℕ) : Type 0 where
  pub counts_before : (k : ℕ) → k < i → at odd k ≡ odd_after l (once l) e c (at odd₁) k
  pub counts_after : (k : ℕ) → i ≤ k → at odd k ≡ at odd₁ k
  pub cents_before : (k : ℕ) → k < i → at sums k ≡ at sums₁ k + cents l (once l) e c (at odd₁) k
  pub cents_after : (k : ℕ) → i ≤ k → at sums k ≡ at sums₁ k

-- who uses a part pays its whole cents, and one more if it is a payer
user_pays : (l : Line) (e c : ℕ) (odd : ℕ → ℕ) (i u m : ℕ) → l.uses i e ≡ true → u ≡ users l e → m ≡ one (pays_odd l (once l) e c odd i) →
    (cents l (once l) e c odd i ≡ c / u + m) × (odd_after l (once l) e c odd i ≡ odd i + m)
unfolding cents odd_after odd_cent
user_pays l e c odd i u m uses same is = (
  ap₂ ◌+◌ ((equal_users_lem l e c odd i).each ∙ ap (λ b. cond b (c / users l e) 0) uses ∙ ap (λ x. c / x) (sym same)) (sym is),
  ap (λ x. odd i + x) (sym is),
)

-- who doesn't use it pays nothing
other_pays : (l : Line) (e c : ℕ) (odd : ℕ → ℕ) (i : ℕ) → l.uses i e ≡ false → (cents l (once l) e c odd i ≡ 0) × (odd_after l (once l) e c odd i ≡ odd i)
unfolding cents odd_after odd_cent
other_pays l e c odd i unused =
    let split = equal_users_lem l e c odd i in
    let none : one (pays_odd l (once l) e c odd i) ≡ 0 = ap one (split.who ∙ and_left (l.uses i e) _ unused) in
    (omega (arith, split.each ∙ ap (λ b. cond b (c / users l e) 0) unused), omega arith)

module _ (l : Line) (e c : ℕ) (odd₁ sums₁ : List ℕ) where
  pub halfway_none : Halfway l e c odd₁ sums₁ 0 odd₁ sums₁
  halfway_none = record { counts_before = λ k h. absurd (omega arith); counts_after = λ k _. refl; cents_before = λ k h. absurd (omega arith); cents_after = λ k _. refl }

  -- one user on
  pub halfway_user : {i : ℕ} {odd sums : List ℕ} (u m : ℕ) → Halfway l e c odd₁ sums₁ i odd sums → i < length odd → i < length sums →
      l.uses i e ≡ true → u ≡ users l e → m ≡ one (pays_odd l (once l) e c (at odd₁) i) →
      Halfway l e c odd₁ sums₁ (i + 1) (set odd i (at odd i + m)) (set sums i (at sums i + (c / u + m)))
  halfway_user {i} {odd} {sums} u m h p q uses same is =
      let pays = user_pays l e c (at odd₁) i u m uses same is in
      record {
        counts_before = below_more _ i (λ k g. let ne : k ≢ i = omega arith in rw get_or-set_other (h.counts_before k g)) (rw get_or-set_same (omega (arith, h.counts_after i (omega arith), pays.1)));
        counts_after = λ k g. let ne : k ≢ i = omega arith in rw get_or-set_other (h.counts_after k (omega arith));
        cents_before = below_more _ i (λ k g. let ne : k ≢ i = omega arith in rw get_or-set_other (h.cents_before k g)) (rw get_or-set_same (omega (arith, h.cents_after i (omega arith), pays.0)));
        cents_after = λ k g. let ne : k ≢ i = omega arith in rw get_or-set_other (h.cents_after k (omega arith));
      }

  -- one farm on that doesn't use the part
  pub halfway_other : {i : ℕ} {odd sums : List ℕ} → Halfway l e c odd₁ sums₁ i odd sums → l.uses i e ≡ false → Halfway l e c odd₁ sums₁ (i + 1) odd sums
  halfway_other {i} h unused =
      let pays = other_pays l e c (at odd₁) i unused in
      record {
        counts_before = below_more _ i h.counts_before (omega (arith, h.counts_after i (omega arith), pays.1));
        counts_after = λ k g. h.counts_after k (omega arith);
        cents_before = below_more _ i h.cents_before (omega (arith, h.cents_after i (omega arith), pays.0));
        cents_after = λ k g. h.cents_after k (omega arith);
      }

  -- the same rows under other names
  pub halfway_at : (i : ℕ) {odd sums odd' sums' : List ℕ} → odd' ≡ odd → sums' ≡ sums → Halfway l e c odd₁ sums₁ i odd sums → Halfway l e c odd₁ sums₁ i odd' sums'
  halfway_at i a b h = rw (a, b) h

  -- rows in which part e's cost c is split among all farms
  pub record Turned (odd sums : List ℕ) : Type 0 where
    pub counts : (i : ℕ) → at odd i ≡ odd_after l (once l) e c (at odd₁) i
    pub cents : (i : ℕ) → at sums i ≡ at sums₁ i + cents l (once l) e c (at odd₁) i

  -- all farms have had their turn; past them nobody uses the part
  pub halfway_all : {n : ℕ} {odd sums : List ℕ} → Halfway l e c odd₁ sums₁ n odd sums → ((k : ℕ) → n ≤ k → l.uses k e ≡ false) → Turned odd sums
  halfway_all {n} h past =
      record {
        counts = λ i. ⊎_elim (h.counts_before i) (λ (g : n ≤ i). h.counts_after i g ∙ sym (other_pays l e c (at odd₁) i (past i g)).1) (cases_lt i n);
        cents = λ i. ⊎_elim (h.cents_before i) (λ (g : n ≤ i). omega (arith, h.cents_after i g, other_pays l e c (at odd₁) i (past i g))) (cases_lt i n);
      }

module _ (l : Line) (costs odd₀ : List ℕ) where
  pub upto_none : (sums : List ℕ) → ((i : ℕ) → i < l.farms → at sums i ≡ 0) → Upto l costs odd₀ sums 0 odd₀ sums
  upto_none sums zeros =
      record {
        counts = λ i _. sym (odds_none l (once l) (at costs) (at odd₀) i);
        cents = λ i h. zeros i h ∙ sym (charged_none l (once l) (at costs) (at odd₀) i);
        counts_rest = λ i _. refl;
        cents_rest = λ i _. refl;
      }

  -- one part on
  pub upto_more : {k : ℕ} {sums₀ odd₁ sums₁ odd sums : List ℕ} → Upto l costs odd₀ sums₀ k odd₁ sums₁ → ((i : ℕ) → l.farms ≤ i → l.uses i k ≡ false) →
      Turned l k (at costs k) odd₁ sums₁ odd sums → Upto l costs odd₀ sums₀ (k + 1) odd sums
  upto_more {k} {sums₀} {odd₁} {sums₁} up past turned =
      record {
        counts = λ i g. turned.counts i ∙ odd_after_same l (once l) k (at costs k) (at odd₁) (paid l costs odd₀ k) up.counts i g ∙ sym (odds_next l (once l) (at costs) (at odd₀) i k);
        cents = λ i g.
            turned.cents i ∙ ap₂ ◌+◌ (up.cents i g) (cents_same l (once l) k (at costs k) (at odd₁) (paid l costs odd₀ k) up.counts i g)
            ∙ sym (charged_next l (once l) (at costs) (at odd₀) i k);
        counts_rest = λ i g. turned.counts i ∙ (other_pays l k (at costs k) (at odd₁) i (past i g)).1 ∙ up.counts_rest i g;
        cents_rest = λ i g. omega (arith, turned.cents i, other_pays l k (at costs k) (at odd₁) i (past i g), up.cents_rest i g);
      }

  -- one part on that costs nothing
  pub upto_free : {k : ℕ} {sums₀ odd sums : List ℕ} → Upto l costs odd₀ sums₀ k odd sums → at costs k ≡ 0 → Upto l costs odd₀ sums₀ (k + 1) odd sums
  upto_free {k} up free =
      record {
        counts = λ i g. up.counts i g ∙ sym (odds_free l (once l) (at costs) (at odd₀) i k free);
        cents = λ i g. up.cents i g ∙ sym (charged_free l (once l) (at costs) (at odd₀) i k free);
        counts_rest = up.counts_rest;
        cents_rest = up.cents_rest;
      }

  -- the same rows and parts under other names
  pub upto_at : {k : ℕ} {sums₀ odd sums : List ℕ} (k' : ℕ) {odd' sums' : List ℕ} → k' ≡ k → odd' ≡ odd → sums' ≡ sums → Upto l costs odd₀ sums₀ k odd sums → Upto l costs odd₀ sums₀ k' odd' sums'
  upto_at k' n a b up = rw (n, a, b) up

  -- sums stay small
  pub due_small : (i k : ℕ) → ((e : ℕ) → e < l.parts → at costs e < costs_end) → i < l.farms → k ≤ l.parts → due l costs odd₀ k i ≤ k * costs_end
  due_small i k small h g = omega (arith, charged_most l (once l) (at costs) (at odd₀) i k h, sum_most k costs_end (at costs) (λ e p. omega (arith, small e (omega arith))))

  -- there is room for what one more part adds to a sum and to a count
  pub room : {k : ℕ} {sums₀ odd sums : List ℕ} → Asked l costs odd₀ → l.parts ≤ most_parts → Upto l costs odd₀ sums₀ k odd sums → k < l.parts → (i : ℕ) → i < l.farms →
      (at odd i + 1 < 2 ^ 63) × (at sums i + at costs k + 1 < 2 ^ 63)
  unfolding most_parts costs_end counts_end
  room {k} asked few up h i g = (
    omega (arith, up.counts i g, odds_most l (once l) (at costs) (at odd₀) i k, asked.low i g),
    omega (arith, up.cents i g, due_small i k asked.small g (omega arith), asked.small k h),
  )
