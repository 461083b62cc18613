-- Who is chosen by a level pays one cent more.
use Rattle.std.proofs.Common.{◌≡◌, ℕ, ◌+◌, ◌-◌, ◌%◌, ◌<◌, ◌≤◌, Bool, true, false, ◌&&◌, ◌||◌, eqb, ltb, List, length, sym, ap, ◌∙◌, ap₂, ⊎_elim, arith}
use Rattle.std.proofs.lemmas.Bool.{cases_lt, and_left}
use Rattle.std.proofs.lemmas.Bool.Decides.{nat_tests}
use Rattle.number.specs.Sum.{sum, one}
use Rattle.number.proofs.Sums.{sum_next}
use Rattle.line.specs.Line.{Line, users}
use Rattle.share.specs.Weight.{once}
use Rattle.cents.specs.Marking.{under, at_level, fewer, Listed, chosen}
use Rattle.cents.specs.Rank.{rank}
use Rattle.cents.specs.Split.{pays_odd}
use Rattle.cents.proofs.Equal.{equal_users_lem}
use Rattle.cents.proofs.Threshold.{threshold_selects_lem}

-- the level at which as many of the listed users pay one cent more as cents are left: who is chosen by it pays
pub chosen-pays :
    (l : Line) (e c : ℕ) (odd : ℕ → ℕ) {counts : List ℕ} (t left i : ℕ) → ((k : ℕ) → l.farms ≤ k → l.uses k e ≡ false) →
    Listed (λ j. l.uses j e) odd l.farms counts → left + fewer counts t ≡ c % length counts → c % length counts < fewer counts (t + 1) →
    pays_odd l (once l) e c odd i ≡ chosen (λ j. l.uses j e) odd t left i
unfolding users chosen
chosen-pays l e c odd {counts} t left i past listed low high = (equal_users_lem l e c odd i).who ∙ ⊎_elim inside outside (cases_lt i l.farms)
  where
    p : ℕ → Bool
    p j = l.uses j e

    r : ℕ
    r = c % users l e

    lowest : Bool
    lowest = p i && ltb (rank l.farms p odd i) r

    modulo : c % length counts ≡ r
    modulo = ap (λ u. c % u) listed.all

    rest : r - under l.farms p odd t ≡ left
    rest = omega (arith, modulo, listed.agree t)

    inside : i < l.farms → lowest ≡ chosen p odd t left i
    inside h =
        threshold_selects_lem l.farms p odd r t i h (omega (arith, modulo, listed.agree t)) (omega (arith, modulo, listed.agree (t + 1)))
        ∙ ap (λ y. chosen p odd t y i) rest

    outside : l.farms ≤ i → lowest ≡ chosen p odd t left i
    outside h = and_left (p i) _ (past i h) ∙ sym (and_left (p i) _ (past i h))

module _ (p : ℕ → Bool) (odd : ℕ → ℕ) (t left : ℕ) where
  level_next : (i : ℕ) → at_level p odd t (i + 1) ≡ at_level p odd t i + one (p i && eqb (odd i) t)
  unfolding at_level
  level_next i = sum_next i _

  -- how many at the level are left for those after the first i
  abbrev pub LeftAt : ℕ → ℕ → Type 0
  LeftAt i now = now ≡ left - at_level p odd t i

  pub left_first : LeftAt 0 left
  unfolding at_level sum
  left_first = omega arith

  -- one on that doesn't pass
  pub left_other : (i now : ℕ) → LeftAt i now → p i ≡ false → (now' : ℕ) → now' ≡ now → LeftAt (i + 1) now'
  left_other i now is fails now' same = omega (arith, level_next i, ap (λ b. one (b && eqb (odd i) t)) fails)

  -- one on that passes and has paid x
  module _ (i now x u : ℕ) (is : LeftAt i now) (passes : p i ≡ true) (paid : x ≡ odd i) (level : u ≡ t) where
    pub left_user : (now' : ℕ) → now' ≡ now - one (eqb x u) → LeftAt (i + 1) now'
    left_user now' less = omega (arith, level_next i, ap (λ b. one (b && eqb (odd i) t)) passes, ap₂ (λ y v. one (eqb y v)) paid level)

    -- it is chosen where the level and what is left choose it
    pub chosen_next : (ltb x u || (eqb x u && ltb 0 now)) ≡ chosen p odd t left i
    unfolding chosen
    chosen_next =
        ap₂ (λ y v. ltb y v || (eqb y v && ltb 0 now)) paid level ∙ ap (λ b. ltb (odd i) t || (eqb (odd i) t && b)) (less left (at_level p odd t i) is)
        ∙ sym (ap (λ b. b && (ltb (odd i) t || (eqb (odd i) t && ltb (at_level p odd t i) left))) passes)
      where
        less : (a b : ℕ) → now ≡ a - b → ltb 0 now ≡ ltb b a
        less a b e = grind (arith, nat_tests)
