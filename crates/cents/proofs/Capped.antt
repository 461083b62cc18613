-- Counts that are too large stay too large: it does not matter by how much they are. What is copied of counts and cents.
use Rattle.std.proofs.Common.{◌≡◌, ℕ, zero, suc, ◌+◌, ◌<◌, ◌≤◌, min, Bool, false, ◌&&◌, ◌||◌, eqb, ltb, leb, ◌⊎◌, List, length, take, drop, map, ◌++◌, position, refl, sym, ap, ◌∙◌, ap₂, inl, inr, arith}
use Rattle.std.proofs.lemmas.Bool.{cases_lt, le-leb, leb-false}
use Rattle.std.proofs.lemmas.List.{get_or_default, get_or-map, get_or-take, get_or_append_left, length-take-le, length-map, drop_at}
use Rattle.std.proofs.lemmas.Bool.Decides.{nat_tests}
use Rattle.number.specs.First.{some, found}
use Rattle.number.specs.Sum.{one}
use Rattle.number.proofs.Firsts.{each_fails}
use Rattle.number.proofs.Positions.{position_found}
use Rattle.number.proofs.Sums.{sum_same}
use Rattle.line.specs.Line.{Line}
use Rattle.share.specs.Answer.{at}
use Rattle.share.specs.Cost.{Costs}
use Rattle.share.specs.Weight.{Weights, once}
use Rattle.cents.specs.Answer.{odds_then, past}
use Rattle.cents.specs.Closing.{odds, charged}
use Rattle.cents.specs.Limits.{counts_end}
use Rattle.cents.specs.declared.limits.TheConstants.{COUNTS_END}
use Rattle.cents.specs.Rank.{before, rank}
use Rattle.cents.specs.Split.{broken, rest, pays_odd, odd_cent, odd_after}
use Rattle.cents.proofs.Closing.{odds_same, charged_same}

-- each of the first n has the same count in both, or one that is too large in both
abbrev Like : (n end : ℕ) → (ℕ → ℕ) → (ℕ → ℕ) → Type 0
Like n end a b = (i : ℕ) → i < n → (a i ≡ b i) ⊎ ((end ≤ a i) × (end ≤ b i))

module _ (l : Line) (weight : Weights) (e c end : ℕ) (a b : ℕ → ℕ) (like : Like l.farms end a b) where
  -- who isn't too large pays alike, as those who are come after it
  pays_like : (i : ℕ) → i < l.farms → a i ≡ b i → a i < end → pays_odd l weight e c a i ≡ pays_odd l weight e c b i
  unfolding pays_odd rank before
  pays_like i k same low = ap (λ r. broken l weight e c i && ltb r (rest l weight e c)) (sum_same l.farms _ _ (λ j kj. each j (like j kj)))
    where
      far : (p : Bool) (x y z w j : ℕ) → z < x → w < y → one (p && (ltb x z || (eqb x z && ltb j i))) ≡ one (p && (ltb y w || (eqb y w && ltb j i)))
      far p x y z w j h g = grind (arith, nat_tests)

      each : (j : ℕ) → (a j ≡ b j) ⊎ ((end ≤ a j) × (end ≤ b j)) →
          one (broken l weight e c j && (ltb (a j) (a i) || (eqb (a j) (a i) && ltb j i))) ≡ one (broken l weight e c j && (ltb (b j) (b i) || (eqb (b j) (b i) && ltb j i)))
      each j (inl alike) = ap₂ (λ x y. one (broken l weight e c j && (ltb x y || (eqb x y && ltb j i)))) alike same
      each j (inr large) = far (broken l weight e c j) (a j) (b j) (a i) (b i) j (omega arith) (omega arith)

  like_after : Like l.farms end (odd_after l weight e c a) (odd_after l weight e c b)
  unfolding odd_after odd_cent
  like_after i k =
      elim (like i k) [
        | inl same ↦ elim (cases_lt (a i) end) [ inl low ↦ inl (ap₂ (λ x p. x + one p) same (pays_like i k same low)) | inr high ↦ inr (omega arith, omega arith) ]
        | inr large ↦ inr (omega arith, omega arith)
      ]

module _ (l : Line) (weight : Weights) (c : Costs) where
  odds_like : (end : ℕ) (a b : ℕ → ℕ) → Like l.farms end a b → (k : ℕ) → Like l.farms end (odds l weight c a k) (odds l weight c b k)
  unfolding odds
  odds_like end a b like zero = like
  odds_like end a b like (suc k) = like_after l weight k (c k) end (odds l weight c a k) (odds l weight c b k) (odds_like end a b like k)

  -- no count falls
  odds_least : (odd : ℕ → ℕ) (k i : ℕ) → odd i ≤ odds l weight c odd k i
  unfolding odds odd_after
  odds_least odd zero i = omega arith
  odds_least odd (suc k) i = omega (arith, odds_least odd k i)

-- the first n counts, each that is too large taken as the end
pub record Front (n : ℕ) (odd counts : List ℕ) : Type 0 where
  pub long : length counts ≡ n
  pub capped : (i : ℕ) → i < n → at counts i ≡ min (at odd i) counts_end

pub capped_front : (n : ℕ) (odd copy counts : List ℕ) → copy ≡ take n odd → counts ≡ map (λ count. min count COUNTS_END) copy → n ≤ length odd → Front n odd counts
unfolding counts_end
capped_front n odd copy counts from is enough =
    let cap : ℕ → ℕ = λ count. min count counts_end in
    let front = is ∙ ap (map cap) from in
    let long = length-take-le n odd enough in
    record {
      long = ap length front ∙ length-map (take n odd) cap ∙ long;
      capped = λ i h. ap (λ xs. at xs i) front ∙ get_or-map cap (take n odd) i 0 0 (omega (arith, long)) ∙ ap cap (get_or-take n odd i 0 h);
    }

-- numbers written over the first n
pub record Written (n : ℕ) (from old new : List ℕ) : Type 0 where
  pub front : (i : ℕ) → i < n → at new i ≡ at from i
  pub rest : drop n new ≡ drop n old

pub copied : (n : ℕ) (from old copy : List ℕ) → copy ≡ from → length copy ≡ n → Written n from old (copy ++ drop n old)
copied n from old copy is long =
    record { front = λ i h. get_or_append_left copy (drop n old) 0 i (omega (arith, long)) ∙ ap (λ xs. at xs i) is; rest = drop_at copy (drop n old) n long }

module _ (l : Line) (costs odd counts : List ℕ) (front : Front l.farms odd counts) where
  past_like : (i : ℕ) → i < l.farms → past (odds_then l costs counts) i ≡ past (odds_then l costs odd) i
  past_like i h = same _ _ (odds_like l (once l) (at costs) counts_end (at counts) (at odd) (λ j g. start j (front.capped j g)) l.parts i h)
    where
      start : (j : ℕ) → at counts j ≡ min (at odd j) counts_end → (at counts j ≡ at odd j) ⊎ ((counts_end ≤ at counts j) × (counts_end ≤ at odd j))
      start j is = elim (cases_lt (at odd j) counts_end) [ inl low ↦ inl (omega arith) | inr high ↦ inr (omega arith, omega arith) ]

      same : (x y : ℕ) → (x ≡ y) ⊎ ((counts_end ≤ x) × (counts_end ≤ y)) → leb counts_end x ≡ leb counts_end y
      same x y (inl e) = ap (leb counts_end) e
      same x y (inr large) = le-leb counts_end x large.0 ∙ sym (le-leb counts_end y large.1)

  -- the first count that is too large is that of the first farm whose count comes to be so
  pub found_capped : (then : List ℕ) → length then ≡ l.farms → ((i : ℕ) → i < l.farms → at then i ≡ odds_then l costs counts i) → position (leb COUNTS_END) then ≡ found l.farms (past (odds_then l costs odd))
  unfolding counts_end
  found_capped then long split =
      position_found (leb counts_end) then l.farms _ long (λ k d h. ap (leb counts_end) (get_or_default then k d 0 (omega arith) ∙ split k h) ∙ past_like k h)

  -- where none comes to be, no count was capped
  module _ (none : some l.farms (past (odds_then l costs odd)) ≡ false) where
    uncapped : (i : ℕ) → i < l.farms → at counts i ≡ at odd i
    uncapped i h = omega (arith, front.capped i h, odds_least l (once l) (at costs) (at odd) l.parts i, leb-false _ _ (each_fails l.farms (past (odds_then l costs odd)) none i h))

    pub odds_capped : (i : ℕ) → i < l.farms → odds_then l costs counts i ≡ odds_then l costs odd i
    odds_capped i h = odds_same l (once l) (at costs) (at costs) (at counts) (at odd) l.parts (λ _ _. refl) uncapped l.parts (omega arith) i h

    pub charged_capped : (i : ℕ) → i < l.farms → charged l (once l) (at costs) (at counts) i l.parts ≡ charged l (once l) (at costs) (at odd) i l.parts
    charged_capped i h = charged_same l (once l) (at costs) (at costs) (at counts) (at odd) l.parts (λ _ _. refl) uncapped l.parts (omega arith) i h
