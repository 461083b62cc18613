-- Who joins raises no other farm's share.
use Rattle.std.proofs.Common.{◌≡◌, ℕ, suc, pred, ◌+◌, ◌-◌, ◌*◌, ◌<◌, ◌≤◌, Bool, true, false, not, ◌&&◌, ◌||◌, eqb, sym, refl, ap, ◌∙◌, subst, inl, inr, mul-le-mul_left, arith}
use mathlib.Core.Path.{fun_ext}
use borrow.Author.Differences.{ints}
use Rattle.std.proofs.lemmas.Bool.{cases_eq, and_parts, eqb-true, ne_eqb}
use Rattle.number.specs.Fraction.{over, ◌≼◌, sumF}
use Rattle.number.specs.Sum.{sum, one}
use Rattle.number.proofs.Fractions.{same_sym, over_same, le_same, le_trans}
use Rattle.number.proofs.FractionSums.{sumF_le}
use Rattle.number.proofs.Sums.{sum_append, sum_le}
use Rattle.line.specs.Line.{Line, users}
use Rattle.share.specs.Rule.{part_share, the_rule}
use Rattle.share.specs.Weight.{whole, once, AllUsed}
use Rattle.share.proofs.Fairness.{every_fair_rule_lem}
use Rattle.share.proofs.Once.{once_agree}
use Rattle.share.proofs.Weights.{once_fits_lem}
use Rattle.change.specs.Change.{Grows}
use Rattle.change.specs.Theorems.{PartNotRaised, JoiningRaisesNone, LeavingLowersNone, JoinedGrows, PartedGrows, Back}

-- the same among more is no more
over_more : (a d d' : ℕ) → 0 < d → d ≤ d' → over a d' ≼ over a d
unfolding over
over_more a d d' h k = record { crossed = omega (arith, ints, mul-le-mul_left a (let g : suc (pred d) ≤ suc (pred d') = omega arith in g)) }

implied : (a b : Bool) → (a ≡ true → b ≡ true) → one a ≤ one b
implied true b h = omega (arith, ap one (h refl))
implied false b h = omega arith

-- a line that grows loses no user
module _ (i : ℕ) (l l' : Line) (g : Grows i l l') where
  each_stays : (e j : ℕ) → e < l.parts → j < l.farms → one (l.uses j e) ≤ one (l'.uses j e)
  each_stays e j k h =
      elim (cases_eq j i) [
        | inl p ↦ implied _ _ (subst (λ x. l.uses x e ≡ true → l'.uses x e ≡ true) (sym p) (g.keeps e (subst (λ x. x < l.farms) p h) k))
        | inr q ↦ omega (arith, ap one (g.others j e h q k))
      ]

  users_stay : (e : ℕ) → e < l.parts → users l e ≤ users l' e
  unfolding users
  users_stay e k =
      let d = l'.farms - l.farms in
      let split : d + l.farms ≡ l'.farms = omega (arith, g.more) in
      omega (
        arith,
        ap (λ z. sum z (λ j. one (l'.uses j e))) split,
        sum_append l.farms d (λ j. one (l'.uses j e)),
        sum_le l.farms (λ j. one (l.uses j e)) (λ j. one (l'.uses j e)) (λ j h. each_stays e j k h),
      )

  pub still_used : AllUsed l → AllUsed l'
  still_used u e k = let k' : e < l.parts = subst (λ m. e < m) g.parts k in omega (arith, u e k', users_stay e k')

pub part_not_raised : PartNotRaised
unfolding part_share whole users
part_not_raised i l l' g u c j e h n k =
    le_trans (le_same (over_same _ _ (users l' e) (ap (λ b. one b * c e) (g.others j e h n k))))
    (over_more (one (l.uses j e) * c e) (users l e) (users l' e) (u e k) (users_stay i l l' g e k))

pub joining_raises_none_lem : JoiningRaisesNone
unfolding the_rule
joining_raises_none_lem i l l' g u = record {
  rule = by_rule;
  fair = λ r r' f f' c j h n.
      le_trans (le_same (every_fair_rule_lem l' (once l') (once_fits_lem l' (still_used i l l' g u)) r' ((once_agree l' r').1 f') c j (omega (arith, g.more))))
      (le_trans (by_rule c j h n) (le_same (same_sym (every_fair_rule_lem l (once l) (once_fits_lem l u) r ((once_agree l r).1 f) c j h))));
}
  where
    by_rule : (c : ℕ → ℕ) (j : ℕ) → j < l.farms → (j ≡ i → ⊥) → the_rule l' (once l') c j ≼ the_rule l (once l) c j
    by_rule c j h n =
        subst (λ m. sumF m (part_share l' (once l') c j) ≼ the_rule l (once l) c j) (sym g.parts)
        (sumF_le l.parts _ _ (λ e k. part_not_raised i l l' g u c j e h n k))

pub leaving_lowers_none_lem : LeavingLowersNone
leaving_lowers_none_lem i l l' g u =
    let x = joining_raises_none_lem i l' l g u in
    record { rule = x.rule; fair = λ r r' f f'. x.fair r' r f' f }

-- one farm's use of one part as two tests
off : (i e j f : ℕ) → (j ≡ i → ⊥) → (eqb j i && eqb f e) ≡ false
off i e j f n = ap (λ b. b && eqb f e) (ne_eqb j i n)

or_off : (a t : Bool) → t ≡ false → (a || t) ≡ a
or_off true t h = refl
or_off false t h = h

or_on : (a t : Bool) → a ≡ true → (a || t) ≡ true
or_on a t h = ap (λ b. b || t) h

and_off : (a t : Bool) → t ≡ false → (a && not t) ≡ a
and_off true t h = ap not h
and_off false t h = refl

and_first : (a t : Bool) → (a && t) ≡ true → a ≡ true
and_first a t h = (and_parts a t h).0

pub joined_grows_lem : JoinedGrows
joined_grows_lem l i e = record {
  parts = refl;
  more = omega arith;
  new = λ j h k. absurd (omega arith);
  others = λ j f h n k. or_off (l.uses j f) _ (off i e j f n);
  keeps = λ f h k u. or_on _ _ u;
}

pub parted_grows_lem : PartedGrows
parted_grows_lem l i e = record {
  parts = refl;
  more = omega arith;
  new = λ j h k. absurd (omega arith);
  others = λ j f h n k. sym (and_off (l.uses j f) _ (off i e j f n));
  keeps = λ f h k u. and_first _ _ u;
}

-- a line that stays grows too
pub stays : (i : ℕ) (l : Line) → Grows i l l
stays i l = record {
  parts = refl;
  more = omega arith;
  new = λ j h k. absurd (omega arith);
  others = λ j f h n k. refl;
  keeps = λ f h k u. u;
}

there : (a t : Bool) → (t ≡ true → a ≡ false) → ((a || t) && not t) ≡ a
there true true h = sym (h refl)
there true false h = refl
there false true h = refl
there false false h = refl

here : (a t : Bool) → (t ≡ true → a ≡ true) → ((a && not t) || t) ≡ a
here true true h = refl
here true false h = refl
here false true h = sym (h refl)
here false false h = refl

-- what is known of farm i and part e where both tests pass
at_both : (u : ℕ → ℕ → Bool) (b : Bool) (i e j f : ℕ) → u i e ≡ b → (eqb j i && eqb f e) ≡ true → u j f ≡ b
at_both u b i e j f h t =
    let p = and_parts (eqb j i) (eqb f e) t in
    ap (λ x. u x f) (eqb-true j i p.0) ∙ ap (u i) (eqb-true f e p.1) ∙ h

-- lines of one size are the same if the same farms use the same parts
pub same_uses : (n m : ℕ) (u v : ℕ → ℕ → Bool) → ((j f : ℕ) → u j f ≡ v j f) → ◌≡◌ {A = Line} (record { farms = n; parts = m; uses = u }) (record { farms = n; parts = m; uses = v })
same_uses n m u v h = ap {A = ℕ → ℕ → Bool} (λ w. record { farms = n; parts = m; uses = w }) (fun_ext (λ j. fun_ext (λ f. h j f)))

pub back : Back
back = (
  λ l i e h. same_uses l.farms l.parts _ _ (λ j f. there (l.uses j f) _ (λ t. at_both l.uses false i e j f h t)),
  λ l i e h. same_uses l.farms l.parts _ _ (λ j f. here (l.uses j f) _ (λ t. at_both l.uses true i e j f h t)),
)
