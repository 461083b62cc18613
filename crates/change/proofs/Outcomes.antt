-- What a change answers, and what it leaves.
use Rattle.std.proofs.Common.{◌≡◌, ℕ, ◌+◌, ◌<◌, Bool, true, false, cond, not, ◌&&◌, eqb, ◌≢◌, List, Some, None, Err, Option, sym, refl, ap, ◌∙◌, subst, inl, inr, arith}
use Rattle.std.proofs.lemmas.Bool.{cases_eq, eq-eqb, ne_eqb}
use Rattle.std.proofs.lemmas.Bool.Decides.{nat_tests}
use Rattle.number.specs.Sum.{one}
use Rattle.number.proofs.Sums.{sum_same, sum_add, sum_at}
use Rattle.line.specs.declared.refusal.Refusal.{Refusal}
use Rattle.line.specs.declared.refusal.Refusal.TheVariants.{Users}
use Rattle.line.specs.declared.line.Line.{Line as Over}
use Rattle.line.specs.Held.{held}
use Rattle.line.specs.Line.{Line, users}
use Rattle.line.specs.Rows.{line_of}
use Rattle.line.specs.Sound.{Used}
use Rattle.share.specs.Weight.{AllUsed}
use Rattle.change.specs.Answer.{Joined, Parted}
use Rattle.change.specs.Change.{marked, joined, parted, only_user, known_or, join_refused, leave_refused}
use Rattle.change.proofs.Growth.{same_uses, stays, joining_raises_none_lem, leaving_lowers_none_lem}
use Rattle.change.proofs.Marks.{or_is, and_not_is}

-- a part and a farm that are not refused are the line's
pub known_both : (l : Line) (i e : ℕ) → None ≡ known_or l i e None → (e < l.parts) × (i < l.farms)
unfolding known_or
known_both l i e h = grind arith

-- what else is said of them, where they are not refused, and what is refused of them, whatever else is said
pub known : (l : Line) (i e : ℕ) (x : Option Refusal) → None ≡ known_or l i e None → x ≡ known_or l i e x
unfolding known_or
known l i e x h = grind arith

pub unknown : (l : Line) (i e : ℕ) (r : Refusal) (x : Option Refusal) → Some r ≡ known_or l i e None → Some r ≡ known_or l i e x
unfolding known_or
unknown l i e r x h = grind arith

pub leave_answer : (l : Line) (i e : ℕ) (t : Bool) → t ≡ only_user l i e → None ≡ known_or l i e None → cond t (Some (Users e)) None ≡ leave_refused l i e
leave_answer l i e t h k = ap (λ b. cond b (Some (Users e)) None) h ∙ known l i e _ k

-- where the answer is a refusal all is as it was
pub refused_join : (i e : ℕ) (line : Over) (x : Refusal) → Some x ≡ join_refused (held line) i e → Joined i e line line (Err x)
refused_join i e line x h = record {
  refused = h;
  holds = refl;
  kept = record { size = refl; rest = refl; lender = refl };
  others = joining_raises_none_lem i (held line) (held line) (stays i (held line)) line.sound.used;
}

pub refused_leave : (i e : ℕ) (line : Over) (x : Refusal) → Some x ≡ leave_refused (held line) i e → Parted i e line line (Err x)
refused_leave i e line x h = record {
  refused = h;
  holds = refl;
  kept = record { size = refl; rest = refl; lender = refl };
  others = leaving_lowers_none_lem i (held line) (held line) (stays i (held line)) line.sound.used;
}

-- the line that the words hold
pub joined_is : (l : Line) (i e : ℕ) → marked l i e true ≡ joined l i e
joined_is l i e = same_uses l.farms l.parts _ _ (λ j f. sym (or_is (l.uses j f) (eqb j i && eqb f e)))

pub parted_is : (l : Line) (i e : ℕ) → marked l i e false ≡ parted l i e
parted_is l i e = same_uses l.farms l.parts _ _ (λ j f. sym (and_not_is (l.uses j f) (eqb j i && eqb f e)))

-- a part that somebody else uses stays used
module _ (l : Line) (i e : ℕ) (h : i < l.farms) where
  parted_users : users (parted l i e) e + one (l.uses i e) ≡ users l e
  unfolding users
  parted_users =
      omega (
        arith,
        sum_add l.farms (λ j. one (l.uses j e && not (eqb j i && eqb e e))) (λ j. one (eqb j i && l.uses j e)),
        sum_same l.farms _ (λ j. one (l.uses j e)) (λ j _. split (l.uses j e) (eqb j i) (eqb e e) (eq-eqb e e refl)),
        sum_at l.farms i (λ j. one (eqb j i && l.uses j e)) h (λ j _ n. ap (λ t. one (t && l.uses j e)) (ne_eqb j i n)),
        ap (λ t. one (t && l.uses i e)) (eq-eqb i i refl),
      )
    where
      split : (a s t : Bool) → t ≡ true → one (a && not (s && t)) + one (s && a) ≡ one a
      split true true t k = ap (λ y. one (not y) + 1) k
      split true false t k = refl
      split false true t k = refl
      split false false t k = refl

  others_stay : (f : ℕ) → f ≢ e → users (parted l i e) f ≡ users l f
  unfolding users
  others_stay f n = sum_same l.farms _ _ (λ j _. ap one (rest (l.uses j f) (eqb j i) (eqb f e) (ne_eqb f e n)))
    where
      rest : (a s t : Bool) → t ≡ false → (a && not (s && t)) ≡ a
      rest true true t k = ap not k
      rest true false t k = refl
      rest false s t k = refl

  pub parted_used : false ≡ only_user l i e → AllUsed l → AllUsed (parted l i e)
  parted_used other used f k =
      elim (cases_eq f e) [
        | inl p ↦ subst (λ x. 0 < users (parted l i e) x) (sym p) (left (l.uses i e) (users l e) _ (subst (λ x. 0 < users l x) p (used f k)) (sym other) parted_users)
        | inr q ↦ subst (λ x. 0 < x) (sym (others_stay f q)) (used f k)
      ]
    where
      left : (a : Bool) (n k : ℕ) → 0 < n → (a && eqb n 1) ≡ false → k + one a ≡ n → 0 < k
      left true n k p q s = grind (arith, nat_tests)
      left false n k p q s = omega arith

-- every part of the line that the words hold is used
pub used_after : (n m : ℕ) (l : Line) (after : List ℕ) → line_of 64 n m after ≡ l → l.parts ≡ m → AllUsed l → Used n m after
used_after n m l after is size used e k = subst (λ x. 0 < users x e) (sym is) (used e (subst (λ x. e < x) (sym size) k))
