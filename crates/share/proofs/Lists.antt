-- A farm's share part by part.
use Rattle.std.proofs.Common.{◌≡◌, ℕ, zero, suc, ◌+◌, ◌<◌, ◌≤◌, Bool, true, false, cond, ◌&&◌, ltb, List, [], ◌∷◌, ◌++◌, length, take, drop, set, sym, refl, ap, ap₂, ◌∙◌, add-one, arith}
use Rattle.std.proofs.lemmas.List.{append-nil, take_more_set, length_push, drop-set-lt, drop-drop}
use Rattle.std.proofs.lemmas.Bool.{ltb-false, lt-ltb}
use Rattle.number.specs.Fraction.{Fraction, over, ◌≈◌, ◌⊕◌, sumF}
use Rattle.number.proofs.Fractions.{same_refl, same_sym, ◌then◌, add_same, add_comm, add_assoc, nothing_add, over_same, over_none}
use Rattle.line.specs.Line.{Line, users}
use Rattle.share.specs.declared.form.PartShare.{PartShare}
use Rattle.share.specs.Answer.{at}
use Rattle.share.specs.Cost.{Costs}
use Rattle.share.specs.Listed.{part_of, listed, comes_to}

-- one part more, where it is listed and where not
pub listed_more : (l : Line) (c : Costs) (i e : ℕ) → (l.uses i e && ltb 0 (c e)) ≡ true → listed l c i (e + 1) ≡ listed l c i e ++ part_of l c e ∷ []
unfolding listed
listed_more l c i e h = ap (listed l c i) (add-one e) ∙ ap (λ b. listed l c i e ++ cond b (part_of l c e ∷ []) []) h

pub listed_same : (l : Line) (c : Costs) (i e : ℕ) → (l.uses i e && ltb 0 (c e)) ≡ false → listed l c i (e + 1) ≡ listed l c i e
unfolding listed
listed_same l c i e h = ap (listed l c i) (add-one e) ∙ ap (λ b. listed l c i e ++ cond b (part_of l c e ∷ []) []) h ∙ append-nil (listed l c i e)

-- k rows are written, those of the first e parts, and the others are as they were
pub record Written (l : Line) (costs : List ℕ) (i : ℕ) (before rows : List PartShare) (k e : ℕ) : Type 0 where
  pub front : take k rows ≡ listed l (at costs) i e
  pub count : k ≡ length (listed l (at costs) i e)
  pub most : k ≤ e
  pub rest : drop k rows ≡ drop k before

pub written_none : (l : Line) (costs : List ℕ) (i : ℕ) (rows : List PartShare) → Written l costs i rows rows 0 0
unfolding listed
written_none l costs i rows = record { front = refl; count = refl; most = omega arith; rest = refl }

-- one row more, of a part that costs x and has u users
pub written_more : (l : Line) (costs : List ℕ) (i : ℕ) (before rows : List PartShare) (k e x u : ℕ) → k < length rows → l.uses i e ≡ true → 0 < x → x ≡ at costs e → u ≡ users l e →
    Written l costs i before rows k e → Written l costs i before (set rows k (record { part = record { 0 = e }; cost = record { 0 = x }; users = u })) (k + 1) (e + 1)
written_more l costs i before rows k e x u h uses some cost many w =
    let p : ℕ → ℕ → PartShare = λ x u. record { part = record { 0 = e }; cost = record { 0 = x }; users = u } in
    let more = listed_more l (at costs) i e (rw (uses, lt-ltb 0 (at costs e) (omega arith)) refl) in
    record {
      front = take_more_set rows k (p x u) h ∙ ap₂ (λ xs q. xs ++ q ∷ []) w.front (ap₂ p cost many) ∙ sym more;
      count = omega (arith, w.count, ap length more, length_push (listed l (at costs) i e) (part_of l (at costs) e));
      most = omega (arith, w.most);
      rest = drop-set-lt (k + 1) rows k (p x u) (omega arith) ∙ sym (drop-drop 1 k rows) ∙ ap (drop 1) w.rest ∙ drop-drop 1 k before;
    }

-- none more
pub written_same : (l : Line) (costs : List ℕ) (i : ℕ) (before rows : List PartShare) (k e : ℕ) → (l.uses i e && ltb 0 (at costs e)) ≡ false → Written l costs i before rows k e → Written l costs i before rows k (e + 1)
written_same l costs i before rows k e free w =
    let same = listed_same l (at costs) i e free in
    record { front = w.front ∙ sym same; count = w.count ∙ ap length (sym same); most = omega (arith, w.most); rest = w.rest }

-- a part is not listed that the farm doesn't use, nor one that costs nothing
pub unused_free : (u b : Bool) → u ≡ false → (u && b) ≡ false
unused_free u b h = rw h refl

pub costs_free : (u : Bool) (x : ℕ) → x ≡ 0 → (u && ltb 0 x) ≡ false
costs_free true x h = rw h refl
costs_free false x h = refl

-- what is listed comes to the sum of its parts
total_push : (ps : List PartShare) (p : PartShare) → comes_to (ps ++ p ∷ []) ≈ over p.cost.0 p.users ⊕ comes_to ps
unfolding comes_to
total_push [] p = same_refl
total_push (q ∷ ps) p =
    add_same same_refl (total_push ps p) then same_sym (add_assoc (over q.cost.0 q.users) (over p.cost.0 p.users) (comes_to ps))
    then add_same (add_comm (over q.cost.0 q.users) (over p.cost.0 p.users)) same_refl then add_assoc (over p.cost.0 p.users) (over q.cost.0 q.users) (comes_to ps)

unlisted : (l : Line) (c : Costs) (i e : ℕ) (x : Fraction) → comes_to (listed l c i e) ≈ x → comes_to (listed l c i e ++ []) ≈ over 0 1 ⊕ x
unlisted l c i e x so = rw append-nil (so then same_sym (nothing_add x))

-- one part more, listed or not
total_more : (l : Line) (c : Costs) (i e : ℕ) (x : Fraction) (u b : Bool) → ltb 0 (c e) ≡ b → comes_to (listed l c i e) ≈ x →
    comes_to (listed l c i e ++ cond (u && b) (part_of l c e ∷ []) []) ≈ cond u (over (c e) (users l e)) (over 0 1) ⊕ x
total_more l c i e x true true h so = total_push (listed l c i e) (part_of l c e) then add_same same_refl so
total_more l c i e x true false h so =
    let free : c e ≡ 0 = omega (arith, ltb-false 0 (c e) h) in
    unlisted l c i e x so then add_same (same_sym (over_same (c e) 0 (users l e) free then over_none (users l e))) same_refl
total_more l c i e x false b h so = unlisted l c i e x so

-- what a farm's listed parts come to is its share
pub total_listed : (l : Line) (c : Costs) (i k : ℕ) → comes_to (listed l c i k) ≈ sumF k (λ e. cond (l.uses i e) (over (c e) (users l e)) (over 0 1))
unfolding listed comes_to sumF
total_listed l c i zero = same_refl
total_listed l c i (suc e) = total_more l c i e _ (l.uses i e) (ltb 0 (c e)) refl (total_listed l c i e)
