-- Rows of words: a word that is written is the change of the state at one place.
use Rattle.std.proofs.Common.{◌≡◌, ℕ, ◌+◌, ◌<◌, ◌≤◌, ◌≢◌, false, cond, List, ◌++◌, length, take, replicate, set, pos, ◌+ℤ◌, ◌-ℤ◌, sym, refl, ap, ◌∙◌, subst, ap₂, inl, inr, add-zero, arith, w64, to_z}
use mathlib.Core.Path.{fun_ext}
use lib.ListN.{length-replicate}
use lib.IntN.{+ℤ_idr}
use Rattle.std.proofs.lemmas.List.{get_or_append_left, get_or-take, length-take-le, get_or-set_same, get_or-set_other, get_or-replicate}
use Rattle.std.proofs.lemmas.Bool.{cases_eq, cases_lt, lt-ltb, le-ltb}
use Rattle.number.specs.Sum.{sum, one}
use Rattle.number.specs.declared.cents.Cents.{Cents}
use Rattle.number.proofs.Sums.{sum_same}
use Rattle.line.specs.declared.names.Farm.{Farm}
use Rattle.line.specs.declared.names.Part.{Part}
use Rattle.line.specs.Line.{Line}
use Rattle.account.specs.Range.{account_at}
use Rattle.account.specs.declared.booking.Booking.TheVariants.{Cost, Payment, Closing}
use Rattle.share.specs.Answer.{at}
use Rattle.share.specs.Cost.{only, together}
use Rattle.share.specs.Weight.{once}
use Rattle.share.proofs.Building.{only_same, only_other}
use Rattle.cents.specs.Closing.{odds, charged}
use Rattle.cents.proofs.Closing.{odds_same, charged_same, odds_outside, charged_outside}
use Rattle.posting.specs.Posting.{closing_cents, booked}
use Rattle.posting.proofs.Order.{state_same}
use Rattle.ledger.specs.Held.{inside, state_of, cleared}

module _ {A : Type 0} (n : ℕ) (z : A) where
  -- below n, and from n on
  pub inside_below : (f : ℕ → A) (i : ℕ) → i < n → inside n z f i ≡ f i
  inside_below f i h = ap (λ b. cond b (f i) z) (lt-ltb i n h)

  pub inside_past : (f : ℕ → A) (i : ℕ) → n ≤ i → inside n z f i ≡ z
  inside_past f i h = ap (λ b. cond b (f i) z) (le-ltb i n h)

  pub inside_is : (f g : ℕ → A) → ((i : ℕ) → i < n → f i ≡ g i) → ((i : ℕ) → n ≤ i → z ≡ g i) → inside n z f ≡ g
  inside_is f g below past = fun_ext (λ i. elim (cases_lt i n) [ inl h ↦ inside_below f i h ∙ below i h | inr h ↦ inside_past f i h ∙ past i h ])

  pub inside_same : (f g : ℕ → A) → ((i : ℕ) → i < n → f i ≡ g i) → inside n z f ≡ inside n z g
  inside_same f g same = inside_is f (inside n z g) (λ i h. same i h ∙ sym (inside_below g i h)) (λ i h. sym (inside_past g i h))

-- what holds of the words of a row, each with its place, holds after one is written
pub set_keeps : (P : ℕ → ℕ → Type 0) (row : List ℕ) (i v : ℕ) → i < length row → P i v → ((k : ℕ) → i ≢ k → P k (at row k)) → (k : ℕ) → P k (at (set row i v) k)
set_keeps P row i v room new old k =
    elim (cases_eq i k) [
      | inl p ↦ subst (λ x. P x (at (set row i v) x)) p (subst (P i) (sym (get_or-set_same row i v 0 room)) new)
      | inr q ↦ subst (P k) (sym (get_or-set_other row i k v 0 (λ e. q (sym e)))) (old k q)
    ]

-- a word written at i, as a change of what is read at i by c
module _ {A : Type 0} (n : ℕ) (z : A) (read : ℕ → A) (add : A → ℕ → A) (none : (x : A) → add x 0 ≡ x) where
  pub inside_set : (row : List ℕ) (i v c : ℕ) → i < n → n ≤ length row → read v ≡ add (read (at row i)) c →
      inside n z (λ j. read (at (set row i v) j)) ≡ (λ j. add (inside n z (λ j. read (at row j)) j) (only i c j))
  inside_set row i v c k room e =
      inside_is n z _ _
      (set_keeps (λ j x. j < n → read x ≡ add (inside n z (λ j. read (at row j)) j) (only i c j)) row i v (omega arith)
      (λ h. rw (only_same i c, inside_below n z (λ j. read (at row j)) i k) e)
      (λ j q h. rw (only_other i c j q, none (inside n z (λ j. read (at row j)) j), inside_below n z (λ j. read (at row j)) j h) refl))
      past
    where
      past : (j : ℕ) → n ≤ j → z ≡ add (inside n z (λ j. read (at row j)) j) (only i c j)
      past j h = sym (ap (add _) (only_other i c j (λ p. omega arith)) ∙ none _ ∙ inside_past n z (λ j. read (at row j)) j h)

module _ (l : Line) (accounts odd costs : List ℕ) where
  pub cost_rows : (p : Part) (c : Cents) (w : ℕ) → p.0 < l.parts → l.parts ≤ length costs → l.farms < length accounts →
      to_z w64 w ≡ account_at accounts l.farms -ℤ pos c.0 →
      state_of l (set accounts l.farms w) odd (set costs p.0 (at costs p.0 + c.0)) ≡ booked (state_of l accounts odd costs) (Cost p c)
  unfolding booked together
  cost_rows p c w e room enough is =
      state_same _ _ refl
      (inside_same l.farms (pos 0) _ _ (λ i h. ap (to_z w64) (get_or-set_other accounts l.farms i w 0 (λ q. omega arith))))
      (ap (to_z w64) (get_or-set_same accounts l.farms w 0 enough) ∙ is)
      (inside_set l.parts 0 (λ x. x) ◌+◌ add-zero costs p.0 _ c.0 e room refl)
      refl

  pub payment_rows : (f : Farm) (c : Cents) (w : ℕ) → f.0 < l.farms → l.farms < length accounts →
      to_z w64 w ≡ (state_of l accounts odd costs).accounts f.0 +ℤ pos c.0 →
      state_of l (set accounts f.0 w) odd costs ≡ booked (state_of l accounts odd costs) (Payment f c)
  unfolding booked
  payment_rows f c w i enough is =
      state_same _ _ refl
      (inside_set l.farms (pos 0) (to_z w64) (λ z n. z +ℤ pos n) +ℤ_idr accounts f.0 w c.0 i (omega arith) (is ∙ ap (λ z. z +ℤ pos c.0) (inside_below l.farms (pos 0) (account_at accounts) f.0 i)))
      (ap (to_z w64) (get_or-set_other accounts f.0 l.farms w 0 (λ q. omega arith)))
      refl
      refl

  -- what a closing is in rows: only the farms use parts, so that past them nothing is paid
  module _ (none : (i e : ℕ) → l.farms ≤ i → l.uses i e ≡ false) where
    abbrev charge : ℕ → ℕ
    charge i = charged l (once l) (at costs) (at odd) i l.parts

    outside : (i e : ℕ) → l.farms ≤ i → once l i e ≡ 0
    outside i e h = ap one (none i e h)

    pub same_cents : (i : ℕ) → i < l.farms → charge i ≡ closing_cents (state_of l accounts odd costs) i
    same_cents =
        charged_same l (once l) (at costs) _ (at odd) _ l.parts (λ e h. sym (inside_below l.parts 0 (at costs) e h)) (λ i h. sym (inside_below l.farms 0 (at odd) i h)) l.parts
        (omega arith)

    pub closing_rows : (accounts' odd' : List ℕ) →
        ((i : ℕ) → i < l.farms → account_at accounts' i ≡ account_at accounts i -ℤ pos (charge i)) →
        account_at accounts' l.farms ≡ account_at accounts l.farms +ℤ pos (sum l.farms charge) →
        ((i : ℕ) → i < l.farms → at odd' i ≡ odds l (once l) (at costs) (at odd) l.parts i) →
        cleared (state_of l accounts' odd' costs) ≡ booked (state_of l accounts odd costs) Closing
    unfolding booked
    closing_rows accounts' odd' paid pooled counts =
        let s = state_of l accounts odd costs in
        state_same _ _ refl
        (inside_is l.farms (pos 0) (account_at accounts') (λ i. s.accounts i -ℤ pos (closing_cents s i))
        (λ i h. paid i h ∙ ap₂ (λ z n. z -ℤ pos n) (sym (inside_below l.farms (pos 0) (account_at accounts) i h)) (same_cents i h))
        (λ i h. sym (ap₂ (λ z n. z -ℤ pos n) (inside_past l.farms (pos 0) (account_at accounts) i h) (charged_outside l (once l) s.costs s.odd i (λ e. outside i e h) l.parts))))
        (pooled ∙ ap (λ n. account_at accounts l.farms +ℤ pos n) (sum_same l.farms _ _ same_cents))
        refl
        (inside_is l.farms 0 (at odd') (odds l (once l) s.costs s.odd l.parts)
        (λ i h.
        counts i h
        ∙ odds_same l (once l) (at costs) s.costs (at odd) s.odd l.parts (λ e k. sym (inside_below l.parts 0 (at costs) e k)) (λ j k. sym (inside_below l.farms 0 (at odd) j k)) l.parts (omega arith) i h)
        (λ i h. sym (odds_outside l (once l) s.costs s.odd i (λ e. outside i e h) l.parts ∙ inside_past l.farms 0 (at odd) i h)))

-- rows that agree below the farms and the parts hold the same state
pub rows_same : (l : Line) (accounts accounts' odd odd' costs costs' : List ℕ) →
    ((i : ℕ) → i ≤ l.farms → at accounts i ≡ at accounts' i) → ((i : ℕ) → i < l.farms → at odd i ≡ at odd' i) → ((e : ℕ) → e < l.parts → at costs e ≡ at costs' e) →
    state_of l accounts odd costs ≡ state_of l accounts' odd' costs'
rows_same l accounts accounts' odd odd' costs costs' a o c =
    state_same _ _ refl (inside_same l.farms (pos 0) _ _ (λ i h. ap (to_z w64) (a i (omega arith)))) (ap (to_z w64) (a l.farms (omega arith))) (inside_same l.parts 0 _ _ c) (inside_same l.farms 0 _ _ o)

-- rows that agree with others below the farms, and have no costs
pub cleared_rows : (l : Line) (accounts accounts' odd odd' costs costs' : List ℕ) →
    ((i : ℕ) → i ≤ l.farms → at accounts' i ≡ at accounts i) → ((i : ℕ) → i < l.farms → at odd' i ≡ at odd i) → ((e : ℕ) → e < l.parts → at costs' e ≡ 0) →
    state_of l accounts' odd' costs' ≡ cleared (state_of l accounts odd costs)
cleared_rows l accounts accounts' odd odd' costs costs' a o c =
    rows_same l accounts' accounts odd' odd costs' costs' a o (λ _ _. refl) ∙ state_same _ _ refl refl refl (inside_is l.parts 0 (at costs') (λ _. 0) c (λ _ _. refl)) refl

-- what is copied to the front of a row
pub front : (n : ℕ) (new from rest : List ℕ) → new ≡ take n from → n ≤ length from → (i : ℕ) → i < n → at (new ++ rest) i ≡ at from i
front n new from rest is room i h =
    get_or_append_left new rest 0 i (omega (arith, ap length is, length-take-le n from room)) ∙ ap (λ xs. at xs i) is ∙ get_or-take n from i 0 h

-- what is filled with zeros
pub filled_zero : (n : ℕ) (new rest : List ℕ) → new ≡ replicate n 0 → (i : ℕ) → i < n → at (new ++ rest) i ≡ 0
filled_zero n new rest is i h =
    get_or_append_left new rest 0 i (omega (arith, ap length is, length-replicate {A = ℕ} n 0)) ∙ ap (λ xs. at xs i) is ∙ get_or-replicate n i 0 0 h
