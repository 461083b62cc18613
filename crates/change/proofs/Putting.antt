-- One bit of one row of a line's words, changed: what the words hold then.
use Rattle.std.proofs.Common.{◌≡◌, ℕ, ◌+◌, ◌-◌, ◌*◌, ◌<◌, ◌≤◌, Bool, true, false, cond, ◌&&◌, eqb, ltb, ◌≢◌, List, ◌++◌, length, take, drop, sym, refl, ap, ◌∙◌, subst, ap₂, inl, inr, ⊎_elim, mul-le-mul_right, arith}
use borrow.Rule.Slice.PartMut.{put_mid, post_of}
use Rattle.std.proofs.lemmas.List.{length-take-le, length-drop, length-append, drop-take, take_at, drop_at}
use Rattle.std.proofs.lemmas.Slice.{take-put_mid_below, drop-put_mid}
use Rattle.std.proofs.lemmas.Bool.{cases_eq, cases_lt, and_parts, eqb-true, eq-eqb, ne_eqb, lt-ltb}
use Rattle.number.proofs.Firsts.{none_from, each_fails}
use Rattle.line.specs.Rows.{in_row, across, row, line_of, word_length}
use Rattle.line.specs.Sound.{Room, Clear}
use Rattle.line.proofs.Rows.{row_room, row_whole}
use Rattle.change.specs.Answer.{WithBit}
use Rattle.change.specs.Change.{marked}
use Rattle.change.proofs.Growth.{same_uses}

-- xs where r is written as row e
abbrev put : (a e : ℕ) → (xs r : List ℕ) → List ℕ
put a e xs r = put_mid (e * a) (e * a + a - e * a) xs r

module _ (a e : ℕ) (xs r : List ℕ) (len : length r ≡ a) (room : e * a + a ≤ length xs) where
  put_here : row a (put a e xs r) e ≡ r
  put_here =
      ap (take a) (drop_at (take (e * a) xs) (r ++ post_of (e * a) (e * a + a - e * a) xs) (e * a) (length-take-le (e * a) xs (omega arith)))
      ∙ take_at r (post_of (e * a) (e * a + a - e * a) xs) a len

  put_after : (k : ℕ) → e * a + a ≤ k → drop k (put a e xs r) ≡ drop k xs
  put_after k h = drop-put_mid (e * a) (e * a + a - e * a) xs r k (omega arith) (omega arith) (omega arith)

  put_other : (d : ℕ) → d ≢ e → row a (put a e xs r) d ≡ row a xs d
  put_other d n =
      ⊎_elim
      (λ (l : d < e).
      sym (drop-take (d * a) a (put a e xs r))
      ∙ ap (drop (d * a)) (take-put_mid_below (e * a) (e * a + a - e * a) xs r (d * a + a) (omega (arith, mul-le-mul_right a l)) (omega arith))
      ∙ drop-take (d * a) a xs)
      (λ (l : e ≤ d). let g : e < d = omega (arith, n) in ap (take a) (put_after (d * a) (omega (arith, mul-le-mul_right a g))))
      (cases_lt d e)

  put_length : length (put a e xs r) ≡ length xs
  put_length =
      let p = length-take-le (e * a) xs (omega arith) in
      let q = length-drop (e * a) xs in
      omega (arith, length-append (take (e * a) xs) (r ++ post_of (e * a) (e * a + a - e * a) xs), length-append r (post_of (e * a) (e * a + a - e * a) xs), length-drop (e * a + a - e * a) (drop (e * a) xs))

  -- one bit of the row
  put_bit : (i : ℕ) (x : Bool) → WithBit (row a xs e) r i x → (j f : ℕ) → in_row 64 (row a (put a e xs r) f) j ≡ cond (eqb j i && eqb f e) x (in_row 64 (row a xs f) j)
  put_bit i x bit j f =
      elim (cases_eq f e) [
        | inl p ↦
            ap (λ y. in_row 64 (row a (put a e xs r) y) j) p ∙ ap (λ y. in_row 64 y j) put_here ∙ bit j
            ∙ ap₂ (λ t y. cond t x (in_row 64 (row a xs y) j)) (sym (and_true (eqb j i) _ (eq-eqb f e p))) (sym p)
        | inr q ↦ ap (λ y. in_row 64 y j) (put_other f q) ∙ ap (λ t. cond t x (in_row 64 (row a xs f) j)) (sym (and_none (eqb j i) _ (ne_eqb f e q)))
      ]
    where
      and_true : (s t : Bool) → t ≡ true → (s && t) ≡ s
      and_true true t h = h
      and_true false t h = refl

      and_none : (s t : Bool) → t ≡ false → (s && t) ≡ false
      and_none true t h = h
      and_none false t h = refl

-- what the words hold after
pub record Marked (n m i e : ℕ) (x : Bool) (before after : List ℕ) : Type 0 where
  pub room : Room n m after
  pub clear : Clear n m after
  pub line : line_of 64 n m after ≡ marked (line_of 64 n m before) i e x
  pub rest : drop (word_length n m) after ≡ drop (word_length n m) before

guarded : (p q y y' x t : Bool) → y' ≡ cond t x y → (t ≡ true → (p ≡ true) × (q ≡ true)) → (p && (q && y')) ≡ cond t x (p && (q && y))
guarded p q y y' x true h k = ap₂ (λ s z. s && (z && y')) (k refl).0 (k refl).1 ∙ h
guarded p q y y' x false h k = ap (λ z. p && (q && z)) h

-- the row of part e, lent on and written, of a words that a row takes
module _ (n m i e : ℕ) (x : Bool) (xs r : List ℕ) (known : i < n) (part : e < m) (room : Room n m xs) (clear : Clear n m xs) where
  mark_row : length r ≡ across 64 n → WithBit (row (across 64 n) xs e) r i x → Marked n m i e x xs (put (across 64 n) e xs r)
  mark_row len bit =
      let a = across 64 n in
      let here = row_room e m a (length xs) part room in
      let bits = put_bit a e xs r len here i x bit in
      record {
        room = subst (λ k. word_length n m ≤ k) (sym (put_length a e xs r len here)) room;
        clear = λ f h. none_from _ _ (λ k l. bits (n + k) f ∙ ap (λ t. cond (t && eqb f e) x (in_row 64 (row a xs f) (n + k))) (ne_eqb (n + k) i (λ p. omega arith)) ∙ each_fails _ _ (clear f h) k l);
        line = same_uses n m _ _ (λ j f. guarded (ltb j n) (ltb f m) _ _ x (eqb j i && eqb f e) (bits j f) (inside j f));
        rest = put_after a e xs r len here (m * a) (omega (arith, mul-le-mul_right a part));
      }
    where
      inside : (j f : ℕ) → (eqb j i && eqb f e) ≡ true → (ltb j n ≡ true) × (ltb f m ≡ true)
      inside j f t =
          let p = and_parts (eqb j i) (eqb f e) t in
          (lt-ltb j n (omega (arith, eqb-true j i p.0)), lt-ltb f m (omega (arith, eqb-true f e p.1)))

  pub put_mark : (a : ℕ) → a ≡ across 64 n → length r ≡ length (take (e * a + a - e * a) (drop (e * a) xs)) → WithBit (take (e * a + a - e * a) (drop (e * a) xs)) r i x →
      Marked n m i e x xs (put_mid (e * a) (e * a + a - e * a) xs r)
  put_mark a width =
      subst (λ a. length r ≡ length (take (e * a + a - e * a) (drop (e * a) xs)) → WithBit (take (e * a + a - e * a) (drop (e * a) xs)) r i x → Marked n m i e x xs (put a e xs r)) (sym width)
      (λ kept bit.
      let a = across 64 n in
      let all : e * a + a - e * a ≡ a = omega arith in
      mark_row (kept ∙ ap (λ k. length (take k (drop (e * a) xs))) all ∙ row_whole e m a xs part room) (subst (λ k. WithBit (take k (drop (e * a) xs)) r i x) all bit))
