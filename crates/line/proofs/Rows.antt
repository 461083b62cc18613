-- Rows of bits, over any width of digits.
use Rattle.std.proofs.Common.{◌≡◌, ℕ, ◌+◌, ◌-◌, ◌*◌, ◌/◌, ◌%◌, ◌^◌, ◌<◌, ◌≤◌, Bool, true, false, ◌&&◌, ltb, ◌≢◌, List, ◌++◌, length, get_or, take, drop, set, sym, refl, ap, ◌∙◌, subst, ap₂, ⊎_elim, mul-le-mul_right, mul_comm, zero-add, arith}
use mathlib.Core.Path.{fun_ext}
use borrow.Rule.Slice.PartMut.{put_mid, post_of}
use Rattle.std.proofs.lemmas.Nat.{div-add-mod', mod_below, div_below, le-div, div-mul-add, mod-mul-add, mul-add-lt}
use Rattle.std.proofs.lemmas.List.FromFn.{length-map-range_with_len, get_or-map-range_with_len}
use Rattle.std.proofs.lemmas.List.{ext_get_or, length-take, length-take-le, length-drop, get_or-take, get_or-drop, get_or_past, get_or_append_left, get_or-set_same, get_or-set_other, drop-take, drop-drop, take_at, drop_at}
use Rattle.std.proofs.lemmas.Slice.{take-put_mid_below, drop-put_mid}
use Rattle.std.proofs.lemmas.Bool.{cases_lt, lt-ltb, le-ltb, ltb-true}
use Rattle.number.proofs.Firsts.{each_fails}
use Rattle.line.specs.Line.{Line}
use Rattle.line.specs.Rows.{has, in_row, across, row, stray, line_of, digit, rows, SameRows}
use Rattle.line.proofs.Digits.{has_none, has_digit, from_bits}

-- a row of n bits fits its digits
pub across_holds : (w n : ℕ) → 0 < w → n ≤ w * across w n
across_holds w n h = omega (arith, div-add-mod' (n + (w - 1)) w, mod_below (n + (w - 1)) w h)

-- bit i stands in one of a row's digits
pub across_in : (w n i : ℕ) → 0 < w → i < w * across w n → i / w < across w n
across_in w n i h l = div_below i w (across w n) h (omega arith)

-- digit k of part e's row
pub row_at : (a : ℕ) (xs : List ℕ) (e k : ℕ) → k < a → get_or (row a xs e) k 0 ≡ get_or xs (e * a + k) 0
row_at a xs e k h = get_or-take a (drop (e * a) xs) k 0 h ∙ get_or-drop (e * a) xs k 0

-- a row has no more digits than it takes
pub row_most : (a : ℕ) (xs : List ℕ) (e : ℕ) → length (row a xs e) ≤ a
row_most a xs e = omega (arith, length-take a (drop (e * a) xs))

-- past its digits a row has no bit
pub in_row_past : (w : ℕ) (r : List ℕ) (i : ℕ) → 0 < w → w * length r ≤ i → in_row w r i ≡ false
in_row_past w r i h l = ap (λ x. has x (i % w)) (get_or_past r (i / w) 0 (le-div (length r) i w h (omega arith))) ∙ has_none (i % w)

-- where no stray bit stands, no bit stands from n on
pub clear_row : (w n : ℕ) (r : List ℕ) (i : ℕ) → 0 < w → length r ≤ across w n → stray w n r ≡ false → n ≤ i → in_row w r i ≡ false
clear_row w n r i h short clear l =
    ⊎_elim
    (λ (inside : i < w * across w n).
    let back : n + (i - n) ≡ i = omega arith in
    ap (in_row w r) (sym back) ∙ each_fails _ _ clear (i - n) (omega arith))
    (λ (past : w * across w n ≤ i). in_row_past w r i h (omega (arith, mul-le-mul_right w short)))
    (cases_lt i (w * across w n))

-- tests that stand before a bit
pub guarded : (a b x : Bool) → a ≡ true → b ≡ true → x ≡ (a && (b && x))
guarded a b x p q = cc

shut : (a b x : Bool) → a ≡ false → x ≡ false → x ≡ (a && b)
shut a b x p q = cc

under : (a b x y : Bool) → (a ≡ true → b ≡ true → x ≡ y) → (a && (b && x)) ≡ (a && (b && y))
under true true x y h = h refl refl
under true false x y h = refl
under false b x y h = refl

-- the bits of a row without stray bits say who uses the part
pub uses_is : (w n m : ℕ) (xs : List ℕ) (i e : ℕ) → 0 < w → e < m → stray w n (row (across w n) xs e) ≡ false → in_row w (row (across w n) xs e) i ≡ (line_of w n m xs).uses i e
uses_is w n m xs i e h k clear =
    ⊎_elim
    (λ (l : i < n). guarded (ltb i n) (ltb e m) _ (lt-ltb i n l) (lt-ltb e m k))
    (λ (l : n ≤ i). shut (ltb i n) _ _ (le-ltb i n l) (clear_row w n _ i h (row_most (across w n) xs e) clear l))
    (cases_lt i n)

-- the same rows are the same line
pub same_line : (w v n m : ℕ) (xs ys : List ℕ) → 0 < w → SameRows w (across w n) v (across v n) m xs ys → line_of w n m xs ≡ line_of v n m ys
same_line w v n m xs ys h same =
    ap {A = ℕ → ℕ → Bool} (λ u. record { farms = n; parts = m; uses = u })
    (fun_ext (λ i. fun_ext (λ e. under (ltb i n) (ltb e m) _ _ (λ p q. same i e (ltb-true e m q) (omega (arith, ltb-true i n p, across_holds w n h))))))

-- how many digits all rows take
pub rows_length : (w : ℕ) (l : Line) → length (rows w l) ≡ l.parts * across w l.farms
unfolding rows
rows_length w l = length-map-range_with_len _ 0 (l.parts * across w l.farms)

-- where a digit stands
place : (a e k m : ℕ) → e < m → k < a → e * a + k < m * a
place a e k m h l = omega (arith, mul-add-lt e a k m h l)

-- each digit of all rows
pub rows_at : (w : ℕ) (l : Line) (e k : ℕ) → e < l.parts → k < across w l.farms → get_or (rows w l) (e * across w l.farms + k) 0 ≡ digit w l e k
unfolding rows
rows_at w l e k h g =
    let a = across w l.farms in
    get_or-map-range_with_len (λ j. digit w l (j / a) (j % a)) 0 (l.parts * a) (e * a + k) (e * a + k) 0 (place a e k l.parts h g) (zero-add (e * a + k))
    ∙ ap₂ (digit w l) (div-mul-add e a k g) (mod-mul-add e a k g)

-- the rows of a line hold it
pub rows_hold : (w : ℕ) (l : Line) (t : List ℕ) (i e : ℕ) → 0 < w → e < l.parts → i < w * across w l.farms →
    in_row w (row (across w l.farms) (rows w l ++ t) e) i ≡ l.uses i e
unfolding digit
rows_hold w l t i e h k g =
    let a = across w l.farms in
    let inside = across_in w l.farms i h g in
    let back : w * (i / w) + i % w ≡ i = omega (arith, div-add-mod' i w) in
    ap (λ x. has x (i % w))
    (row_at a (rows w l ++ t) e (i / w) inside
    ∙ get_or_append_left (rows w l) t 0 (e * a + i / w) (omega (arith, rows_length w l, place a e (i / w) l.parts k inside))
    ∙ rows_at w l e (i / w) k inside)
    ∙ has_digit w (λ j. l.uses (w * (i / w) + j) e) (i % w) (mod_below i w h)
    ∙ ap (λ x. l.uses x e) back

-- digits of w bits whose bits say who uses which part are the line's rows
pub rows_are : (w : ℕ) (l : Line) (xs : List ℕ) → 0 < w → ((k : ℕ) → get_or xs k 0 < 2 ^ w) → l.parts * across w l.farms ≤ length xs →
    ((i e : ℕ) → e < l.parts → i < w * across w l.farms → in_row w (row (across w l.farms) xs e) i ≡ l.uses i e) →
    take (l.parts * across w l.farms) xs ≡ rows w l
unfolding digit
rows_are w l xs h fits room same =
    let a = across w l.farms in
    let len = length-take-le (l.parts * a) xs room in
    ext_get_or 0 _ _ (len ∙ sym (rows_length w l)) (λ j g.
    let lt : j < l.parts * a = omega (arith, len) in
    get_or-take (l.parts * a) xs j 0 lt ∙ at j lt (⊎_elim (λ p. p) (λ (z : a ≤ 0). absurd (let y : l.parts * a ≡ 0 = ap (λ x. l.parts * x) (let u : a ≡ 0 = omega arith in u) ∙ omega arith in omega arith)) (cases_lt 0 a)))
  where
    at : (j : ℕ) → j < l.parts * across w l.farms → 0 < across w l.farms → get_or xs j 0 ≡ get_or (rows w l) j 0
    at j lt pos =
        let a = across w l.farms in
        let e = j / a in
        let k = j % a in
        let back : e * a + k ≡ j = div-add-mod' j a in
        let kin = mod_below j a pos in
        let ein = div_below j a l.parts pos lt in
        from_bits w (get_or xs j 0) (λ i. l.uses (w * k + i) e) (fits j)
        (λ i g.
        let q : (w * k + i) / w ≡ k = ap (λ x. (x + i) / w) (mul_comm w k) ∙ div-mul-add k w i g in
        let r : (w * k + i) % w ≡ i = ap (λ x. (x + i) % w) (mul_comm w k) ∙ mod-mul-add k w i g in
        ap (λ x. has (get_or xs x 0) i) (sym back) ∙ ap (λ x. has x i) (sym (row_at a xs e k kin))
        ∙ ap₂ (λ x y. has (get_or (row a xs e) x 0) y) (sym q) (sym r)
        ∙ same (w * k + i) e ein (omega (arith, mul-le-mul_right w kin)))
        ∙ sym (rows_at w l e k ein kin) ∙ ap (λ x. get_or (rows w l) x 0) back

-- a part's row lies within what holds all rows
pub row_room : (e m a len : ℕ) → e < m → m * a ≤ len → e * a + a ≤ len
row_room e m a len h g = omega (arith, mul-le-mul_right a h)

-- after a write of r to `xs[e * a..e * a + a]`: row e, the rows before it, and what comes after it
module _ {X : Type 0} (a e k : ℕ) (xs r : List X) (room : e * a + a ≤ length xs) (all : k ≡ a) (len : length r ≡ a) where
  pub row_put : row a (put_mid (e * a) k xs r) e ≡ r
  row_put = ap (take a) (drop_at (take (e * a) xs) (r ++ post_of (e * a) k xs) (e * a) (length-take-le (e * a) xs (omega arith))) ∙ take_at r (post_of (e * a) k xs) a len

  pub row_kept : (d : ℕ) → d < e → row a (put_mid (e * a) k xs r) d ≡ row a xs d
  row_kept d l =
      sym (drop-take (d * a) a _)
      ∙ ap (drop (d * a)) (take-put_mid_below (e * a) k xs r (d * a + a) (omega (arith, mul-le-mul_right a l)) (omega arith))
      ∙ drop-take (d * a) a xs

  pub rest_kept : (before : List X) → drop (e * a) xs ≡ drop (e * a) before → drop ((e + 1) * a) (put_mid (e * a) k xs r) ≡ drop ((e + 1) * a) before
  rest_kept before so =
      let next : e * a + a ≡ (e + 1) * a = omega arith in
      drop-put_mid (e * a) k xs r ((e + 1) * a) (omega arith) (omega arith) (omega arith)
      ∙ ap (λ x. drop x xs) (sym next) ∙ sym (drop-drop a (e * a) xs) ∙ ap (drop a) so ∙ drop-drop a (e * a) before ∙ ap (λ x. drop x before) next

-- it has all its digits
pub row_whole : (e m a : ℕ) (xs : List ℕ) → e < m → m * a ≤ length xs → length (row a xs e) ≡ a
row_whole e m a xs h g = length-take-le a (drop (e * a) xs) (omega (arith, length-drop (e * a) xs, row_room e m a (length xs) h g))

-- a row z of xs that holds what a row x of ys holds
pub row_copied : (w a c v b d e m : ℕ) (xs ys x z : List ℕ) → e < m → m * c ≤ length xs → a ≡ c → b ≡ d → x ≡ row b ys e → z ≡ row a xs e → ((i : ℕ) → i < w * length z → in_row w z i ≡ in_row v x i) →
    (i : ℕ) → i < w * c → in_row w (row c xs e) i ≡ in_row v (row d ys e) i
row_copied w a c v b d e m xs ys x z h room p q from to same i l =
    let here : z ≡ row c xs e = to ∙ ap (λ n. row n xs e) p in
    let there : x ≡ row d ys e = from ∙ ap (λ n. row n ys e) q in
    ap (λ r. in_row w r i) (sym here) ∙ same i (subst (λ n. i < w * n) (sym (ap length here ∙ row_whole e m c xs h room)) l) ∙ ap (λ r. in_row v r i) there

-- a row of digits, written one after the other
pub digit_more : (w : ℕ) (xs : List ℕ) (k v : ℕ) (f : ℕ → Bool) → 0 < w → k < length xs → ((j : ℕ) → j < w → has v j ≡ f (w * k + j)) →
    ((i : ℕ) → i < w * k → in_row w xs i ≡ f i) → (i : ℕ) → i < w * (k + 1) → in_row w (set xs k v) i ≡ f i
digit_more w xs k v f p h here before i l =
    ⊎_elim
    (λ (g : i < w * k).
    let ne : i / w ≢ k = (λ e. omega (arith, div_below i w k p (omega arith))) in
    ap (λ x. has x (i % w)) (get_or-set_other xs k (i / w) v 0 ne) ∙ before i g)
    (λ (g : w * k ≤ i).
    let t = i - w * k in
    let small : t < w = omega arith in
    let back : k * w + t ≡ i = omega arith in
    let q : i / w ≡ k = ap (λ x. x / w) (sym back) ∙ div-mul-add k w t small in
    let r : i % w ≡ t = ap (λ x. x % w) (sym back) ∙ mod-mul-add k w t small in
    ap₂ (λ x y. has (get_or (set xs k v) x 0) y) q r ∙ ap (λ x. has x t) (get_or-set_same xs k v 0 h) ∙ here t small
    ∙ ap f (let e : w * k + t ≡ i = omega arith in e))
    (cases_lt i (w * k))
