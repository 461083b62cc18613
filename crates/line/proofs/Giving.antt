-- What holds of the bytes that a line is written to.
use Rattle.std.proofs.Common.{◌≡◌, ℕ, ◌+◌, ◌*◌, ◌/◌, ◌%◌, ◌<◌, ◌≤◌, false, not, ◌||◌, ltb, List, [], ◌∷◌, ◌++◌, length, get_or, take, drop, Ok, Err, sym, ap, ◌∙◌, subst, ap₂, ⊎_elim, arith}
use borrow.Rule.Slice.PartMut.{put_mid, post_of}
use Rattle.std.proofs.lemmas.List.{append-nil, drop_all, length-take-le, get_or_append_left, get_or-append_right, get_or_past}
use Rattle.std.proofs.lemmas.Bool.{cases_lt, le-ltb, lt-ltb}
use Rattle.number.proofs.Firsts.{none_from}
use Rattle.line.specs.declared.refusal.Lent.TheVariants.{Line as TheLine}
use Rattle.line.specs.declared.refusal.Refusal.TheVariants.{Short}
use Rattle.line.specs.declared.size.Size.{Size}
use Rattle.line.specs.Bytes.{byte_length, meant, bytes_of, two}
use Rattle.line.specs.Line.{Line, users}
use Rattle.line.specs.Reading.{part_faulty, sizing, over, writing, written, Again}
use Rattle.line.specs.Rows.{in_row, across, row, line_of, rows, SameRows}
use Rattle.line.specs.Sound.{Sound}
use Rattle.line.proofs.Answering.{reading_ok, fitting_ok}
use Rattle.line.proofs.Rows.{uses_is, same_line, rows_length, rows_hold}
use Rattle.line.proofs.Sizing.{sizing_whole, whole_yes}
use Rattle.line.proofs.Taking.{users_some, same_clear}

module _ (s : Size) (ws : List ℕ) (so : Sound s.farms s.parts ws) where
  -- the rows of bytes hold what the words hold
  copy : SameRows 8 (across 8 s.farms) 64 (across 64 s.farms) s.parts (rows 8 (line_of 64 s.farms s.parts ws)) ws
  copy i e h g =
      let l = line_of 64 s.farms s.parts ws in
      ap (λ x. in_row 8 (row (across 8 s.farms) x e) i) (sym (append-nil (rows 8 l))) ∙ rows_hold 8 l [] i e (omega arith) h g
      ∙ sym (uses_is 64 s.farms s.parts ws i e (omega arith) h (so.clear e h))

  -- none of them is faulty
  fine : (e : ℕ) → e < s.parts → part_faulty s.farms (rows 8 (line_of 64 s.farms s.parts ws)) e ≡ false
  fine e h =
      let l = line_of 64 s.farms s.parts ws in
      let clear = same_clear 8 64 s.farms s.parts (rows 8 l) ws e (omega arith) h copy (so.clear e h) in
      ap₂ (λ x y. x || not y) clear
      (users_some 8 s.farms s.parts (rows 8 l) e (omega arith) h clear
      ∙ ap (λ k. ltb 0 (users k e)) (same_line 8 64 s.farms s.parts (rows 8 l) ws (omega arith) copy) ∙ lt-ltb 0 (users l e) (so.used e h))

  -- the bytes tell the size
  size_told : sizing (bytes_of (line_of 64 s.farms s.parts ws)) ≡ Ok s
  unfolding bytes_of
  size_told =
      let n = s.farms in
      let m = s.parts in
      let l = line_of 64 n m ws in
      let len : length (bytes_of l) ≡ byte_length n m = omega (arith, rows_length 8 l) in
      sizing_whole (bytes_of l) s (omega arith) (omega arith) (omega arith) so.farms so.parts ∙ whole_yes (bytes_of l) s len

  -- reading what was written gives the same line
  pub again : Again (line_of 64 s.farms s.parts ws) s
  unfolding bytes_of meant
  again =
      let n = s.farms in
      let m = s.parts in
      let l = line_of 64 n m ws in
      record {
        same =
            ap₂ (λ x y. line_of 8 x y (rows 8 l)) (let e : n % 256 + n / 256 * 256 ≡ n = omega arith in e) (let e : m % 256 + m / 256 * 256 ≡ m = omega arith in e)
            ∙ same_line 8 64 n m (rows 8 l) ws (omega arith) copy;
        taken = λ lent h. reading_ok (bytes_of l) lent s size_told ∙ fitting_ok (rows 8 l) lent s (none_from m (part_faulty n (rows 8 l)) fine) h;
      }

-- a number in two bytes, as the library writes it
pub two_is : (n : ℕ) (r : List ℕ) → n < 65536 → r ≡ n % 256 ∷ n / 256 % 256 ∷ [] → r ≡ two n
two_is n r h e = e ∙ ap (λ x. n % 256 ∷ x ∷ []) (let small : n / 256 % 256 ≡ n / 256 = omega arith in small)

-- two numbers written over b
pub headed : (n m : ℕ) (b xs ys : List ℕ) → 4 ≤ length b → xs ≡ two n → ys ≡ two m → put_mid 2 2 (put_mid 0 2 b xs) ys ≡ two n ++ (two m ++ drop 4 b)
headed n m [] xs ys h p q = absurd (omega arith)
headed n m (x ∷ []) xs ys h p q = absurd (omega arith)
headed n m (x ∷ y ∷ []) xs ys h p q = absurd (omega arith)
headed n m (x ∷ y ∷ z ∷ []) xs ys h p q = absurd (omega arith)
headed n m (x ∷ y ∷ z ∷ u ∷ b) xs ys h p q = ap₂ (λ vs ws. put_mid 2 2 (put_mid 0 2 (x ∷ y ∷ z ∷ u ∷ b) vs) ws) p q

-- and rows after them
pub head_over : (l : Line) (b head rest : List ℕ) (k : ℕ) → 4 ≤ length b → length b ≤ k + 4 → head ≡ two l.farms ++ (two l.parts ++ drop 4 b) → rest ≡ over (rows 8 l) (drop 4 b) →
    put_mid 4 k head rest ≡ over (bytes_of l) b
unfolding bytes_of
head_over l [] head rest k h g p e = absurd (omega arith)
head_over l (x ∷ []) head rest k h g p e = absurd (omega arith)
head_over l (x ∷ y ∷ []) head rest k h g p e = absurd (omega arith)
head_over l (x ∷ y ∷ z ∷ []) head rest k h g p e = absurd (omega arith)
head_over l (x ∷ y ∷ z ∷ u ∷ b) head rest k h g p e =
    ap (λ r. put_mid 4 k r rest) p ∙ ap (λ xs. two l.farms ++ (two l.parts ++ xs)) (ap (λ (xs : List ℕ). rest ++ xs) (drop_all k b (omega arith)) ∙ append-nil rest ∙ e)

-- what stands in a part of a slice stands in the slice
pub part_fits : (a k w : ℕ) (xs ys : List ℕ) → a ≤ length xs → 0 < w → ((i : ℕ) → get_or (put_mid a k xs ys) i 0 < w) → (j : ℕ) → get_or ys j 0 < w
part_fits a k w xs ys h p fits j =
    ⊎_elim
    (λ (l : j < length ys). subst (λ x. x < w) (get_or-append_right (take a xs) _ a (a + j) 0 (length-take-le a xs h) (omega arith) ∙ ap (λ i. get_or (ys ++ post_of a k xs) i 0) (omega arith) ∙ get_or_append_left ys _ 0 j l) (fits (a + j)))
    (λ (l : length ys ≤ j). omega (arith, get_or_past ys j 0 l))
    (cases_lt j (length ys))

-- too few bytes are left as they were
pub writing_short : (l : Line) (b : List ℕ) → length b < byte_length l.farms l.parts → (writing l (length b) ≡ Err (Short TheLine)) × (written l b ≡ b)
unfolding writing written
writing_short l b h = let short = lt-ltb _ _ h in (simp short, simp short)

-- enough are written
pub writing_ok : (l : Line) (b : List ℕ) → byte_length l.farms l.parts ≤ length b → (writing l (length b) ≡ Ok (byte_length l.farms l.parts)) × (written l b ≡ over (bytes_of l) b)
unfolding writing written
writing_ok l b h = let enough = le-ltb _ _ h in (simp enough, simp enough)
