-- What holds of words and bytes that hold the same line.
use Rattle.std.proofs.Common.{◌≡◌, ℕ, ◌+◌, ◌*◌, ◌/◌, ◌%◌, ◌^◌, ◌<◌, ◌≤◌, true, false, ltb, List, [], ◌∷◌, ◌++◌, length, get_or, drop, sym, ap, ◌∙◌, subst, ap₂, arith}
use Rattle.std.proofs.lemmas.List.{take-append-drop, take_all, length-drop, get_or-drop}
use Rattle.std.proofs.lemmas.Bool.{ltb-true, not-false, or_parts}
use Rattle.number.specs.First.{some}
use Rattle.number.proofs.Firsts.{first_same, some_count, none_from}
use Rattle.line.specs.declared.size.Size.{Size}
use Rattle.line.specs.Bytes.{two_at, two, meant, bytes_of}
use Rattle.line.specs.Line.{users}
use Rattle.line.specs.Reading.{faulty, part_faulty, over, Taken}
use Rattle.line.specs.Rows.{in_row, across, row, stray, line_of, rows, SameRows}
use Rattle.line.specs.Sound.{Clear, Used}
use Rattle.line.proofs.Sizing.{Measured}
use Rattle.line.proofs.Rows.{row_most, clear_row, uses_is, same_line, rows_length, rows_are}

-- a part has a user if a farm's bit stands in its row
pub users_some : (w n m : ℕ) (xs : List ℕ) (e : ℕ) → 0 < w → e < m → stray w n (row (across w n) xs e) ≡ false →
    some n (in_row w (row (across w n) xs e)) ≡ ltb 0 (users (line_of w n m xs) e)
unfolding users
users_some w n m xs e h k clear =
    ap (λ x. ltb x n) (first_same n _ (λ i. (line_of w n m xs).uses i e) (λ i l. uses_is w n m xs i e h k clear)) ∙ some_count n (λ i. (line_of w n m xs).uses i e)

-- where one has no stray bits, the other has none
pub same_clear : (w v n m : ℕ) (xs ys : List ℕ) (e : ℕ) → 0 < v → e < m → SameRows w (across w n) v (across v n) m xs ys → stray v n (row (across v n) ys e) ≡ false →
    stray w n (row (across w n) xs e) ≡ false
same_clear w v n m xs ys e h k same clear =
    none_from _ _ (λ j l. same (n + j) e k (omega arith) ∙ clear_row v n _ (n + j) h (row_most (across v n) ys e) clear (omega arith))

-- digits that hold the same line as ys are its rows, and what comes after them is as it was
pub over_rows : (w v n m : ℕ) (xs ys before : List ℕ) → 0 < w → 0 < v → ((k : ℕ) → get_or xs k 0 < 2 ^ w) → m * across w n ≤ length xs →
    ((e : ℕ) → e < m → stray v n (row (across v n) ys e) ≡ false) → SameRows w (across w n) v (across v n) m xs ys →
    drop (m * across w n) xs ≡ drop (m * across w n) before → xs ≡ over (rows w (line_of v n m ys)) before
over_rows w v n m xs ys before hw hv fits room clear same rest =
    sym (take-append-drop (m * across w n) xs)
    ∙ ap₂ (λ x y. x ++ y) (rows_are w (line_of v n m ys) xs hw fits room (λ i e h g. same i e h g ∙ uses_is v n m ys i e hv h (clear e h)))
    (rest ∙ ap (λ x. drop x before) (sym (rows_length w (line_of v n m ys))))

-- four bytes of a head
head_four : (b : List ℕ) → 4 ≤ length b → ((k : ℕ) → get_or b k 0 < 256) → two (two_at b 0) ++ (two (two_at b 2) ++ drop 4 b) ≡ b
head_four [] h f = absurd (omega arith)
head_four (x ∷ []) h f = absurd (omega arith)
head_four (x ∷ y ∷ []) h f = absurd (omega arith)
head_four (x ∷ y ∷ z ∷ []) h f = absurd (omega arith)
head_four (x ∷ y ∷ z ∷ t ∷ r) h f =
    ap₂ (λ p q. p ++ (q ++ r)) (pair x y (f 0)) (pair z t (f 2))
  where
    pair : (x y : ℕ) → x < 256 → two (x + y * 256) ≡ x ∷ y ∷ []
    pair x y h = ap₂ (λ p q. p ∷ q ∷ []) (let e : (x + y * 256) % 256 ≡ x = omega arith in e) (let e : (x + y * 256) / 256 ≡ y = omega arith in e)

-- the line that bytes mean, by the size that they tell
pub meant_is : (b : List ℕ) (s : Size) → Measured b s → meant b ≡ line_of 8 s.farms s.parts (drop 4 b)
unfolding meant
meant_is b s d = ap₂ (λ n m. line_of 8 n m (drop 4 b)) (sym d.farms_are) (sym d.parts_are)

-- writing the line that was read gives the same bytes
bytes_back : (b : List ℕ) (s : Size) → Measured b s → ((k : ℕ) → get_or b k 0 < 256) →
    ((e : ℕ) → e < s.parts → stray 8 s.farms (row (across 8 s.farms) (drop 4 b) e) ≡ false) → bytes_of (meant b) ≡ b
unfolding bytes_of
bytes_back b s d fits clear =
    let n = s.farms in
    let m = s.parts in
    let xs = drop 4 b in
    let len : length xs ≡ m * across 8 n = omega (arith, length-drop 4 b, d.whole) in
    let small : (k : ℕ) → get_or xs k 0 < 256 = (λ k. subst (λ x. x < 256) (sym (get_or-drop 4 b k 0)) (fits (4 + k))) in
    let rows_back : rows 8 (line_of 8 n m xs) ≡ xs =
    sym (rows_are 8 (line_of 8 n m xs) xs (omega arith) small (omega arith) (λ i e h g. uses_is 8 n m xs i e (omega arith) h (clear e h))) ∙ take_all (m * across 8 n) xs (omega arith) in
    ap (λ l. two l.farms ++ (two l.parts ++ rows 8 l)) (meant_is b s d)
    ∙ ap (λ x. two n ++ (two m ++ x)) rows_back ∙ ap₂ (λ x y. two x ++ (two y ++ xs)) d.farms_are d.parts_are ∙ head_four b (omega (arith, d.whole)) fits

-- a part whose row is not faulty
pub sound_part : (n : ℕ) (r : List ℕ) → faulty n r ≡ false → (stray 8 n r ≡ false) × (some n (in_row 8 r) ≡ true)
sound_part n r h = let p = or_parts _ _ h in (p.0, not-false _ p.1)

-- what is known of bytes that were taken
pub taken : (b words : List ℕ) (s : Size) → Measured b s → ((k : ℕ) → get_or b k 0 < 256) → s.parts * across 64 s.farms ≤ length words →
    SameRows 64 (across 64 s.farms) 8 (across 8 s.farms) s.parts words (drop 4 b) → ((e : ℕ) → e < s.parts → part_faulty s.farms (drop 4 b) e ≡ false) →
    Taken b words s
taken b words s d fits room same fine =
    record {
      sound = record { farms = d.farms; parts = d.parts; room = room; clear = clear; used = used };
      same = line ∙ sym (meant_is b s d);
      back = bytes_back b s d fits (λ e h. (sound_part s.farms _ (fine e h)).0);
    }
  where
    line : line_of 64 s.farms s.parts words ≡ line_of 8 s.farms s.parts (drop 4 b)
    line = same_line 64 8 s.farms s.parts words (drop 4 b) (omega arith) same

    clear : Clear s.farms s.parts words
    clear e h = same_clear 64 8 s.farms s.parts words (drop 4 b) e (omega arith) h same (sound_part s.farms _ (fine e h)).0

    used : Used s.farms s.parts words
    used e h =
        let p = sound_part s.farms _ (fine e h) in
        ltb-true 0 _ (ap (λ l. ltb 0 (users l e)) line ∙ sym (users_some 8 s.farms s.parts (drop 4 b) e (omega arith) h p.0) ∙ p.1)
