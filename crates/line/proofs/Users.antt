-- How many use a part, counted in its row.
use Rattle.std.proofs.Common.{◌≡◌, ℕ, zero, suc, ◌+◌, ◌-◌, ◌*◌, ◌/◌, ◌%◌, ◌^◌, ◌<◌, ◌≤◌, Bool, true, false, ◌&&◌, ltb, List, [], ◌∷◌, length, get_or, sum_by, refl, ap, ◌∙◌, ap₂, add-one, arith}
use lib.Count.{ones, ones_step, ones-ones}
use Rattle.std.proofs.lemmas.List.Sums.{sum_by-cons}
use Rattle.std.proofs.lemmas.Nat.{shr-shr}
use Rattle.std.proofs.lemmas.Bool.{le-ltb}
use Rattle.number.specs.Sum.{sum, one, count}
use Rattle.number.proofs.Sums.{sum_same, sum_zero, sum_append}
use Rattle.line.specs.Line.{users}
use Rattle.line.specs.Rows.{has, in_row, across, row, stray, line_of}
use Rattle.line.proofs.Digits.{one_has}
use Rattle.line.proofs.Rows.{across_holds, row_most, clear_row, uses_is}

-- the ones of a number are its lowest k bits, counted, and the ones of the rest
ones_bits : (v k : ℕ) → ones v ≡ count k (has v) + ones (v / 2 ^ k)
unfolding sum
ones_bits v zero = let d : v / 1 ≡ v = omega arith in omega (arith, ap ones d)
ones_bits v (suc k) = omega (arith, ones_bits v k, one_has v k, ones_step (v / 2 ^ k), ap ones (shr-shr v k 1 ∙ ap (λ z. v / 2 ^ z) (add-one k)))

ones_count : (v : ℕ) → v < 2 ^ 64 → ones v ≡ count 64 (has v)
ones_count v h = let z : v / 2 ^ 64 ≡ 0 = omega arith in omega (arith, ones_bits v 64, ap ones z, ones-ones 0)

-- the bits of a row are the ones of its words
pub row_ones : (r : List ℕ) → ((k : ℕ) → get_or r k 0 < 2 ^ 64) → sum_by ones r ≡ count (64 * length r) (in_row 64 r)
unfolding sum
row_ones [] fits = refl
row_ones (x ∷ r) fits =
    let cut : 64 * length (x ∷ r) ≡ 64 * length r + 64 = omega arith in
    sum_by-cons ones x r
    ∙ omega (
      arith,
      ap (λ z. count z (in_row 64 (x ∷ r))) cut,
      sum_append 64 (64 * length r) (λ i. one (in_row 64 (x ∷ r) i)),
      ones_count x (fits 0),
      sum_same 64 (λ i. one (in_row 64 (x ∷ r) i)) (λ i. one (has x i)) at,
      sum_same (64 * length r) (λ k. one (in_row 64 (x ∷ r) (64 + k))) (λ k. one (in_row 64 r k)) next,
      row_ones r (λ k. fits (suc k)),
    )
  where
    at : (i : ℕ) → i < 64 → one (in_row 64 (x ∷ r) i) ≡ one (has x i)
    at i l = ap₂ (λ k j. one (has (get_or (x ∷ r) k 0) j)) (let q : i / 64 ≡ 0 = omega arith in q) (let q : i % 64 ≡ i = omega arith in q)

    next : (k : ℕ) → k < 64 * length r → one (in_row 64 (x ∷ r) (64 + k)) ≡ one (in_row 64 r k)
    next k l = ap₂ (λ i j. one (has (get_or (x ∷ r) i 0) j)) (let q : (64 + k) / 64 ≡ suc (k / 64) = omega arith in q) (let q : (64 + k) % 64 ≡ k % 64 = omega arith in q)

-- the bits of a row without stray bits are the part's users
pub users_row : (w n m : ℕ) (xs : List ℕ) (e : ℕ) → 0 < w → e < m → stray w n (row (across w n) xs e) ≡ false → count (w * across w n) (in_row w (row (across w n) xs e)) ≡ users (line_of w n m xs) e
unfolding users
users_row w n m xs e h k clear =
    let d = w * across w n - n in
    let r = row (across w n) xs e in
    let cut : w * across w n ≡ d + n = omega (arith, across_holds w n h) in
    ap (λ z. count z (in_row w r)) cut ∙ sum_append n d (λ i. one (in_row w r i))
    ∙ omega (
      arith,
      sum_same n (λ i. one (in_row w r i)) (λ i. one ((line_of w n m xs).uses i e)) (λ i l. ap one (uses_is w n m xs i e h k clear)),
      sum_zero d (λ j. one (in_row w r (n + j))) (λ j l. ap one (clear_row w n r (n + j) h (row_most (across w n) xs e) clear (omega arith))),
    )

-- nobody uses a part that doesn't exist
pub no_users : (w n m : ℕ) (xs : List ℕ) (e : ℕ) → m ≤ e → users (line_of w n m xs) e ≡ 0
unfolding users
no_users w n m xs e h = sum_zero n _ (λ i l. off (ltb i n) (ltb e m) _ (le-ltb e m h))
  where
    off : (a b x : Bool) → b ≡ false → one (a && (b && x)) ≡ 0
    off true b x p = ap (λ y. one (y && x)) p
    off false b x p = refl
