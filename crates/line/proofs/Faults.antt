-- Rows of bytes that are faulty, found by their bytes.
use Rattle.std.proofs.Common.{◌≡◌, ℕ, ◌+◌, ◌-◌, ◌*◌, ◌/◌, ◌%◌, ◌^◌, ◌<◌, ◌≤◌, Bool, true, false, not, ◌||◌, ltb, List, length, get_or, MatchBool, sym, ap, ◌∙◌, ap₂, ⊎_elim, arith}
use Rattle.std.proofs.lemmas.Nat.{shr-shr}
use Rattle.std.proofs.lemmas.Bool.{both_ways, cases_lt, ltb-true, lt-ltb}
use Rattle.std.proofs.lemmas.Bool.Decides.{nat_tests}
use Rattle.number.specs.First.{first}
use Rattle.number.proofs.Firsts.{first_same, first_passes, some_from, none_from}
use Rattle.line.specs.Reading.{faulty}
use Rattle.line.specs.Rows.{has, in_row, across, stray}
use Rattle.line.proofs.Digits.{has_none, some_high}
use Rattle.line.proofs.Rows.{clear_row}

-- the stray bits of a row stand at the top of its last byte
pub stray_top : (n : ℕ) (r : List ℕ) → 0 < n → length r ≡ across 8 n → get_or r (length r - 1) 0 < 256 → stray 8 n r ≡ ltb 1 (get_or r (length r - 1) 0 / 2 ^ ((n - 1) % 8))
stray_top n r p len fits =
    let v = get_or r (length r - 1) 0 in
    let t = (n - 1) % 8 in
    let d = 8 * across 8 n - n in
    let all : t + 1 + d ≡ 8 = omega arith in
    ap (λ x. ltb x d)
    (first_same d (λ k. in_row 8 r (n + k)) (λ k. has v (t + 1 + k))
    (λ k l. ap₂ (λ x y. has (get_or r x 0) y) (let q : (n + k) / 8 ≡ length r - 1 = omega arith in q) (let q : (n + k) % 8 ≡ t + 1 + k = omega arith in q)))
    ∙ some_high v (t + 1) d (ap_lt v (t + 1 + d) all fits) ∙ above (v / 2 ^ t) (v / 2 ^ (t + 1)) (shr-shr v t 1)
  where
    ap_lt : (v k : ℕ) → k ≡ 8 → v < 256 → v < 2 ^ k
    ap_lt v k e h = omega (arith, ap (λ x. 2 ^ x) e)

    above : (u x : ℕ) → u / 2 ≡ x → ltb 0 x ≡ ltb 1 u
    above u x e = grind (arith, nat_tests)

-- a row that is blank has no user, and one that isn't and has no stray bit has one
pub blank_row : (n : ℕ) (r : List ℕ) (b : Bool) → length r ≡ across 8 n → ((k : ℕ) → get_or r k 0 < 256) → stray 8 n r ≡ false →
    MatchBool b ((k : ℕ) → get_or r k 0 ≡ 0) ((k : ℕ) × (k < length r) × (0 < get_or r k 0)) → b ≡ faulty n r
blank_row n r true len fits clear zeros =
    sym (ap₂ (λ x y. x || not y) clear (none_from n (in_row 8 r) (λ i l. ap (λ x. has x (i % 8)) (zeros (i / 8)) ∙ has_none (i % 8))))
blank_row n r false len fits clear one =
    let k = one.0 in
    let v = get_or r k 0 in
    let j = first 8 (λ j. has v (0 + j)) in
    let lit : v / 2 ^ 0 ≡ v = omega arith in
    let inside : j < 8 = ltb-true j 8 (some_high v 0 8 (fits k) ∙ lt-ltb 0 (v / 2 ^ 0) (omega (arith, one.2))) in
    let set : in_row 8 r (8 * k + j) ≡ true = ap₂ (λ x y. has (get_or r x 0) y) (let q : (8 * k + j) / 8 ≡ k = omega arith in q) (let q : (8 * k + j) % 8 ≡ 0 + j = omega arith in q) ∙ first_passes 8 (λ j. has v (0 + j)) inside in
    sym (ap₂ (λ x y. x || not y) clear
    (⊎_elim (λ (l : 8 * k + j < n). some_from n (in_row 8 r) (8 * k + j) l set)
    (λ (l : n ≤ 8 * k + j). absurd (both_ways _ (clear_row 8 n r (8 * k + j) (omega arith) (omega arith) clear l) set)) (cases_lt (8 * k + j) n)))
