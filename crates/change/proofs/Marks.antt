-- One bit of a number, and of a row, set or cleared.
use Rattle.std.proofs.Common.{◌≡◌, ℕ, zero, suc, ◌+◌, ◌-◌, ◌*◌, ◌/◌, ◌%◌, ◌^◌, ◌<◌, ◌≤◌, min, max, Bool, true, false, cond, not, ◌&&◌, ◌||◌, eqb, List, length, get_or, set, sym, refl, ap, ◌∙◌, ap₂, inl, inr, ⊎_elim, pow-suc, arith}
use lib.Bits.{bit_and, bit_or, and_step, or_step}
use Rattle.std.proofs.lemmas.Nat.{and_shr, or_shr, shl-shr, pow_below, one_shl}
use Rattle.std.proofs.lemmas.List.{get_or-set_same, get_or-set_other}
use Rattle.std.proofs.lemmas.Bool.{cases_eq, cases_lt, eq-eqb, ne_eqb}
use Rattle.std.proofs.lemmas.Bool.Decides.{nat_tests}
use Rattle.line.specs.Rows.{has}
use Rattle.line.proofs.Digits.{has_none, has_shift, has_low}
use Rattle.change.specs.Answer.{WithBit}

-- each bit by itself
has_or : (a b j : ℕ) → has (bit_or a b) j ≡ (has a j || has b j)
has_or a b j = ap (λ x. eqb (x % 2) 1) (or_shr a b j) ∙ low (a / 2 ^ j) (b / 2 ^ j)
  where
    two : (x y : ℕ) → x < 2 → y < 2 → eqb (max x y) 1 ≡ (eqb x 1 || eqb y 1)
    two x y h k = grind (arith, nat_tests)

    low : (p q : ℕ) → eqb (bit_or p q % 2) 1 ≡ (eqb (p % 2) 1 || eqb (q % 2) 1)
    low p q =
        let e : bit_or p q % 2 ≡ max (p % 2) (q % 2) = omega (arith, or_step p q) in
        ap (λ x. eqb x 1) e ∙ two (p % 2) (q % 2) (omega arith) (omega arith)

has_and : (a b j : ℕ) → has (bit_and a b) j ≡ (has a j && has b j)
has_and a b j = ap (λ x. eqb (x % 2) 1) (and_shr a b j) ∙ low (a / 2 ^ j) (b / 2 ^ j)
  where
    two : (x y : ℕ) → x < 2 → y < 2 → eqb (min x y) 1 ≡ (eqb x 1 && eqb y 1)
    two x y h k = grind (arith, nat_tests)

    low : (p q : ℕ) → eqb (bit_and p q % 2) 1 ≡ (eqb (p % 2) 1 && eqb (q % 2) 1)
    low p q =
        let e : bit_and p q % 2 ≡ min (p % 2) (q % 2) = omega (arith, and_step p q) in
        ap (λ x. eqb x 1) e ∙ two (p % 2) (q % 2) (omega arith) (omega arith)

-- all bits turned round
has_not : (w v j : ℕ) → v < 2 ^ w → j < w → has (2 ^ w - 1 - v) j ≡ not (has v j)
has_not zero v j h l = absurd (omega arith)
has_not (suc w) v zero h l = let e = pow-suc 2 w in turned (v / 1 % 2) _ (omega arith) (omega arith)
  where
    turned : (x y : ℕ) → x < 2 → y ≡ 1 - x → eqb y 1 ≡ not (eqb x 1)
    turned x y h k = grind (arith, nat_tests)
has_not (suc w) v (suc j) h l =
    let e = pow-suc 2 w in
    let half : (2 ^ suc w - 1 - v) / 2 ≡ 2 ^ w - 1 - v / 2 = omega arith in
    let next : suc j ≡ 1 + j = omega arith in
    ap (has (2 ^ suc w - 1 - v)) next ∙ sym (has_shift (2 ^ suc w - 1 - v) 1 j) ∙ ap (λ x. has x j) half
    ∙ has_not w (v / 2) j (omega arith) (omega arith) ∙ ap not (has_shift v 1 j ∙ ap (has v) (sym next))

-- a power of two has one bit
has_power : (b j : ℕ) → has (2 ^ b) j ≡ eqb j b
has_power b j =
    ⊎_elim
    (λ (l : j < b).
    let e : 2 ^ b ≡ 1 * 2 ^ b + 0 = omega arith in
    ap (λ x. has x j) e ∙ has_low b 1 0 j l ∙ has_none j ∙ sym (ne_eqb j b (λ p. omega arith)))
    (λ (l : b ≤ j).
    let e : b + (j - b) ≡ j = omega arith in
    ap (has (2 ^ b)) (sym e) ∙ sym (has_shift (2 ^ b) b (j - b)) ∙ ap (λ x. has x (j - b)) (whole b) ∙ first (j - b) ∙ same (j - b) (omega arith))
    (cases_lt j b)
  where
    whole : (b : ℕ) → 2 ^ b / 2 ^ b ≡ 1
    whole b = let e : 2 ^ b ≡ 1 * 2 ^ b = omega arith in ap (λ x. x / 2 ^ b) e ∙ shl-shr 1 b

    first : (k : ℕ) → has 1 k ≡ eqb k 0
    first zero = refl
    first (suc k) = let e : suc k ≡ 1 + k = omega arith in ap (has 1) e ∙ sym (has_shift 1 1 k) ∙ has_none k ∙ sym (ne_eqb (suc k) 0 (λ p. omega arith))

    same : (k : ℕ) → b + k ≡ j → eqb k 0 ≡ eqb j b
    same k h = grind (arith, nat_tests)

-- to set where t, and to clear where t
pub or_is : (a t : Bool) → (a || t) ≡ cond t true a
or_is true true = refl
or_is true false = refl
or_is false true = refl
or_is false false = refl

pub and_not_is : (a t : Bool) → (a && not t) ≡ cond t false a
and_not_is true true = refl
and_not_is true false = refl
and_not_is false true = refl
and_not_is false false = refl

-- a bit that is set
set_one : (v b j : ℕ) → has (bit_or v (2 ^ b)) j ≡ cond (eqb j b) true (has v j)
set_one v b j = has_or v (2 ^ b) j ∙ ap (λ t. has v j || t) (has_power b j) ∙ or_is (has v j) (eqb j b)

-- a bit that is cleared
clear_one : (w v b j : ℕ) → b < w → j < w → has (bit_and v (2 ^ w - 1 - 2 ^ b)) j ≡ cond (eqb j b) false (has v j)
clear_one w v b j h l =
    has_and v (2 ^ w - 1 - 2 ^ b) j ∙ ap (λ t. has v j && t) (has_not w (2 ^ b) j (pow_below b w h) l ∙ ap not (has_power b j)) ∙ and_not_is (has v j) (eqb j b)

-- bit i of a row is bit i modulo 64 of word i / 64
row_bit : (r : List ℕ) (i v : ℕ) (x : Bool) → i / 64 < length r → ((j : ℕ) → j < 64 → has v j ≡ cond (eqb j (i % 64)) x (has (get_or r (i / 64) 0) j)) → WithBit r (set r (i / 64) v) i x
row_bit r i v x h same j =
    elim (cases_eq (j / 64) (i / 64)) [
      | inl p ↦
          ap (λ k. has (get_or (set r (i / 64) v) k 0) (j % 64)) p ∙ ap (λ y. has y (j % 64)) (get_or-set_same r (i / 64) v 0 h) ∙ same (j % 64) (omega arith)
          ∙ ap₂ (λ t k. cond t x (has (get_or r k 0) (j % 64))) (place j i p) (sym p)
      | inr q ↦
          ap (λ y. has y (j % 64)) (get_or-set_other r (i / 64) (j / 64) v 0 q)
          ∙ ap (λ t. cond t x (has (get_or r (j / 64) 0) (j % 64))) (sym (ne_eqb j i (λ e. q (ap (λ y. y / 64) e))))
    ]
  where
    place : (j i : ℕ) → j / 64 ≡ i / 64 → eqb (j % 64) (i % 64) ≡ eqb j i
    place j i p = elim (cases_eq j i) [ inl e ↦ eq-eqb _ _ (ap (λ y. y % 64) e) ∙ sym (eq-eqb j i e) | inr n ↦ ne_eqb _ _ (λ m. n (omega arith)) ∙ sym (ne_eqb j i n) ]

-- one word of a row, as it is written
pub set_bit : (r : List ℕ) (i : ℕ) → i / 64 < length r → WithBit r (set r (i / 64) (bit_or (get_or r (i / 64) 0) (1 * 2 ^ (i % 64) % 2 ^ 64))) i true
set_bit r i h = rw (one_shl (i % 64) 64 (omega arith)) (row_bit r i _ true h (λ j _. set_one (get_or r (i / 64) 0) (i % 64) j))

pub clear_bit : (r : List ℕ) (i : ℕ) → i / 64 < length r → WithBit r (set r (i / 64) (bit_and (get_or r (i / 64) 0) (2 ^ 64 - 1 - 1 * 2 ^ (i % 64) % 2 ^ 64))) i false
clear_bit r i h = rw (one_shl (i % 64) 64 (omega arith)) (row_bit r i _ false h (λ j l. clear_one 64 (get_or r (i / 64) 0) (i % 64) j (omega arith) l))
