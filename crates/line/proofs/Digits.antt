-- Numbers and their bits, over any width.
use Rattle.std.proofs.Common.{◌≡◌, ℕ, zero, suc, ◌+◌, ◌-◌, ◌*◌, ◌/◌, ◌%◌, ◌^◌, ◌<◌, ◌≤◌, Bool, true, false, eqb, ltb, sym, refl, ap, ◌∙◌, subst, ap₂, ⊎_elim, mul-le-mul_right, mod-eq_of_lt, mul_assoc, add_comm, pow-suc, mul-zero, zero-mul, arith}
use native.Mathlib.Nat.{zero-div}
use Rattle.std.proofs.lemmas.Nat.{mod-pow-add, pow-add, shr-shr, shr_high, shr_split, shr_below, div-mul-add, mod-mul-add}
use Rattle.std.proofs.lemmas.Bool.{cases_eq, cases_lt, cases_Bool, both_ways, ltb-true, lt-ltb, le-ltb}
use Rattle.std.proofs.lemmas.Bool.Decides.{nat_tests}
use Rattle.number.specs.First.{first, some}
use Rattle.number.specs.Sum.{sum, one}
use Rattle.number.proofs.Firsts.{first_passes, each_fails}
use Rattle.number.proofs.Sums.{one_most, sum_same, sum_zero}
use Rattle.line.specs.Rows.{has}

-- 1 where the bit is set, and 0 where not, is the bit
pub one_has : (v i : ℕ) → one (has v i) ≡ v / 2 ^ i % 2
one_has v i = go (v / 2 ^ i % 2) (omega arith)
  where
    go : (x : ℕ) → x < 2 → one (eqb x 1) ≡ x
    go x h = grind (arith, nat_tests)

has_one : (b : Bool) (x : ℕ) → x ≡ one b → eqb x 1 ≡ b
has_one true x e = ap (λ y. eqb y 1) e
has_one false x e = ap (λ y. eqb y 1) e

-- no bit of 0 is set
pub has_none : (i : ℕ) → has 0 i ≡ false
has_none i = ap (λ x. eqb (x % 2) 1) (zero-div (2 ^ i))

-- the bits of a number shifted down
pub has_shift : (v s i : ℕ) → has (v / 2 ^ s) i ≡ has v (s + i)
has_shift v s i = ap (λ x. eqb (x % 2) 1) (shr-shr v s i)

-- what stands above bit k does not touch the bits below it
pub has_low : (k h v i : ℕ) → i < k → has (h * 2 ^ k + v) i ≡ has v i
has_low k h v i l = ap (λ x. eqb x 1) (low k v i l)
  where
    double : (k : ℕ) → h * 2 ^ suc k ≡ h * 2 ^ k * 2
    double k = ap (λ x. h * x) (pow-suc 2 k) ∙ sym (mul_assoc h (2 ^ k) 2)

    half : (v i : ℕ) → v / 2 ^ suc i % 2 ≡ v / 2 / 2 ^ i % 2
    half v i = ap (λ x. x % 2) (ap (λ x. v / 2 ^ x) (let e : suc i ≡ 1 + i = omega arith in e) ∙ sym (shr-shr v 1 i))

    low : (k v i : ℕ) → i < k → (h * 2 ^ k + v) / 2 ^ i % 2 ≡ v / 2 ^ i % 2
    low zero v i l = absurd (omega arith)
    low (suc k) v zero l = let e = double k in omega arith
    low (suc k) v (suc i) l =
        let e = double k in
        let d : (h * 2 ^ suc k + v) / 2 ≡ h * 2 ^ k + v / 2 = omega arith in
        half (h * 2 ^ suc k + v) i ∙ ap (λ x. x / 2 ^ i % 2) d ∙ low k (v / 2) i (omega arith) ∙ sym (half v i)

-- the lowest k bits, added, are the remainder by 2 ^ k
bits_mod : (k v : ℕ) → sum k (λ j. v / 2 ^ j % 2 * 2 ^ j) ≡ v % 2 ^ k
unfolding sum
bits_mod zero v = omega arith
bits_mod (suc k) v = omega (arith, bits_mod k v, mod-pow-add v 1 k, ap (λ x. v % 2 ^ x) (let e : 1 + k ≡ suc k = omega arith in e))

-- a number of w bits is the sum of its bits
pub from_bits : (w v : ℕ) (f : ℕ → Bool) → v < 2 ^ w → ((j : ℕ) → j < w → has v j ≡ f j) → v ≡ sum w (λ j. one (f j) * 2 ^ j)
from_bits w v f h e =
    sym (mod-eq_of_lt h) ∙ sym (bits_mod w v) ∙ sum_same w _ _ (λ j l. ap (λ x. x * 2 ^ j) (sym (one_has v j) ∙ ap one (e j l)))

-- bits, added, make a number of w bits
pub digit_lt : (w : ℕ) (f : ℕ → Bool) → sum w (λ j. one (f j) * 2 ^ j) < 2 ^ w
unfolding sum
digit_lt zero f = omega arith
digit_lt (suc w) f = omega (arith, digit_lt w f, pow-suc 2 w, mul-le-mul_right (2 ^ w) (one_most (f w)))

-- and each is a bit of it
pub has_digit : (w : ℕ) (f : ℕ → Bool) (i : ℕ) → i < w → has (sum w (λ j. one (f j) * 2 ^ j)) i ≡ f i
unfolding sum
has_digit zero f i l = absurd (omega arith)
has_digit (suc w) f i l =
    ⊎_elim
    (λ (e : i ≡ w). has_one (f i) _ (ap (λ x. (one (f w) * 2 ^ w + sum w (λ j. one (f j) * 2 ^ j)) / 2 ^ x % 2) e ∙ ap (λ x. x % 2) (shr_high (one (f w)) w _ (digit_lt w f)) ∙ small (f w) ∙ ap (λ x. one (f x)) (sym e)))
    (λ (n : i ≡ w → ⊥). has_low w (one (f w)) _ i (omega (arith, n)) ∙ has_digit w f i (omega (arith, n)))
    (cases_eq i w)
  where
    small : (b : Bool) → one b % 2 ≡ one b
    small true = refl
    small false = refl

-- a number whose bits are all 0 is 0
zero_bits : (w v : ℕ) → v < 2 ^ w → ((j : ℕ) → j < w → has v j ≡ false) → v ≡ 0
zero_bits w v h none = from_bits w v (λ _. false) h none ∙ sum_zero w _ (λ j l. zero-mul (2 ^ j))

-- a bit is set from s on if what stands there is not 0
pub some_high : (v s d : ℕ) → v < 2 ^ (s + d) → some d (λ k. has v (s + k)) ≡ ltb 0 (v / 2 ^ s)
some_high v s d h =
    ⊎_elim
    (λ (t : some d (λ k. has v (s + k)) ≡ true).
    let k = first d (λ k. has v (s + k)) in
    let set = first_passes d (λ k. has v (s + k)) (ltb-true k d t) in
    t ∙ sym (lt-ltb 0 (v / 2 ^ s) (⊎_elim (λ p. p) (λ (z : v / 2 ^ s ≤ 0). absurd (both_ways _ (sym (has_shift v s k) ∙ ap (λ x. has x k) (let e : v / 2 ^ s ≡ 0 = omega arith in e) ∙ has_none k) set)) (cases_lt 0 (v / 2 ^ s)))))
    (λ (f : some d (λ k. has v (s + k)) ≡ false).
    let z = zero_bits d (v / 2 ^ s) (shr_below v d s (subst (λ x. v < 2 ^ x) (add_comm s d) h)) (λ j l. has_shift v s j ∙ each_fails d (λ k. has v (s + k)) f j l) in
    f ∙ sym (le-ltb 0 (v / 2 ^ s) (omega arith)))
    (cases_Bool (some d (λ k. has v (s + k))))

-- digits of w bits, the lowest first, as one number
digits_lt : (w n : ℕ) (f : ℕ → ℕ) → ((j : ℕ) → f j < 2 ^ w) → sum n (λ j. f j * 2 ^ (w * j)) < 2 ^ (w * n)
unfolding sum
digits_lt w zero f h = rw mul-zero (omega arith)
digits_lt w (suc n) f h =
    let e : 2 ^ (w * suc n) ≡ 2 ^ w * 2 ^ (w * n) = ap (λ x. 2 ^ x) (let g : w * suc n ≡ w + w * n = omega arith in g) ∙ pow-add 2 w (w * n) in
    omega (arith, digits_lt w n f h, e, mul-le-mul_right (2 ^ (w * n)) (h n))

-- each bit of it is a bit of one of them
pub has_digits : (w n : ℕ) (f : ℕ → ℕ) (i : ℕ) → 0 < w → ((j : ℕ) → f j < 2 ^ w) → i < w * n → has (sum n (λ j. f j * 2 ^ (w * j))) i ≡ has (f (i / w)) (i % w)
unfolding sum
has_digits w zero f i p h l = absurd (omega arith)
has_digits w (suc n) f i p h l =
    let low = sum n (λ j. f j * 2 ^ (w * j)) in
    ⊎_elim
    (λ (g : i < w * n). has_low (w * n) (f n) low i g ∙ has_digits w n f i p h g)
    (λ (g : w * n ≤ i).
    let t = i - w * n in
    let at : w * n + t ≡ i = omega arith in
    let small : t < w = omega arith in
    let back : n * w + t ≡ i = omega arith in
    ap (has (f n * 2 ^ (w * n) + low)) (sym at) ∙ sym (has_shift (f n * 2 ^ (w * n) + low) (w * n) t)
    ∙ ap (λ x. has x t) (shr_high (f n) (w * n) low (digits_lt w n f h))
    ∙ ap₂ (λ x y. has (f x) y) (sym (ap (λ x. x / w) (sym back) ∙ div-mul-add n w t small)) (sym (ap (λ x. x % w) (sym back) ∙ mod-mul-add n w t small)))
    (cases_lt i (w * n))

-- the bits of the lowest digit
pub has_mod : (w v i : ℕ) → i < w → has (v % 2 ^ w) i ≡ has v i
has_mod w v i l = sym (has_low w (v / 2 ^ w) (v % 2 ^ w) i l) ∙ ap (λ x. has x i) (shr_split v w)
