-- What Euclid's way of taking remainders rests on, and the least common multiple that it gives.
use Rattle.std.proofs.Common.{◌≡◌, ℕ, zero, suc, ◌*◌, ◌/◌, ◌%◌, ◌<◌, sym, ap, ◌∙◌, subst, inl, inr, mod-lt, zero-lt-suc, mul_assoc, mul_comm, mul-pos, zero-mul, arith}
use Prim.Native.Nat.{◌∣◌}
use native.Mathlib.Nat.{mul-div_cancel', div-mul_cancel}
use native.Mathlib.Nat.{dvd_refl, dvd-zero, dvd-mul_left, dvd-mul_right, dvd_trans, dvd-mod_iff, dvd_antisymm, le_of_dvd, pos_of_dvd_of_pos}
use native.Mathlib.Nat.{dvd_of_mul-dvd-mul_left, mul-dvd-mul_left, mul-dvd-mul_right}
use Rattle.std.proofs.lemmas.Bool.{cases_lt}
use Rattle.number.specs.Divisors.{Greatest, Least, NoGreater, NoSmaller, OnlyOne, AlwaysOne}

-- the greatest common divisor of a number and 0 is the number
pub greatest_zero : (a : ℕ) → Greatest a 0 a
greatest_zero a = record { left = dvd_refl a; right = dvd-zero a; greatest = λ c l r. l }

-- that of b and the remainder of a by b is that of a and b
pub greatest_rest : (a b d : ℕ) → Greatest b (a % b) d → Greatest a b d
greatest_rest a b d g =
    record {
      left = (dvd-mod_iff d g.left).0 g.right;
      right = g.left;
      greatest = λ c l r. g.greatest c r ((dvd-mod_iff c r).1 l);
    }

-- remainders fall, so that it is reached from every b below n
greatest_below : (n a b : ℕ) → b < n → (d : ℕ) × Greatest a b d
greatest_below zero a b h = absurd (omega arith)
greatest_below (suc n) a zero h = (a, greatest_zero a)
greatest_below (suc n) a (suc b) h =
    let g = greatest_below n (suc b) (a % suc b) (omega (arith, mod-lt a (zero-lt-suc b))) in
    (g.0, greatest_rest a (suc b) g.0 g.1)

-- the greatest common divisor always exists
greatest_of : (a b : ℕ) → (d : ℕ) × Greatest a b d
greatest_of a b = greatest_below (suc b) a b (omega arith)

-- that of c times both numbers is c times that of the two
pub greatest_times : (a b d c : ℕ) → Greatest a b d → Greatest (c * a) (c * b) (c * d)
greatest_times a b d zero g = rw (zero-mul a, zero-mul b, zero-mul d) (greatest_zero 0)
greatest_times a b d (suc k) g =
    let c = suc k in
    let e = (greatest_of (c * a) (c * b)).0 in
    let h = (greatest_of (c * a) (c * b)).1 in
    let whole : c * (e / c) ≡ e = mul-div_cancel' c (h.greatest c (dvd-mul_right c a) (dvd-mul_right c b)) in
    let part : (x : ℕ) → e ∣ c * x → e / c ∣ x = λ x y. dvd_of_mul-dvd-mul_left (e / c) (zero-lt-suc k) (rw whole y) in
    let both = g.greatest (e / c) (part a h.left) (part b h.right) in
    let up : e ∣ c * d = subst (λ x. x ∣ c * d) whole (mul-dvd-mul_left (e / c) c both) in
    record {
      left = mul-dvd-mul_left d c g.left;
      right = mul-dvd-mul_left d c g.right;
      greatest = λ x l r. dvd_trans x (h.greatest x l r) up;
    }

-- the least common multiple of 0 and a number is 0
pub least_zero : (b : ℕ) → Least 0 b 0
least_zero b = record { left = dvd-zero 0; right = dvd-zero b; least = λ c l r. l }

-- crosswise, a and b keep their products when both are divided by a common divisor
pub divided_cross : (a b d : ℕ) → d ∣ a → d ∣ b → a / d * b ≡ a * (b / d)
divided_cross a b d l r =
    ap (λ x. a / d * x) (sym (mul-div_cancel' d r)) ∙ sym (mul_assoc (a / d) d (b / d)) ∙ ap (λ x. x * (b / d)) (div-mul_cancel d l)

-- that of a and b is a divided by the greatest common divisor, times b
pub least_from : (a b d : ℕ) → 0 < a → Greatest a b d → Least a b (a / d * b)
least_from a b d pos g =
    let k = a / d in
    let whole : d * (k * b) ≡ a * b = sym (mul_assoc d k b) ∙ ap (λ x. x * b) (mul-div_cancel' d g.left) in
    let up : (c : ℕ) → a ∣ c → b ∣ c → a * b ∣ c * d =
    λ c l r. (greatest_times a b d c g).greatest (a * b) (rw (mul_comm c a) (mul-dvd-mul_left b a r)) (mul-dvd-mul_right a l b) in
    record {
      left = rw (divided_cross a b d g.left g.right) (dvd-mul_right a (b / d));
      right = dvd-mul_left b k;
      least = λ c l r. dvd_of_mul-dvd-mul_left (k * b) (pos_of_dvd_of_pos g.left pos) (rw (whole, mul_comm d c) (up c l r));
    }

-- the least common multiple always exists
least_of : (a b : ℕ) → (m : ℕ) × Least a b m
least_of zero b = (0, least_zero b)
least_of (suc a) b =
    let g = greatest_of (suc a) b in
    (suc a / g.0 * b, least_from (suc a) b g.0 (zero-lt-suc a) g.1)

-- the greatest common divisor is above 0 if the second number is
pub greatest_pos : (a b d : ℕ) → 0 < b → Greatest a b d → 0 < d
greatest_pos a b d h g = pos_of_dvd_of_pos g.right h

-- the greatest common divisor of two numbers below n is below n
pub greatest_fits : (a b d n : ℕ) → Greatest a b d → a < n → b < n → d < n
greatest_fits zero b d n g h k = subst (λ x. x < n) (dvd_antisymm (g.greatest b (dvd-zero b) (dvd_refl b)) g.right) k
greatest_fits (suc a) b d n g h k = omega (arith, le_of_dvd (zero-lt-suc a) g.left)

-- a divisor of a number above 0 is at most that number
pub no_greater : NoGreater
no_greater a b d g pos c l r =
    let some : 0 < d = elim (cases_lt 0 a) [ inl h ↦ pos_of_dvd_of_pos g.left h | inr z ↦ pos_of_dvd_of_pos g.right (omega arith) ] in
    le_of_dvd some (g.greatest c l r)

-- so a number above 0 is at least each of its divisors
pub no_smaller : NoSmaller
no_smaller a b m h = ((λ c pos l r. le_of_dvd pos (h.least c l r)), λ p q. pos_of_dvd_of_pos (h.least (a * b) (dvd-mul_right a b) (dvd-mul_left b a)) (mul-pos p q))

-- two numbers that divide each other are equal
pub only_one : OnlyOne
only_one a b = (
  λ d e g h. dvd_antisymm (h.greatest d g.left g.right) (g.greatest e h.left h.right),
  λ m n g h. dvd_antisymm (g.least n h.left h.right) (h.least m g.left g.right),
)

-- both always exist
pub always_one : AlwaysOne
always_one a b = (greatest_of a b, least_of a b)
