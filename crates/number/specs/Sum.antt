-- Sums and counts over the numbers below n.
use Rattle.std.specs.Prelude.{ℕ, zero, suc, ◌+◌, Bool, cond}

-- f 0 + f 1 + .. + f (n - 1)
unfoldable pub sum : ℕ → (ℕ → ℕ) → ℕ
sum zero f = 0
sum (suc n) f = f n + sum n f

-- 1 for yes, 0 for no
abbrev pub one : Bool → ℕ
one b = cond b 1 0

-- how many numbers below n pass the test p
abbrev pub count : ℕ → (ℕ → Bool) → ℕ
count n p = sum n (λ i. one (p i))
