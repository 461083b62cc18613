-- The first number that passes a test.
use Rattle.std.specs.Prelude.{ℕ, zero, suc, Bool, cond, nat_lt, Option, Some, None}

-- the lowest number below n that passes the test p, and n if none does
unfoldable pub first : ℕ → (ℕ → Bool) → ℕ
first zero p = 0
first (suc n) p = cond (nat_lt (first n p) n) (first n p) (cond (p n) n (suc n))

-- whether some number below n passes the test p
abbrev pub some : ℕ → (ℕ → Bool) → Bool
some n p = nat_lt (first n p) n

-- the lowest number below n that passes the test p, and None if none does
abbrev pub found : ℕ → (ℕ → Bool) → Option ℕ
found n p = cond (some n p) (Some (first n p)) None
