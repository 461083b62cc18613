-- Common divisors and common multiples of two numbers.
use Rattle.std.specs.Prelude.{◌≡◌, ℕ, ◌+◌, ◌<◌, ◌≤◌}
use Rattle.std.specs.Int.{◌∣◌}

-- d is the greatest common divisor of a and b: it divides both, and whatever divides both divides it; of 0 and 0 it is 0
pub record Greatest (a b d : ℕ) : Type 0 where
  pub left : d ∣ a
  pub right : d ∣ b
  pub greatest : (c : ℕ) → c ∣ a → c ∣ b → c ∣ d

-- m is the least common multiple of a and b: both divide it, and it divides whatever both divide; it is 0 if one of the two is 0
pub record Least (a b m : ℕ) : Type 0 where
  pub left : a ∣ m
  pub right : b ∣ m
  pub least : (c : ℕ) → a ∣ c → b ∣ c → m ∣ c

-- no common divisor is greater, unless both numbers are 0
abbrev pub NoGreater : Type 0
NoGreater = (a b d : ℕ) → Greatest a b d → 0 < a + b → (c : ℕ) → c ∣ a → c ∣ b → c ≤ d

-- no common multiple above 0 is smaller, and it is above 0 itself where both numbers are
abbrev pub NoSmaller : Type 0
NoSmaller = (a b m : ℕ) → Least a b m → ((c : ℕ) → 0 < c → a ∣ c → b ∣ c → m ≤ c) × (0 < a → 0 < b → 0 < m)

-- two numbers have at most one greatest common divisor, and at most one least common multiple
abbrev pub OnlyOne : Type 0
OnlyOne = (a b : ℕ) → ((d e : ℕ) → Greatest a b d → Greatest a b e → d ≡ e) × ((m n : ℕ) → Least a b m → Least a b n → m ≡ n)

-- two numbers always have a greatest common divisor and a least common multiple
abbrev pub AlwaysOne : Type 0
AlwaysOne = (a b : ℕ) → ((d : ℕ) × Greatest a b d) × ((m : ℕ) × Least a b m)
