-- Lowest terms.
use Rattle.std.specs.Prelude.{◌≡◌, ℕ, ◌<◌, ◌≤◌}
use Rattle.std.specs.Int.{◌∣◌}
use Rattle.number.specs.Fraction.{over, ◌≈◌}

-- the fraction a / b is in lowest terms: only 1 divides both
abbrev pub Lowest : ℕ → ℕ → Type 0
Lowest a b = (c : ℕ) → c ∣ a → c ∣ b → c ≡ 1

-- two fractions in lowest terms with the same value are the same two numbers
abbrev pub LowestUnique : Type 0
LowestUnique = (a b p q : ℕ) → 0 < b → 0 < q → Lowest a b → Lowest p q → over a b ≈ over p q → (a ≡ p) × (b ≡ q)

-- of all fractions with the same value, the one in lowest terms has the smallest numbers
abbrev pub LowestLeast : Type 0
LowestLeast = (a b p q : ℕ) → 0 < b → 0 < q → Lowest a b → over a b ≈ over p q → (a ≤ p) × (b ≤ q)

-- every fraction has lowest terms
abbrev pub LowestExists : Type 0
LowestExists = (p q : ℕ) → 0 < q → (a : ℕ) × (b : ℕ) × (0 < b) × Lowest a b × (over a b ≈ over p q)
