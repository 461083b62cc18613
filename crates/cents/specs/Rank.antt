-- Who comes first when odd cents are paid.
use Rattle.std.specs.Prelude.{ℕ, Bool, ◌&&◌, ◌||◌, ◌==◌, nat_lt}
use Rattle.number.specs.Sum.{count}

-- farm j comes before farm i: it has paid fewer odd cents, or as many and has the lower number
unfoldable pub before : (ℕ → ℕ) → ℕ → ℕ → Bool
before odd j i = nat_lt (odd j) (odd i) || (odd j == odd i && nat_lt j i)

-- how many of the first n that pass p come before i
unfoldable pub rank : ℕ → (ℕ → Bool) → (ℕ → ℕ) → ℕ → ℕ
rank n p odd i = count n (λ j. p j && before odd j i)
