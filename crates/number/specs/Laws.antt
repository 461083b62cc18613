-- Laws of sums, counts and the first number that passes a test, as statements.
use Rattle.std.specs.Prelude.{◌≡◌, ℕ, ◌+◌, ◌*◌, ◌<◌, ◌≤◌, Bool, true, false, nat_lt}
use Rattle.number.specs.Sum.{sum, count}
use Rattle.number.specs.First.{first, some}

-- the sum of f + g is the sum of f and the sum of g together
abbrev pub SumAdds : Type 0
SumAdds = (n : ℕ) (f g : ℕ → ℕ) → sum n (λ i. f i + g i) ≡ sum n f + sum n g

-- k times each term gives k times the sum
abbrev pub SumScales : Type 0
SumScales = (n k : ℕ) (f : ℕ → ℕ) → sum n (λ i. f i * k) ≡ sum n f * k

-- a table has the same sum by its rows and by its columns
abbrev pub SumSwaps : Type 0
SumSwaps = (n m : ℕ) (f : ℕ → ℕ → ℕ) → sum n (λ i. sum m (f i)) ≡ sum m (λ e. sum n (λ i. f i e))

-- terms that are at most others have a sum that is at most theirs
abbrev pub SumOrders : Type 0
SumOrders = (n : ℕ) (f g : ℕ → ℕ) → ((i : ℕ) → i < n → f i ≤ g i) → sum n f ≤ sum n g

-- the first number is at most n; whatever is below it fails the test, and it passes the test itself if it is below n
abbrev pub FirstIsFirst : Type 0
FirstIsFirst =
    (n : ℕ) (p : ℕ → Bool) →
    (first n p ≤ n) × ((k : ℕ) → k < first n p → p k ≡ false) × (first n p < n → p (first n p) ≡ true)

-- some number passes the test exactly where the count of those that pass is above 0
abbrev pub SomeCounts : Type 0
SomeCounts = (n : ℕ) (p : ℕ → Bool) → some n p ≡ nat_lt 0 (count n p)
