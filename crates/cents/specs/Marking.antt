-- The users with the lowest ranks, found by a level of odd cents.
use Rattle.std.specs.Prelude.{◌≡◌, ℕ, Bool, ◌&&◌, ◌||◌, List, length, count_by, ◌==◌, nat_lt}
use Rattle.number.specs.Sum.{count}

-- how many of the first n that pass p have paid fewer odd cents than t
unfoldable pub under : ℕ → (ℕ → Bool) → (ℕ → ℕ) → ℕ → ℕ
under n p odd t = count n (λ j. p j && nat_lt (odd j) t)

-- how many of the first i that pass p have paid just t
unfoldable pub at_level : (ℕ → Bool) → (ℕ → ℕ) → ℕ → ℕ → ℕ
at_level p odd t i = count i (λ j. p j && odd j == t)

-- those that pass p and have paid fewer than t, and of those that have paid just t the first ones, so many of them as are left
unfoldable pub chosen : (ℕ → Bool) → (ℕ → ℕ) → (t left : ℕ) → ℕ → Bool
chosen p odd t left i = p i && (nat_lt (odd i) t || (odd i == t && nat_lt (at_level p odd t i) left))

-- how many of the counts that are listed are below t
abbrev pub fewer : List ℕ → ℕ → ℕ
fewer counts t = count_by (λ count. nat_lt count t) counts

-- the counts of those of the first n that pass p are listed, in any order: as many are below any t as have paid fewer
pub record Listed (p : ℕ → Bool) (odd : ℕ → ℕ) (n : ℕ) (counts : List ℕ) : Type 0 where
  pub all : length counts ≡ count n p
  pub agree : (t : ℕ) → fewer counts t ≡ under n p odd t
