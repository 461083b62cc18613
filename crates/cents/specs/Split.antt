-- The cost of one part split in whole cents, and who pays the odd ones.
use Rattle.std.specs.Prelude.{ℕ, ◌+◌, ◌-◌, ◌*◌, ◌/◌, ◌%◌, Bool, ◌&&◌, nat_lt}
use Rattle.number.specs.Sum.{sum, one}
use Rattle.line.specs.Line.{Line}
use Rattle.share.specs.Weight.{Weights, whole}
use Rattle.cents.specs.Rank.{rank}

-- what farm i has to pay of the cost c of part e is weight i e * c cents divided by the whole weight of the part; these are the whole ones
unfoldable pub whole_cents : Line → Weights → ℕ → ℕ → ℕ → ℕ
whole_cents l weight e c i = weight i e * c / whole l weight e

-- what farm i has to pay is no whole number of cents
unfoldable pub broken : Line → Weights → ℕ → ℕ → ℕ → Bool
broken l weight e c i = nat_lt 0 (weight i e * c % whole l weight e)

-- the cents that are left
unfoldable pub rest : Line → Weights → ℕ → ℕ → ℕ
rest l weight e c = c - sum l.farms (whole_cents l weight e c)

-- of those who have no whole number of cents to pay as many pay one cent more as cents are left: the lowest ranks
unfoldable pub pays_odd : Line → Weights → ℕ → ℕ → (ℕ → ℕ) → ℕ → Bool
pays_odd l weight e c odd i = broken l weight e c i && nat_lt (rank l.farms (broken l weight e c) odd i) (rest l weight e c)

-- 1 for who pays an odd cent, else 0
unfoldable pub odd_cent : Line → Weights → ℕ → ℕ → (ℕ → ℕ) → ℕ → ℕ
odd_cent l weight e c odd i = one (pays_odd l weight e c odd i)

-- what farm i pays of the cost c of part e, if odd j is how many odd cents farm j has paid before
unfoldable pub cents : Line → Weights → ℕ → ℕ → (ℕ → ℕ) → ℕ → ℕ
cents l weight e c odd i = whole_cents l weight e c i + odd_cent l weight e c odd i

-- how many odd cents farm i has paid then
unfoldable pub odd_after : Line → Weights → ℕ → ℕ → (ℕ → ℕ) → ℕ → ℕ
odd_after l weight e c odd i = odd i + odd_cent l weight e c odd i
