-- How large things may become. The proofs stay as they are where the numbers of farms and parts are raised, as long as two bytes hold them.
use Rattle.std.specs.Prelude.{ℕ, ◌<◌, ◌≤◌, Bool, ◌&&◌, nat_le, nat_lt}

-- the most farms that a line has
unfoldable pub most_farms : ℕ
most_farms = 400

-- the most parts that a line has
unfoldable pub most_parts : ℕ
most_parts = 900

-- a part's costs of a year stay below this many cents
unfoldable pub costs_end : ℕ
costs_end = 1000000000000

-- there is at least one, and at most so many
abbrev pub Within : ℕ → ℕ → Type 0
Within most n = (0 < n) × (n ≤ most)

-- the same as a test
abbrev pub within : ℕ → ℕ → Bool
within most n = nat_lt 0 n && nat_le n most
