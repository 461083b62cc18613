-- What the parts of a line cost in a year.
use Rattle.std.specs.Prelude.{ℕ, ◌+◌, cond, ◌==◌}

-- c e is what part e costs
abbrev pub Costs : Type 0
Costs = ℕ → ℕ

-- costs put together, part by part
unfoldable pub together : Costs → Costs → Costs
together c d e = c e + d e

-- part e costs v, and no other part costs anything
unfoldable pub only : ℕ → ℕ → Costs
only e v f = cond (e == f) v 0
