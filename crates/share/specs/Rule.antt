-- A rule that shares costs, and the rule of the line.
use Rattle.std.specs.Prelude.{ℕ, ◌*◌}
use Rattle.number.specs.Fraction.{Fraction, over, sumF}
use Rattle.line.specs.Line.{Line}
use Rattle.share.specs.Cost.{Costs}
use Rattle.share.specs.Weight.{Weights, whole}

-- rule c i is the share of farm i if the parts cost c: any fraction, also one below 0
abbrev pub Rule : Type 0
Rule = Costs → ℕ → Fraction

-- what farm i pays for part e: its cost, by weight among those who count for it
unfoldable pub part_share : Line → Weights → Costs → ℕ → ℕ → Fraction
part_share l weight c i e = over (weight i e * c e) (whole l weight e)

-- a farm pays the sum of what it pays for each part
unfoldable pub the_rule : Line → Weights → Rule
the_rule l weight c i = sumF l.parts (part_share l weight c i)
