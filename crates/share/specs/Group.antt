-- A group of farms, and what it would cost alone.
use Rattle.std.specs.Prelude.{ℕ, Bool, cond, ◌&&◌}
use Rattle.number.specs.First.{some}
use Rattle.number.specs.Fraction.{Fraction, over, sumF}
use Rattle.number.specs.Sum.{sum}
use Rattle.line.specs.Line.{Line}
use Rattle.share.specs.Cost.{Costs}

-- g i says whether farm i is in the group
abbrev pub Group : Type 0
Group = ℕ → Bool

-- a group uses a part if one of it does
unfoldable pub group_uses : Line → Group → ℕ → Bool
group_uses l g e = some l.farms (λ i. g i && l.uses i e)

-- what the parts that one of the group uses cost
unfoldable pub alone : Line → Group → Costs → ℕ
alone l g c = sum l.parts (λ e. cond (group_uses l g e) (c e) 0)

-- what the group pays if farm i pays share i
abbrev pub group_pays : Line → Group → (ℕ → Fraction) → Fraction
group_pays l g share = sumF l.farms (λ i. cond (g i) (share i) (over 0 1))

-- the same in whole numbers
abbrev pub group_sum : Line → Group → (ℕ → ℕ) → ℕ
group_sum l g v = sum l.farms (λ i. cond (g i) (v i) 0)
