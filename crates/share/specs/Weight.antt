-- How much a farm counts for a part. Who uses a part is another thing, and the line says it.
use Rattle.std.specs.Prelude.{◌≡◌, ℕ, ◌<◌, false}
use Rattle.number.specs.Sum.{sum, one}
use Rattle.line.specs.Line.{Line, users}

-- weight i e is how much farm i counts for part e
abbrev pub Weights : Type 0
Weights = ℕ → ℕ → ℕ

-- how much all farms together count for part e
unfoldable pub whole : Line → Weights → ℕ → ℕ
whole l weight e = sum l.farms (λ i. weight i e)

-- weights fit a line if who does not use a part counts 0 for it, and for each part somebody counts; a user may count 0, as one whose meter reads 0
pub record Fits (l : Line) (weight : Weights) : Type 0 where
  pub unused : (i e : ℕ) → i < l.farms → e < l.parts → l.uses i e ≡ false → weight i e ≡ 0
  pub counted : (e : ℕ) → e < l.parts → 0 < whole l weight e

-- each user of a part counts once
abbrev pub once : Line → Weights
once l i e = one (l.uses i e)

-- each part has a user
abbrev pub AllUsed : Line → Type 0
AllUsed l = (e : ℕ) → e < l.parts → 0 < users l e
