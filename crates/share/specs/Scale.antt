-- Shares as whole numbers over one scale.
use Rattle.std.specs.Prelude.{◌≡◌, ℕ, ◌*◌, ◌<◌}
use Rattle.number.specs.Sum.{sum}
use Rattle.line.specs.Line.{Line}
use Rattle.share.specs.Cost.{Costs}
use Rattle.share.specs.Weight.{Weights, whole}

-- per e is what one of the weight of part e is of the scale; only of the parts that cost something is it asked that their weight divides the scale
pub record Scale (l : Line) (weight : Weights) (c : Costs) (scale : ℕ) (per : ℕ → ℕ) : Type 0 where
  pub positive : 0 < scale
  pub divides : (e : ℕ) → e < l.parts → 0 < c e → per e * whole l weight e ≡ scale

-- what farm i pays for the first k parts, times the scale
unfoldable pub due : Weights → (ℕ → ℕ) → Costs → ℕ → ℕ → ℕ
due weight per c i k = sum k (λ e. per e * (weight i e * c e))

-- the share of farm i, times the scale
abbrev pub scaled : Line → Weights → (ℕ → ℕ) → Costs → ℕ → ℕ
scaled l weight per c i = due weight per c i l.parts
