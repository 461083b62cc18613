-- The costs of a year split: parts by their numbers, each with the odd cents that the parts before it left.
use Rattle.std.specs.Prelude.{ℕ, zero, suc}
use Rattle.number.specs.Sum.{sum}
use Rattle.line.specs.Line.{Line}
use Rattle.share.specs.Cost.{Costs}
use Rattle.share.specs.Weight.{Weights}
use Rattle.cents.specs.Split.{cents, odd_after}

-- how many odd cents farm i has paid after the first k parts
unfoldable pub odds : Line → Weights → Costs → (ℕ → ℕ) → ℕ → ℕ → ℕ
odds l weight c odd zero i = odd i
odds l weight c odd (suc k) i = odd_after l weight k (c k) (odds l weight c odd k) i

-- what farm i pays for the first k parts
unfoldable pub charged : Line → Weights → Costs → (ℕ → ℕ) → ℕ → ℕ → ℕ
charged l weight c odd i k = sum k (λ e. cents l weight e (c e) (odds l weight c odd e) i)
