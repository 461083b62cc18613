-- The scale over which shares are written: the least that will do.
use Rattle.std.specs.Prelude.{ℕ, ◌<◌, ◌≤◌, Option, MatchOption}
use Rattle.std.specs.Int.{◌∣◌}
use Rattle.line.specs.Line.{Line, users}
use Rattle.share.specs.Cost.{Costs}
use Rattle.share.specs.Limits.{scale_end}

-- each of the first k parts that costs something has a number of users that divides t
abbrev pub Divided : Line → Costs → ℕ → ℕ → Type 0
Divided l c k t = (e : ℕ) → e < k → 0 < c e → users l e ∣ t

-- s is the least common multiple of the numbers of users of those among the first k parts that cost something; 1 if none does
pub record LeastScale (l : Line) (c : Costs) (k s : ℕ) : Type 0 where
  pub divided : Divided l c k s
  pub least : (t : ℕ) → Divided l c k t → s ∣ t

-- the least scale of all parts, where it is below the limit, and only there
abbrev pub ScaleAnswer : Line → Costs → Option ℕ → Type 0
ScaleAnswer l c r = MatchOption r ((s : ℕ) → LeastScale l c l.parts s → scale_end ≤ s) (λ s. LeastScale l c l.parts s × (s < scale_end))
