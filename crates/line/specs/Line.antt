-- A line: farms, parts, and who uses which part. There is no bound on the numbers of farms and parts.
use Rattle.std.specs.Prelude.{ℕ, Bool}
use Rattle.number.specs.Sum.{count}

-- farms and parts go by their numbers, from 0; uses i e says whether farm i uses part e
pub record Line : Type 0 where
  pub farms : ℕ
  pub parts : ℕ
  pub uses : ℕ → ℕ → Bool

-- how many farms use part e
unfoldable pub users : Line → ℕ → ℕ
users l e = count l.farms (λ i. l.uses i e)
