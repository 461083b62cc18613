-- The state of a cooperative's ledger. The functions speak of farms and parts by their numbers.
use Rattle.std.specs.Prelude.{ℕ, ℤ}
use Rattle.line.specs.Line.{Line}
use Rattle.share.specs.Cost.{Costs}

-- the line; each farm's account and the cooperative's, in cents; what each part has cost since the last closing; how many odd cents each farm has paid
pub record State : Type 0 where
  pub line : Line
  pub accounts : ℕ → ℤ
  pub cooperative : ℤ
  pub costs : Costs
  pub odd : ℕ → ℕ
