-- What memory a ledger takes, and what may stand in it.
use Rattle.std.specs.Prelude.{◌≡◌, ℕ, ◌+◌, ◌*◌, ◌<◌, ◌≤◌, true, List, length}
use Rattle.line.specs.declared.size.Size.{Size}
use Rattle.line.specs.Limits.{costs_end}
use Rattle.line.specs.Rows.{across}
use Rattle.account.specs.Range.{in_range, account_at}
use Rattle.share.specs.Answer.{at}
use Rattle.cents.specs.Limits.{counts_end}

-- the most bytes that a sheet takes: for each part its number, cost, users and whole cents, 14 bytes, and a bit for each farm; then six bytes for each farm
abbrev pub sheet_length : (n m : ℕ) → ℕ
sheet_length n m = m * (14 + across 8 n) + n * 6

-- the accounts of n farms and the cooperative's are in range
abbrev pub AccountsFit : ℕ → List ℕ → Type 0
AccountsFit n accounts = (i : ℕ) → i ≤ n → in_range (account_at accounts i) ≡ true

-- the counts of n farms are
abbrev pub CountsFit : ℕ → List ℕ → Type 0
CountsFit n odd = (i : ℕ) → i < n → at odd i < counts_end

-- the costs of m parts are
abbrev pub CostsFit : ℕ → List ℕ → Type 0
CostsFit m costs = (e : ℕ) → e < m → at costs e < costs_end

-- what is lent for a line of this size is long enough and in range
pub record LentFits (s : Size) (accounts odd costs : List ℕ) (sheet : ℕ) : Type 0 where
  pub accounts_room : s.farms < length accounts
  pub odd_room : s.farms ≤ length odd
  pub costs_room : s.parts ≤ length costs
  pub sheet_room : sheet_length s.farms s.parts ≤ sheet
  pub accounts_fit : AccountsFit s.farms accounts
  pub odd_fit : CountsFit s.farms odd
  pub costs_fit : CostsFit s.parts costs
