-- What the call that splits a year's costs answers, and what lent memory holds after.
use Rattle.std.specs.Prelude.{◌≡◌, ℕ, ◌^◌, ◌<◌, Bool, cond, ◌||◌, List, length, drop, Some, None, Ok, Err, Option, Result, nat_le, nat_lt}
use Rattle.std.specs.Option.{option_or}
use Rattle.number.specs.First.{first, some}
use Rattle.number.specs.Sum.{sum}
use Rattle.line.specs.declared.refusal.Holder.TheVariants.{Farm as OfFarm}
use Rattle.line.specs.declared.refusal.Lent.TheVariants.{Accounts}
use Rattle.line.specs.declared.refusal.Refusal.{Refusal}
use Rattle.line.specs.declared.refusal.Refusal.TheVariants.{Account, Short}
use Rattle.line.specs.Line.{Line}
use Rattle.share.specs.Answer.{at, costs_refused}
use Rattle.share.specs.Weight.{once}
use Rattle.cents.specs.Closing.{odds, charged}
use Rattle.cents.specs.Limits.{counts_end}

-- how many odd cents each farm has paid when the costs are split
abbrev pub odds_then : Line → (costs odd : List ℕ) → ℕ → ℕ
odds_then l costs odd = odds l (once l) (at costs) (at odd) l.parts

-- whether a count is too large
abbrev pub past : (ℕ → ℕ) → ℕ → Bool
past odd i = nat_le counts_end (odd i)

-- a farm's count is refused, at the farm
abbrev pub count_refusal : ℕ → Refusal
count_refusal i = Account i (OfFarm (record { 0 = i }))

-- the count of some farm would be too large, or is already, since no count falls: the first such farm's is refused
unfoldable pub counts_refused : Line → (costs odd : List ℕ) → Option Refusal
counts_refused l costs odd = cond (some l.farms (past (odds_then l costs odd))) (Some (count_refusal (first l.farms (past (odds_then l costs odd))))) None

-- too few counts or sums are lent for the farms, or the costs are refused, or a count is
unfoldable pub split_refused : Line → (costs odd : List ℕ) → ℕ → Option Refusal
split_refused l costs odd lent =
    cond (nat_lt (length odd) l.farms || nat_lt lent l.farms) (Some (Short Accounts)) (option_or (costs_refused l.parts costs) (counts_refused l costs odd))

-- the costs are split: each farm's sum is what it pays, all together are the costs, each is below 2^63, and its count is how many odd cents it has paid then; what stands behind the farms' stays
pub record Closed (l : Line) (costs odd odd' sums sums' : List ℕ) : Type 0 where
  pub cents : (i : ℕ) → i < l.farms → at sums' i ≡ charged l (once l) (at costs) (at odd) i l.parts
  pub all : sum l.farms (at sums') ≡ sum l.parts (at costs)
  pub small : (i : ℕ) → i < l.farms → at sums' i < 2 ^ 63
  pub counts : (i : ℕ) → i < l.farms → at odd' i ≡ odds_then l costs odd i
  pub cents_rest : drop l.farms sums' ≡ drop l.farms sums
  pub counts_rest : drop l.farms odd' ≡ drop l.farms odd

-- what the call leaves in the counts and the sums that are lent
abbrev pub Answered : Line → (costs odd odd' sums sums' : List ℕ) → Result (Unit {0}) Refusal → Type 0
Answered l costs odd odd' sums sums' (Ok _) = Closed l costs odd odd' sums sums'
Answered l costs odd odd' sums sums' (Err e) = (odd' ≡ odd) × (sums' ≡ sums)
