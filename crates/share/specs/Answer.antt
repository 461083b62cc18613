-- What the calls that compute shares answer, and what lent memory holds after.
use Rattle.std.specs.Prelude.{◌≡◌, ℕ, ◌^◌, ◌<◌, Bool, cond, List, length, take, drop, Some, None, Ok, Err, Option, Result, nat_le, nat_lt, slice_index}
use Rattle.number.specs.First.{first, some}
use Rattle.number.specs.Fraction.{◌≈◌}
use Rattle.number.specs.Reduced.{value}
use Rattle.number.specs.declared.fraction.Fraction.{Fraction as Reduced}
use Rattle.line.specs.declared.refusal.Lent.TheVariants.{Accounts, Costs as TheCosts, Sheet}
use Rattle.line.specs.declared.refusal.Refusal.{Refusal}
use Rattle.line.specs.declared.refusal.Refusal.TheVariants.{Unknown, Amount, Short}
use Rattle.line.specs.Limits.{costs_end}
use Rattle.line.specs.Line.{Line}
use Rattle.share.specs.declared.form.PartShare.{PartShare}
use Rattle.share.specs.Fair.{FairOnce}
use Rattle.share.specs.Least.{ScaleAnswer}
use Rattle.share.specs.Listed.{listed, comes_to}
use Rattle.share.specs.Rule.{Rule, the_rule}
use Rattle.share.specs.Shares.{Shares}
use Rattle.share.specs.Weight.{once}

-- the numbers of a lent row
abbrev pub at : List ℕ → ℕ → ℕ
at xs i = slice_index xs i

-- whether a cost is too large
abbrev pub too_large : List ℕ → ℕ → Bool
too_large costs e = nat_le costs_end (at costs e)

-- the first of m parts whose cost is too large is refused
unfoldable pub large_refused : ℕ → List ℕ → Option Refusal
large_refused m costs = cond (some m (too_large costs)) (Some (Amount (first m (too_large costs)))) None

-- fewer than m costs are refused
unfoldable pub few_refused : ℕ → List ℕ → Option Refusal
few_refused m costs = cond (nat_lt (length costs) m) (Some (Short TheCosts)) None

-- what is wrong with the costs of m parts: there are too few, or one is too large
unfoldable pub costs_refused : ℕ → List ℕ → Option Refusal
costs_refused m costs = cond (nat_lt (length costs) m) (Some (Short TheCosts)) (large_refused m costs)

-- shares of all farms: too few numbers are lent for them, or the costs are refused
unfoldable pub shares_refused : Line → List ℕ → ℕ → Option Refusal
shares_refused l costs lent = cond (nat_lt lent l.farms) (Some (Short Accounts)) (costs_refused l.parts costs)

-- a farm of a year: there is no such farm, or a cost is too large
unfoldable pub known_refused : Line → List ℕ → ℕ → Option Refusal
known_refused l costs i = cond (nat_le l.farms i) (Some (Unknown i)) (large_refused l.parts costs)

-- a farm's share: there are too few costs, or no such farm, or a cost is too large
unfoldable pub farm_refused : Line → List ℕ → ℕ → Option Refusal
farm_refused l costs i =
    cond (nat_lt (length costs) l.parts) (Some (Short TheCosts))
    (cond (nat_le l.farms i) (Some (Unknown i)) (large_refused l.parts costs))

-- a farm's share part by part: there are too few costs, or too few rows are lent for it, or no such farm, or a cost is too large
unfoldable pub parts_refused : Line → List ℕ → ℕ → ℕ → Option Refusal
parts_refused l costs i lent =
    cond (nat_lt (length costs) l.parts) (Some (Short TheCosts))
    (cond (nat_lt lent l.parts) (Some (Short Sheet))
    (cond (nat_le l.farms i) (Some (Unknown i)) (large_refused l.parts costs)))

-- shares over one scale: the numbers are what every fair rule gives, and all are below 2^63
pub record OverScale (l : Line) (costs before after : List ℕ) (s : ℕ) : Type 0 where
  pub shares : Shares l (at costs) s (at after)
  pub small : (i : ℕ) → i < l.farms → at after i < 2 ^ 63
  pub rest : drop l.farms after ≡ drop l.farms before

-- what the call for the shares of all farms answers, and leaves in the numbers that are lent for them: the scale, or none, where shares are given part by part
abbrev pub SharesAnswer : Line → (costs before after : List ℕ) → Result (Option ℕ) Refusal → Type 0
SharesAnswer l costs before after (Ok (Some s)) = ScaleAnswer l (at costs) (Some s) × OverScale l costs before after s
SharesAnswer l costs before after (Ok None) = ScaleAnswer l (at costs) None × (after ≡ before)
SharesAnswer l costs before after (Err e) = after ≡ before

-- a farm's share part by part: the first k rows are its parts that cost something, and what they come to is what the rule gives, and every fair rule
pub record Rows (l : Line) (costs : List ℕ) (i : ℕ) (before after : List PartShare) (k : ℕ) : Type 0 where
  pub rows : take k after ≡ listed l (at costs) i l.parts
  pub count : k ≡ length (listed l (at costs) i l.parts)
  pub share : comes_to (listed l (at costs) i l.parts) ≈ the_rule l (once l) (at costs) i
  pub fair : (rule : Rule) → FairOnce l rule → comes_to (listed l (at costs) i l.parts) ≈ rule (at costs) i
  pub rest : drop k after ≡ drop k before

-- what the call for it answers and leaves in the rows that are lent
abbrev pub PartsAnswer : Line → List ℕ → ℕ → (before after : List PartShare) → Result ℕ Refusal → Type 0
PartsAnswer l costs i before after (Ok k) = Rows l costs i before after k
PartsAnswer l costs i before after (Err e) = after ≡ before

-- a farm's share as one fraction, where the least scale is below the limit: what the rule gives, and every fair rule
abbrev pub ShareAnswer : Line → List ℕ → ℕ → Result (Option Reduced) Refusal → Type 0
ShareAnswer l costs i (Ok (Some f)) = ((s : ℕ) × ScaleAnswer l (at costs) (Some s)) × (value f ≈ the_rule l (once l) (at costs) i) × ((rule : Rule) → FairOnce l rule → value f ≈ rule (at costs) i)
ShareAnswer l costs i (Ok None) = ScaleAnswer l (at costs) None
ShareAnswer l costs i (Err e) = Unit {0}
