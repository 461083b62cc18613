-- What is promised of the split in cents. Each is a statement; the function in src/ that names it owes its proof.
use Rattle.std.specs.Prelude.{◌≡◌, ℕ, ◌+◌, ◌-◌, ◌*◌, ◌<◌, ◌≤◌, Bool, true, false, ◌&&◌, List, nat_lt}
use Rattle.std.specs.List.{AllByRecursion}
use Rattle.number.specs.Sum.{sum, count}
use Rattle.line.specs.Line.{Line}
use Rattle.share.specs.Cost.{Costs, only}
use Rattle.share.specs.Weight.{Weights, whole, Fits}
use Rattle.share.specs.Rule.{Rule}
use Rattle.share.specs.Fair.{Fair}
use Rattle.cents.specs.Rank.{rank}
use Rattle.cents.specs.Split.{broken, rest, pays_odd, cents, odd_after}
use Rattle.cents.specs.Closing.{odds, charged}
use Rattle.cents.specs.Marking.{under, chosen}
use Rattle.cents.specs.Equal.{EqualSplit}
use Rattle.cents.specs.Near.{Near, Within}
use Rattle.cents.specs.Level.{Differ, SplitOf, odd_row, Both, Alike, own}

-- of those who pass p as many as r have a rank below r, if there are as many
abbrev pub RanksCount : Type 0
RanksCount = (n : ℕ) (p : ℕ → Bool) (odd : ℕ → ℕ) (r : ℕ) → r ≤ count n p → count n (λ i. p i && nat_lt (rank n p odd i) r) ≡ r

-- the cents of a part add up to its cost
abbrev pub CentsAddUp : Type 0
CentsAddUp =
    (l : Line) (weight : Weights) (e c : ℕ) (odd : ℕ → ℕ) → 0 < whole l weight e →
    sum l.farms (cents l weight e c odd) ≡ c

-- what a farm pays is less than one cent away from its weight times the cost over the whole weight
abbrev pub CentsNear : Type 0
CentsNear =
    (l : Line) (weight : Weights) (e c : ℕ) (odd : ℕ → ℕ) (i : ℕ) → 0 < whole l weight e →
    Near (cents l weight e c odd i) (weight i e * c) (whole l weight e)

-- so it is less than one cent away from what every fair rule has the farm pay
abbrev pub CentsFair : Type 0
CentsFair =
    (l : Line) (weight : Weights) → Fits l weight → (r : Rule) → Fair l weight r →
    (e c : ℕ) (odd : ℕ → ℕ) (i : ℕ) → e < l.parts → i < l.farms → Within (cents l weight e c odd i) (r (only e c) i)

-- who does not use a part pays nothing of it
abbrev pub UnusedPayNothing : Type 0
UnusedPayNothing =
    (l : Line) (weight : Weights) → Fits l weight →
    (e c : ℕ) (odd : ℕ → ℕ) (i : ℕ) → e < l.parts → i < l.farms → l.uses i e ≡ false → cents l weight e c odd i ≡ 0

-- as many farms pay one cent more as cents are left
abbrev pub OddCount : Type 0
OddCount =
    (l : Line) (weight : Weights) (e c : ℕ) (odd : ℕ → ℕ) → 0 < whole l weight e →
    count l.farms (pays_odd l weight e c odd) ≡ rest l weight e c

-- who pays an odd cent had paid no more of them than one who has no whole number of cents to pay either, and does not pay it
abbrev pub FewestPay : Type 0
FewestPay =
    (l : Line) (weight : Weights) (e c : ℕ) (odd : ℕ → ℕ) (i j : ℕ) → j < l.farms →
    pays_odd l weight e c odd i ≡ true → broken l weight e c j ≡ true → pays_odd l weight e c odd j ≡ false → odd i ≤ odd j

-- nor than one who counts the same and does not pay it
abbrev pub FewestAlike : Type 0
FewestAlike =
    (l : Line) (weight : Weights) (e c : ℕ) (odd : ℕ → ℕ) (i j : ℕ) → j < l.farms → weight i e ≡ weight j e →
    pays_odd l weight e c odd i ≡ true → pays_odd l weight e c odd j ≡ false → odd i ≤ odd j

-- a part that costs nothing is paid by nobody, and moves no count
abbrev pub FreePart : Type 0
FreePart =
    (l : Line) (weight : Weights) (e : ℕ) (odd : ℕ → ℕ) (i : ℕ) →
    (cents l weight e 0 odd i ≡ 0) × (odd_after l weight e 0 odd i ≡ odd i)

-- where each user counts once, a part is split equally among its users
abbrev pub EqualUsers : Type 0
EqualUsers = (l : Line) (e c : ℕ) (odd : ℕ → ℕ) (i : ℕ) → EqualSplit l e c odd i

-- if r or fewer of those who pass p have paid less than t, and r or more have paid t or less, then those below t and the first ones at t, r in all, are those with a rank below r
abbrev pub ThresholdSelects : Type 0
ThresholdSelects =
    (n : ℕ) (p : ℕ → Bool) (odd : ℕ → ℕ) (r t i : ℕ) → i < n →
    under n p odd t ≤ r → r ≤ under n p odd (t + 1) →
    (p i && nat_lt (rank n p odd i) r) ≡ chosen p odd t (r - under n p odd t) i

-- what all farms pay for a year adds up to its costs
abbrev pub ClosingAddsUp : Type 0
ClosingAddsUp =
    (l : Line) (weight : Weights) → Fits l weight → (c : Costs) (odd : ℕ → ℕ) →
    sum l.farms (λ i. charged l weight c odd i l.parts) ≡ sum l.parts c

-- two farms that count the same for every part of a row of splits, and began at most one odd cent apart, never differ by more than one
abbrev pub OddLevel : Type 0
OddLevel =
    (row : List SplitOf) (odd : ℕ → ℕ) (i j : ℕ) → AllByRecursion (Both i j) row → AllByRecursion (Alike i j) row →
    Differ 1 (odd i) (odd j) → Differ 1 (odd_row odd row i) (odd_row odd row j)

-- any two farms differ by no more than before, or one, and the odd cents of parts for which they do not count the same
abbrev pub OddGap : Type 0
OddGap =
    (row : List SplitOf) (odd : ℕ → ℕ) (i j d : ℕ) → AllByRecursion (Both i j) row → 0 < d →
    Differ d (odd i) (odd j) → Differ (d + own i j odd row) (odd_row odd row i) (odd_row odd row j)

-- and so in a year: after its first k parts, or all, two farms that count the same for each of them differ by at most one odd cent if they did before
abbrev pub ClosingLevel : Type 0
ClosingLevel =
    (l : Line) (weight : Weights) (c : Costs) (odd : ℕ → ℕ) (i j k : ℕ) → i < l.farms → j < l.farms →
    ((e : ℕ) → e < k → weight i e ≡ weight j e) → Differ 1 (odd i) (odd j) →
    Differ 1 (odds l weight c odd k i) (odds l weight c odd k j)
