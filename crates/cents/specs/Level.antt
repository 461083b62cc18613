-- How far two farms differ in odd cents. These are definitions: nothing is assumed.
use Rattle.std.specs.Prelude.{◌≡◌, ℕ, ◌+◌, ◌<◌, ◌≤◌, cond, List, [], ◌∷◌, ◌==◌}
use Rattle.line.specs.Line.{Line}
use Rattle.share.specs.Weight.{Weights}
use Rattle.cents.specs.Split.{odd_cent, odd_after}

-- two numbers differ by d at most
pub record Differ (d a b : ℕ) : Type 0 where
  pub low : a ≤ b + d
  pub high : b ≤ a + d

-- one split: of which line, by which weights, which part and what it costs; a line and its weights may change from split to split
pub record SplitOf : Type 0 where
  pub line : Line
  pub weight : Weights
  pub part : ℕ
  pub cost : ℕ

-- how many odd cents each farm has paid after one split
abbrev pub odd_next : (ℕ → ℕ) → SplitOf → ℕ → ℕ
odd_next odd s = odd_after s.line s.weight s.part s.cost odd

-- and after a row of them
unfoldable pub odd_row : (ℕ → ℕ) → List SplitOf → ℕ → ℕ
odd_row odd [] = odd
odd_row odd (s ∷ row) = odd_row (odd_next odd s) row

-- i and j are farms of the line
pub record Both (i j : ℕ) (s : SplitOf) : Type 0 where
  pub first : i < s.line.farms
  pub second : j < s.line.farms

-- i and j count the same for the part
abbrev pub Alike : ℕ → ℕ → SplitOf → Type 0
Alike i j s = s.weight i s.part ≡ s.weight j s.part

-- the odd cents that i and j pay for a part for which they do not count the same
unfoldable pub own_now : ℕ → ℕ → (ℕ → ℕ) → SplitOf → ℕ
own_now i j odd s =
    cond (s.weight i s.part == s.weight j s.part) 0
    (odd_cent s.line s.weight s.part s.cost odd i + odd_cent s.line s.weight s.part s.cost odd j)

-- and for all such parts of a row
unfoldable pub own : ℕ → ℕ → (ℕ → ℕ) → List SplitOf → ℕ
own i j odd [] = 0
own i j odd (s ∷ row) = own_now i j odd s + own i j (odd_next odd s) row
