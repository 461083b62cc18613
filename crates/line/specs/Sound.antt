-- What is always true of the words that a line is kept in.
use Rattle.std.specs.Prelude.{◌≡◌, ℕ, ◌<◌, ◌≤◌, false, List, length}
use Rattle.line.specs.Limits.{most_farms, most_parts, Within}
use Rattle.line.specs.Line.{users}
use Rattle.line.specs.Rows.{across, row, stray, line_of, word_length}

-- there is room for all rows
abbrev pub Room : (n m : ℕ) → List ℕ → Type 0
Room n m words = word_length n m ≤ length words

-- no bit stands that is no farm's
abbrev pub Clear : (n m : ℕ) → List ℕ → Type 0
Clear n m words = (e : ℕ) → e < m → stray 64 n (row (across 64 n) words e) ≡ false

-- every part has a user
abbrev pub Used : (n m : ℕ) → List ℕ → Type 0
Used n m words = (e : ℕ) → e < m → 0 < users (line_of 64 n m words) e

-- the words hold a line of n farms and m parts
pub record Sound (n m : ℕ) (words : List ℕ) : Type 0 where
  pub farms : Within most_farms n
  pub parts : Within most_parts m
  pub room : Room n m words
  pub clear : Clear n m words
  pub used : Used n m words
