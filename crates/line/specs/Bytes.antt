-- A line as bytes: the numbers of farms and of parts, two bytes each, low byte first, then a row of bytes for each part.
use Rattle.std.specs.Prelude.{ℕ, ◌+◌, ◌*◌, ◌/◌, ◌%◌, List, [], ◌∷◌, ◌++◌, drop, slice_index}
use Rattle.line.specs.Line.{Line}
use Rattle.line.specs.Rows.{across, line_of, rows}

-- the number that stands in two bytes, at place k
abbrev pub two_at : List ℕ → ℕ → ℕ
two_at b k = slice_index b k + slice_index b (k + 1) * 256

-- a number in two bytes
abbrev pub two : ℕ → List ℕ
two n = n % 256 ∷ n / 256 ∷ []

-- how many bytes a line of n farms and m parts takes
abbrev pub byte_length : ℕ → ℕ → ℕ
byte_length n m = 4 + m * across 8 n

-- the line that bytes mean
unfoldable pub meant : List ℕ → Line
meant b = line_of 8 (two_at b 0) (two_at b 2) (drop 4 b)

-- the bytes of a line
unfoldable pub bytes_of : Line → List ℕ
bytes_of l = two l.farms ++ (two l.parts ++ rows 8 l)
