-- Numbers of four bytes, low byte first.
use Rattle.std.specs.Prelude.{ℕ, ◌+◌, ◌*◌, ◌/◌, ◌%◌, List, ◌++◌}
use Rattle.line.specs.Bytes.{two_at, two}

-- the number that stands in four bytes at place k
abbrev pub four_at : List ℕ → ℕ → ℕ
four_at b k = two_at b k + two_at b (k + 2) * 65536

-- a number in four bytes
abbrev pub four : ℕ → List ℕ
four n = two (n % 65536) ++ two (n / 65536)
