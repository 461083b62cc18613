-- A line as rows of bits. Each part has a row with a bit for each farm, kept in whole digits of w bits: bytes, of 8 bits, or words, of 64.
-- Farm i is bit i modulo w of digit i / w.
use Rattle.std.specs.Prelude.{◌≡◌, ℕ, ◌+◌, ◌-◌, ◌*◌, ◌/◌, ◌%◌, ◌^◌, ◌<◌, Bool, ◌&&◌, List, map, take, drop, ◌==◌, nat_lt, slice_index}
use Rattle.std.specs.List.{range_with_len}
use Rattle.number.specs.First.{some}
use Rattle.number.specs.Sum.{sum, one}
use Rattle.line.specs.Line.{Line}

-- whether bit i of a number is set
abbrev pub has : ℕ → ℕ → Bool
has x i = x / 2 ^ i % 2 == 1

-- whether i is in the set that a row holds
abbrev pub in_row : ℕ → List ℕ → ℕ → Bool
in_row w r i = has (slice_index r (i / w)) (i % w)

-- how many digits a row of n bits takes
abbrev pub across : ℕ → ℕ → ℕ
across w n = (n + (w - 1)) / w

-- row e, where rows of a digits each stand one after the other
abbrev pub row : {X : Type 0} → ℕ → List X → ℕ → List X
row a xs e = take a (drop (e * a) xs)

-- how many words the rows of m parts take
abbrev pub word_length : (n m : ℕ) → ℕ
word_length n m = m * across 64 n

-- whether a bit of a row is set that is no farm's: from n on, to the end of the row
abbrev pub stray : (w n : ℕ) → List ℕ → Bool
stray w n r = some (w * across w n - n) (λ k. in_row w r (n + k))

-- the line of n farms and m parts that the rows hold
abbrev pub line_of : (w n m : ℕ) → List ℕ → Line
line_of w n m xs = record { farms = n; parts = m; uses = λ i e. nat_lt i n && (nat_lt e m && in_row w (row (across w n) xs e) i) }

-- the first m rows hold the same sets: in xs by a digits of w bits, in ys by b digits of v bits
abbrev pub SameRows : (w a v b m : ℕ) → List ℕ → List ℕ → Type 0
SameRows w a v b m xs ys = (i e : ℕ) → e < m → i < w * a → in_row w (row a xs e) i ≡ in_row v (row b ys e) i

-- digit k of the row of part e
unfoldable pub digit : ℕ → Line → ℕ → ℕ → ℕ
digit w l e k = sum w (λ j. one (l.uses (w * k + j) e) * 2 ^ j)

-- the rows that hold a line, one after the other
unfoldable pub rows : ℕ → Line → List ℕ
rows w l = map (λ k. digit w l (k / across w l.farms) (k % across w l.farms)) (range_with_len 0 (l.parts * across w l.farms))
