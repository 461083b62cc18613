-- Which bytes are a line, what is refused of all others, and what lent memory holds after.
use Rattle.std.specs.Prelude.{◌≡◌, ℕ, ◌≤◌, Bool, cond, not, ◌||◌, List, ◌++◌, length, drop, is_ok, Ok, Err, Result, nat_lt}
use Rattle.number.specs.First.{first, some}
use Rattle.line.specs.declared.refusal.Lent.TheVariants.{Line as TheLine}
use Rattle.line.specs.declared.refusal.Refusal.{Refusal}
use Rattle.line.specs.declared.refusal.Refusal.TheVariants.{Length, Count, Users, Short}
use Rattle.line.specs.declared.size.Size.{Size}
use Rattle.line.specs.Limits.{most_farms, most_parts, within}
use Rattle.line.specs.Line.{Line}
use Rattle.line.specs.Rows.{in_row, across, row, stray, line_of, rows, word_length}
use Rattle.line.specs.Bytes.{two_at, byte_length, meant, bytes_of}
use Rattle.line.specs.Sound.{Sound}

-- the size, if there are just the bytes that it asks for. Fewer are refused at their number, more at the first too many
abbrev pub whole : List ℕ → Size → Result Size Refusal
whole b s =
    cond (nat_lt (length b) (byte_length s.farms s.parts)) (Err (Length (length b)))
    (cond (nat_lt (byte_length s.farms s.parts) (length b)) (Err (Length (byte_length s.farms s.parts))) (Ok s))

-- The size that the first four bytes tell. Refused are, in this order: fewer than four bytes, at their number; a number of farms out of range, at 0;
-- a number of parts out of range, at 2; another number of bytes than the size asks for
unfoldable pub sizing : List ℕ → Result Size Refusal
sizing b =
    cond (nat_lt (length b) 4) (Err (Length (length b)))
    (cond (not (within most_farms (two_at b 0))) (Err (Count 0))
    (cond (not (within most_parts (two_at b 2))) (Err (Count 2))
    (whole b (record { farms = two_at b 0; parts = two_at b 2 }))))

-- a row of bytes is faulty if a bit stands that is no farm's, or if no farm's does
abbrev pub faulty : ℕ → List ℕ → Bool
faulty n r = stray 8 n r || not (some n (in_row 8 r))

-- whether the row of part e is
abbrev pub part_faulty : ℕ → List ℕ → ℕ → Bool
part_faulty n xs e = faulty n (row (across 8 n) xs e)

-- Then the first part whose row is faulty is refused, at the part, and last a lent slice that has too few words
unfoldable pub fitting : List ℕ → ℕ → Size → Result Size Refusal
fitting xs lent s =
    cond (some s.parts (part_faulty s.farms xs)) (Err (Users (first s.parts (part_faulty s.farms xs))))
    (cond (nat_lt lent (word_length s.farms s.parts)) (Err (Short TheLine)) (Ok s))

-- a size that was taken is looked at further; a refusal stays
abbrev pub and_then : Result Size Refusal → (Size → Result Size Refusal) → Result Size Refusal
and_then (Ok s) f = f s
and_then (Err e) f = Err e

-- the answer to bytes where so many words are lent
unfoldable pub reading : List ℕ → ℕ → Result Size Refusal
reading b lent = and_then (sizing b) (fitting (drop 4 b) lent)

-- xs, and after it what stood there
abbrev pub over : List ℕ → List ℕ → List ℕ
over xs ys = xs ++ drop (length xs) ys

-- the words after reading: the rows of the line that the bytes mean, or as they were
unfoldable pub filled : List ℕ → List ℕ → List ℕ
filled b words = cond (is_ok (reading b (length words))) (over (rows 64 (meant b)) words) words

-- what is known of bytes that were taken: the words hold the line that the bytes mean, and writing it gives the same bytes
pub record Taken (b words : List ℕ) (s : Size) : Type 0 where
  pub sound : Sound s.farms s.parts words
  pub same : line_of 64 s.farms s.parts words ≡ meant b
  pub back : bytes_of (meant b) ≡ b

-- the answer to writing a line where so many bytes are lent: how many it takes
unfoldable pub writing : Line → ℕ → Result ℕ Refusal
writing l lent = cond (nat_lt lent (byte_length l.farms l.parts)) (Err (Short TheLine)) (Ok (byte_length l.farms l.parts))

-- the bytes after writing
unfoldable pub written : Line → List ℕ → List ℕ
written l b = cond (is_ok (writing l (length b))) (over (bytes_of l) b) b

-- reading what was written gives the same line, wherever enough words are lent
pub record Again (l : Line) (s : Size) : Type 0 where
  pub same : meant (bytes_of l) ≡ l
  pub taken : (lent : ℕ) → word_length l.farms l.parts ≤ lent → reading (bytes_of l) lent ≡ Ok s
