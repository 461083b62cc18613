-- The line that a Line over lent words holds.
use Rattle.std.specs.Prelude.{◌≡◌, ℕ, List, length, Ok}
use Rattle.line.specs.declared.line.Line.{Line as Over}
use Rattle.line.specs.Line.{Line}
use Rattle.line.specs.Bytes.{meant, bytes_of}
use Rattle.line.specs.Reading.{reading, filled}
use Rattle.line.specs.Rows.{line_of}

abbrev pub held : Over → Line
held l = line_of 64 l.size.farms l.size.parts l.words.now

-- what is known of a line that was read from bytes into words: its size and words are what reading answers and leaves, it holds the line that the bytes mean, and writing it gives the same bytes
pub record HasRead (b before : List ℕ) (l : Over) : Type 0 where
  pub size : reading b (length before) ≡ Ok l.size
  pub words : l.words.now ≡ filled b before
  pub same : held l ≡ meant b
  pub back : bytes_of (held l) ≡ b
