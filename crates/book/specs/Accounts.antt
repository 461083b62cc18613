-- What is told of the accounts before anything is booked.
use Rattle.std.specs.Prelude.{◌≡◌, ℕ, zero, suc, true, List, [], ◌++◌, is_ok, Ok, Err, string_bytes, codes, decimal, Result, String}
use Rattle.std.specs.declared.alloc.Global.{Global}
use Rattle.book.specs.declared.trouble.Trouble.{Trouble}
use Rattle.book.specs.declared.trouble.Trouble.TheVariants.{Refused, Memory}
use Rattle.line.specs.Bytes.{meant}
use Rattle.line.specs.Limits.{most_farms, most_parts}
use Rattle.line.specs.Reading.{reading}
use Rattle.line.specs.Rows.{word_length}

-- what tells the accounts of the first n farms
unfoldable pub farms_text : ℕ → List ℕ
farms_text zero = []
farms_text (suc n) = farms_text n ++ (codes "farm " ++ (decimal n ++ codes " 0\n"))

-- and then the cooperative's
abbrev pub opening_text : ℕ → List ℕ
opening_text n = farms_text n ++ codes "cooperative 0\n"

-- the answer to the bytes of a line, where words for the largest line are at hand: the accounts of the line that they mean, or the refusal;
-- but for these only memory can be missing
abbrev pub Told : List ℕ → Result (String Global) Trouble → Type 0
Told b (Ok t) = (is_ok (reading b (word_length most_farms most_parts)) ≡ true) × (string_bytes t ≡ opening_text (meant b).farms)
Told b (Err (Refused e)) = reading b (word_length most_farms most_parts) ≡ Err e
Told b (Err Memory) = Unit {0}
Told b (Err _) = ⊥
