-- What a change of a line over lent words answers, and what it leaves.
use Rattle.std.specs.Prelude.{◌≡◌, ℕ, Bool, cond, List, drop, Ok, Err, Result, ◌==◌}
use Rattle.std.specs.Result.{result_err}
use Rattle.line.specs.declared.refusal.Refusal.{Refusal}
use Rattle.line.specs.declared.line.Line.{Line as Over}
use Rattle.line.specs.Held.{held}
use Rattle.line.specs.Line.{Line}
use Rattle.line.specs.Rows.{in_row, word_length}
use Rattle.change.specs.Change.{joined, parted, join_refused, leave_refused}
use Rattle.change.specs.Theorems.{NoneRaised, NoneLowered}

-- the rows differ at most in bit i, which is x in the second
abbrev pub WithBit : (before after : List ℕ) → ℕ → Bool → Type 0
WithBit before after i x = (j : ℕ) → in_row 64 after j ≡ cond (j == i) x (in_row 64 before j)

-- in any case the size, the words past the line's, and whose words they are, stay
pub record Kept (before after : Over) : Type 0 where
  pub size : after.size ≡ before.size
  pub rest : drop (word_length before.size.farms before.size.parts) after.words.now ≡ drop (word_length before.size.farms before.size.parts) before.words.now
  pub lender : after.words.ghost_name ≡ before.words.ghost_name

-- the words hold the line l where the call is taken, and are as they were where it is refused
abbrev pub Holds : Line → (before after : Over) → Result (Unit {0}) Refusal → Type 0
Holds l before after (Ok _) = held after ≡ l
Holds l before after (Err _) = after.words.now ≡ before.words.now

-- farm i asked to use part e: what was answered, what is left, and that no other farm's exact share is more
pub record Joined (i e : ℕ) (before after : Over) (r : Result (Unit {0}) Refusal) : Type 0 where
  pub refused : result_err r ≡ join_refused (held before) i e
  pub holds : Holds (joined (held before) i e) before after r
  pub kept : Kept before after
  pub others : NoneRaised i (held before) (held after)

-- farm i asked to use part e no more: the same, and no other farm's exact share is less
pub record Parted (i e : ℕ) (before after : Over) (r : Result (Unit {0}) Refusal) : Type 0 where
  pub refused : result_err r ≡ leave_refused (held before) i e
  pub holds : Holds (parted (held before) i e) before after r
  pub kept : Kept before after
  pub others : NoneLowered i (held before) (held after)
