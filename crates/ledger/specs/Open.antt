-- What opening a ledger answers, and what is known of one that is open.
use Rattle.std.specs.Prelude.{◌≡◌, ℕ, ◌+◌, false, cond, ◌||◌, List, length, is_ok, Some, None, Ok, Err, Option, Result, nat_lt}
use Rattle.std.specs.Borrow.{MutBor}
use Rattle.std.specs.Option.{option_or, option_map}
use Rattle.line.specs.declared.refusal.Holder.{Holder}
use Rattle.line.specs.declared.refusal.Lent.TheVariants.{Accounts, Costs, Sheet}
use Rattle.line.specs.declared.refusal.Refusal.{Refusal}
use Rattle.line.specs.declared.refusal.Refusal.TheVariants.{Account, Short}
use Rattle.line.specs.Line.{Line}
use Rattle.line.specs.Reading.{reading, filled, and_then, Taken}
use Rattle.line.specs.declared.line.Line.{Line as TheLine}
use Rattle.line.specs.declared.size.Size.{Size}
use Rattle.share.specs.Answer.{large_refused}
use Rattle.posting.specs.Posting.{out_of_range}
use Rattle.ledger.specs.Held.{state_of, place_of}
use Rattle.ledger.specs.declared.ledger.Ledger.{Ledger}
use Rattle.ledger.specs.Room.{sheet_length, LentFits}

-- an account or a count that is lent out of range is refused where the account stands
abbrev pub holder_refusal : ℕ → Holder → Refusal
holder_refusal n whose = Account (place_of n whose) whose

-- a line of this size: who uses it has no part in what is in range
abbrev pub blank : Size → Line
blank s = record { farms = s.farms; parts = s.parts; uses = λ _ _. false }

-- what is wrong with what is lent for a line of this size: too few accounts or counts, too few costs, too few bytes for a sheet; then a cost that is too large; then an account or a count out of range
unfoldable pub lent_refused : Size → (accounts odd costs : List ℕ) → ℕ → Option Refusal
lent_refused s accounts odd costs sheet =
    cond (nat_lt (length accounts) (s.farms + 1) || nat_lt (length odd) s.farms) (Some (Short Accounts))
    (cond (nat_lt (length costs) s.parts) (Some (Short Costs))
    (cond (nat_lt sheet (sheet_length s.farms s.parts)) (Some (Short Sheet))
    (option_or (large_refused s.parts costs)
    (option_map (holder_refusal s.farms) (out_of_range (state_of (blank s) accounts odd costs))))))

-- the size, unless something is refused
abbrev pub unless_refused : Option Refusal → Size → Result Size Refusal
unless_refused (Some e) s = Err e
unless_refused None s = Ok s

-- the answer: the line's own refusals come first
unfoldable pub opening : List ℕ → ℕ → (accounts odd costs : List ℕ) → ℕ → Result Size Refusal
opening b lent accounts odd costs sheet = and_then (reading b lent) (λ s. unless_refused (lent_refused s accounts odd costs sheet) s)

-- the words after opening: the line that the bytes mean, or as they were
unfoldable pub opened_words : List ℕ → List ℕ → (accounts odd costs : List ℕ) → ℕ → List ℕ
opened_words b words accounts odd costs sheet = cond (is_ok (opening b (length words) accounts odd costs sheet)) (filled b words) words

-- what is known of a ledger that can be made: the words hold the line that the bytes mean, and all else fits it
pub record Opened (b words accounts odd costs : List ℕ) (sheet : ℕ) (s : Size) : Type 0 where
  pub line : Taken b words s
  pub lent : LentFits s accounts odd costs sheet

-- a ledger over just these loans: of the line, of accounts, counts and costs, and of the bytes for a sheet
pub record Over (l : MutBor TheLine) (a o c s : MutBor (List ℕ)) (g : Ledger) : Type 0 where
  pub line : g.line ≡ l
  pub accounts : g.accounts ≡ a
  pub odd : g.odd ≡ o
  pub costs : g.costs ≡ c
  pub sheet : g.sheet ≡ s
