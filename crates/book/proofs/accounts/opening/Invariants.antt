use Rattle.std.proofs.Common.{◌≡◌, string_bytes}
use Rattle.book.specs.Accounts.{farms_text}
use Rattle.book.proofs.accounts.opening.Given as goal

abbrev pub invariant-loop-i : goal.invariant-loop-i
invariant-loop-i l = string_bytes l.text ≡ farms_text l.i
