use Rattle.std.proofs.Common.{◌≡◌, ◌++◌, string_bytes}
use Rattle.ledger.specs.Held.{held}
use Rattle.report.specs.Report.{accounts_text}
use Rattle.report.proofs.report.push_accounts.Given as goal

abbrev pub invariant-loop-i : goal.invariant-loop-i
invariant-loop-i l = string_bytes l.text ≡ string_bytes l.initial.text ++ accounts_text (held l.ledger) l.i
