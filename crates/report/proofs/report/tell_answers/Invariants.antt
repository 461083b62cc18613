use Rattle.std.proofs.Common.{◌≡◌, string_bytes}
use Rattle.report.specs.Report.{answers_text}
use Rattle.report.proofs.report.tell_answers.Given as goal

abbrev pub invariant-loop-k : goal.invariant-loop-k
invariant-loop-k l = string_bytes l.text ≡ answers_text l.answers l.k
