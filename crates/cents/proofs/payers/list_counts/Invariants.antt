use Rattle.line.specs.Held.{held}
use Rattle.share.specs.Answer.{at}
use Rattle.cents.specs.Marking.{Listed}
use Rattle.cents.proofs.payers.list_counts.Given as goal

abbrev pub invariant-loop-i : goal.invariant-loop-i
invariant-loop-i l = Listed (λ i. (held l.line).uses i l.part.0) (at l.odd) l.i l.counts.items
