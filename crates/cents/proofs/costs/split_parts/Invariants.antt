use Rattle.line.specs.Held.{held}
use Rattle.number.proofs.Along.{Along, next_number}
use Rattle.cents.proofs.Turns.{Upto}
use Rattle.cents.proofs.costs.split_parts.Given as goal

abbrev pub invariant-loop-e : goal.invariant-loop-e
invariant-loop-e l =
    ((goal.iterator-loop-e).can_next l.e-iterator × (goal.iterator-loop-e).is_finite l.e-iterator) ×
    Along l.line.size.parts l.costs l.e-iterator ×
    Upto (held l.line) l.costs l.initial.odd l.initial.sums (next_number l.e-iterator) l.odd l.sums
