use Rattle.std.proofs.Common.{◌≡◌}
use Rattle.line.specs.Held.{held}
use Rattle.share.specs.Answer.{at}
use Rattle.cents.proofs.Chosen.{LeftAt}
use Rattle.cents.proofs.Turns.{Halfway}
use Rattle.cents.proofs.costs.split_part.Given as goal

abbrev pub invariant-loop-i : goal.invariant-loop-i
invariant-loop-i l = record {
  rows : Halfway (held l.line) l.part.0 l.fn.cost l.initial.odd l.initial.sums l.i l.odd l.sums;
  level : l.level.count ≡ l.initial.level.count;
  left : LeftAt (λ j. (held l.line).uses j l.part.0) (at l.initial.odd) l.initial.level.count l.initial.level.left l.i l.level.left;
}
