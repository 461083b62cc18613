use Rattle.std.proofs.Common.{◌≡◌, min, map, take, drop, ◌++◌}
use Rattle.cents.specs.declared.limits.TheConstants.{COUNTS_END}
use Rattle.cents.proofs.costs.cap.Given as goal

abbrev pub invariant-loop-count : goal.invariant-loop-count
invariant-loop-count l = l.counts ≡ map (λ count. min count COUNTS_END) (take l.count-index l.initial.counts) ++ drop l.count-index l.initial.counts
