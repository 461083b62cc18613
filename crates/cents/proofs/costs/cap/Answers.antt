use Rattle.std.proofs.Common.{min, get_or, arith}
use Rattle.std.proofs.lemmas.List.{get_or_default}
use Rattle.std.proofs.lemmas.List.Edits.{map_over_more}
use Rattle.cents.specs.declared.limits.TheConstants.{COUNTS_END}
use Rattle.cents.proofs.costs.cap.Goals as goal

pub loop-count-preserved : goal.loop-count-preserved
loop-count-preserved c =
    let loop = c.loop-count in
    rw c.min.ensures (map_over_more (λ count. min count COUNTS_END) c.args.counts.now loop.counts loop.count-index (get_or loop.counts loop.count-index 0) c.loop-count-test.true loop.invariant (get_or_default loop.counts loop.count-index 0 (get_or loop.counts loop.count-index 0) (omega arith)))
