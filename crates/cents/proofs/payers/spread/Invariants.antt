use Rattle.std.proofs.Common.{ℕ, ◌<◌, ◌≤◌}
use Rattle.share.specs.Answer.{at}
use Rattle.cents.proofs.payers.spread.Given as goal

abbrev pub invariant-loop-count : goal.invariant-loop-count
invariant-loop-count l = ((j : ℕ) → j < l.count-index → l.least ≤ at l.counts j) × ((j : ℕ) → j < l.count-index → at l.counts j ≤ l.most)
