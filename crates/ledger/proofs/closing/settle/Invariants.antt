use Rattle.std.proofs.Common.{◌≡◌, ℕ, ◌<◌, ◌≤◌, pos, ◌-ℤ◌}
use Rattle.number.specs.Sum.{sum}
use Rattle.account.specs.Range.{account_at}
use Rattle.share.specs.Answer.{at}
use Rattle.ledger.proofs.closing.settle.Given as goal

abbrev pub invariant-loop-i : goal.invariant-loop-i
invariant-loop-i l =
    (l.total ≡ sum l.i (at l.sums)) ×
    ((k : ℕ) → k < l.i → account_at l.accounts k ≡ account_at l.initial.accounts k -ℤ pos (at l.sums k)) ×
    ((k : ℕ) → l.i ≤ k → account_at l.accounts k ≡ account_at l.initial.accounts k)
