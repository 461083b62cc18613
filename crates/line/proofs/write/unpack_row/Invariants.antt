use Rattle.std.proofs.Common.{◌≡◌, ℕ, ◌*◌, ◌<◌}
use Rattle.line.specs.Rows.{in_row}
use Rattle.line.proofs.write.unpack_row.Given as goal

abbrev pub invariant-loop-k : goal.invariant-loop-k
invariant-loop-k l = (i : ℕ) → i < 8 * l.k → in_row 8 l.bytes i ≡ in_row 64 l.words i
