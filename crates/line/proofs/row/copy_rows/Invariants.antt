use Rattle.std.proofs.Common.{◌≡◌, ℕ, ◌*◌, ◌<◌, drop}
use Rattle.line.specs.Rows.{row}
use Rattle.line.proofs.row.copy_rows.Given as goal

-- the rows so far are copied, and what comes after them is as it was
abbrev pub invariant-loop-e : goal.invariant-loop-e
invariant-loop-e g l =
    ((d : ℕ) → d < l.e → (x : _) × (y : _) × (z : _) × goal.F-post g l.copy x y tt z × (x.now ≡ row l.from_width l.from d) × (z.now ≡ row l.to_width l.to d))
    × (drop (l.e * l.to_width) l.to ≡ drop (l.e * l.to_width) l.initial.to)
