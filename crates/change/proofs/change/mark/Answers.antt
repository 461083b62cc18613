use Rattle.std.proofs.Common.{sym, subst}
use Rattle.change.specs.Answer.{WithBit}
use Rattle.change.proofs.Marks.{set_bit, clear_bit}
use Rattle.change.proofs.change.mark.Goals as goal

pub returns-then-uses : goal.returns-then-uses
returns-then-uses c = subst (WithBit c.args.row.now _ c.args.farm.0) (sym c.if-uses.true) (set_bit c.args.row.now c.args.farm.0 c.requires)

pub returns-else-uses : goal.returns-else-uses
returns-else-uses c = subst (WithBit c.args.row.now _ c.args.farm.0) (sym c.if-uses.false) (clear_bit c.args.row.now c.args.farm.0 c.requires)
