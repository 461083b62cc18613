use Rattle.std.proofs.lemmas.Cmp.{ranked}
use Rattle.number.proofs.Reduced.{ordered}
use Rattle.number.proofs.fraction.order.FractionOrd.cmp.Goals as goal

pub returns-clause-ordered : goal.returns-clause-ordered
returns-clause-ordered c = ordered _ _ _ _ c.cmp.result c.args.self.now.positive c.args.other.now.positive (ranked _ _ _ c.cmp.ensures)
