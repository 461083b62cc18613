use Rattle.number.proofs.Crosswise.{over_sum}
use Rattle.number.proofs.Fractions.{same_sym}
use Rattle.number.proofs.Reduced.{fitting_same}
use Rattle.number.proofs.fraction.Fraction.add.Goals as goal

pub returns : goal.returns
returns c = fitting_same _ _ _ (same_sym (over_sum _ _ _ _ c.args.self.positive c.args.other.positive)) c.reduced.ensures
