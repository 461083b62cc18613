use Rattle.std.proofs.Common.{◌*◌, refl}
use Rattle.std.proofs.lemmas.Cmp.{ranked}
use Rattle.number.specs.Order.{crosswise}
use Rattle.number.proofs.Reduced.{ordered}
use Rattle.number.proofs.fraction.order.order_stands.Goals as goal

pub returns : goal.returns
returns c = λ x y. ordered _ _ _ _ (crosswise x y) x.positive y.positive (ranked (x.top * y.bottom) (y.top * x.bottom) _ refl)
