use Rattle.cents.proofs.Equal.{equal_users_lem}
use Rattle.cents.proofs.theorems.equal_users.Goals as goal

pub returns : goal.returns
returns c = equal_users_lem
