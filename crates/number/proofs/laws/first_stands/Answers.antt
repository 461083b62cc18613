use Rattle.number.proofs.Firsts.{first_most, first_before, first_passes, some_count}
use Rattle.number.proofs.laws.first_stands.Goals as goal

pub returns : goal.returns
returns c = (λ n p. (first_most n p, first_before n p, first_passes n p), some_count)
