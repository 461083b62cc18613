use Rattle.std.proofs.Common.{ap, ◌∙◌, arith, w64, to_z}
use Rattle.std.proofs.lemmas.Int.{ints}
use Rattle.account.specs.Limits.{account_most}
use Rattle.account.proofs.Ranges.{range_ends}
use Rattle.ledger.proofs.closing.moved.Goals as goal

pub overflow_add-cast_signed : goal.overflow_add-cast_signed
unfolding account_most
overflow_add-cast_signed c = omega (arith, ints, range_ends _ c.requires.range)

pub returns : goal.returns
unfolding account_most
returns c = ap (to_z w64) c.cast_unsigned.ensures ∙ omega (arith, ints, range_ends _ c.requires.range)
