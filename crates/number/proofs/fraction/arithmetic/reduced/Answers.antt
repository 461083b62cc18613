use Rattle.std.proofs.Common.{inl, inr, arith}
use Rattle.number.proofs.LowestTerms.{divided_least, divided_lowest, divided_pos, divided_same}
use Rattle.number.proofs.fraction.arithmetic.reduced.Goals as goal

pub invariant_of-result : goal.invariant_of-result
invariant_of-result c =
    let common = c.wide_gcd-common.ensures in
    record {
      positive = divided_pos _ _ c.requires common.right;
      small = (c.if-least_top-lt-LIMIT.true, c.if-least_bottom-lt-LIMIT.true);
      lowest = divided_lowest _ _ _ c.requires common;
    }

pub returns-then-least_bottom-lt-LIMIT : goal.returns-then-least_bottom-lt-LIMIT
returns-then-least_bottom-lt-LIMIT c = divided_same _ _ _ c.requires c.wide_gcd-common.ensures

pub returns-else-least_top-lt-LIMIT : goal.returns-else-least_top-lt-LIMIT
returns-else-least_top-lt-LIMIT c = λ a b h k l e.
    let least = divided_least _ _ _ a b c.requires h c.wide_gcd-common.ensures e in
    elim c.else-least_top-lt-LIMIT.either [ inl w ↦ omega arith | inr w ↦ omega arith ]
