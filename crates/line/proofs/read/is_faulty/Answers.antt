use Rattle.std.proofs.Common.{not, ◌||◌, sym, ap, ◌∙◌}
use Rattle.std.proofs.lemmas.Bool.{lt-ltb, le-ltb}
use Rattle.number.specs.First.{some}
use Rattle.line.specs.Rows.{in_row}
use Rattle.line.proofs.Faults.{stray_top, blank_row}
use Rattle.line.proofs.read.is_faulty.Goals as goal

pub returns-then-last-farms-gt1 : goal.returns-then-last-farms-gt1
returns-then-last-farms-gt1 c =
    let yes = lt-ltb _ _ c.if-last-farms-gt1.true in
    yes ∙ sym (ap (λ x. x || not (some c.args.farms (in_row 8 c.args.bytes.now))) (stray_top c.args.farms c.args.bytes.now c.requires.some c.requires.whole (c.type_inv.bytes _).fits ∙ yes))

pub returns-else-last-farms-gt1 : goal.returns-else-last-farms-gt1
returns-else-last-farms-gt1 c =
    blank_row c.args.farms c.args.bytes.now c.is_blank.result c.requires.whole (λ k. (c.type_inv.bytes k).fits)
    (stray_top c.args.farms c.args.bytes.now c.requires.some c.requires.whole (c.type_inv.bytes _).fits ∙ le-ltb _ _ c.if-last-farms-gt1.false) c.is_blank.ensures
