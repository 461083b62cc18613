use Rattle.std.proofs.Common.{refl}
use Rattle.line.specs.Held.{held}
use Rattle.line.proofs.Rows.{row_room}
use Rattle.change.specs.Change.{marked}
use Rattle.change.proofs.Outcomes.{used_after}
use Rattle.change.proofs.Putting.{put_mark}
use Rattle.change.proofs.change.write_use.Goals as goal

pub slice_bounds-mark-end : goal.slice_bounds-mark-end
slice_bounds-mark-end c = row_room c.args.part.0 c.args.line.now.size.parts _ _ c.requires.part (rw c.row_words-width.ensures c.args.line.now.sound.room)

pub invariant_of-line : goal.invariant_of-line
invariant_of-line c =
    let line = c.args.line.now in
    let l = marked (held line) c.args.farm.0 c.args.part.0 c.args.uses in
    let mark = put_mark line.size.farms line.size.parts c.args.farm.0 c.args.part.0 c.args.uses line.words.now _ c.requires.farm c.requires.part line.sound.room line.sound.clear _ c.row_words-width.ensures c.mark.auto.row c.mark.ensures in
    record { sound = record { farms = line.sound.farms; parts = line.sound.parts; room = mark.room; clear = mark.clear; used = used_after _ _ l _ mark.line refl c.requires.used } }

pub returns : goal.returns
returns c =
    let line = c.args.line.now in
    let mark = put_mark line.size.farms line.size.parts c.args.farm.0 c.args.part.0 c.args.uses line.words.now _ c.requires.farm c.requires.part line.sound.room line.sound.clear _ c.row_words-width.ensures c.mark.auto.row c.mark.ensures in
    record { holds = mark.line; kept = record { size = refl; rest = mark.rest; lender = refl } }
