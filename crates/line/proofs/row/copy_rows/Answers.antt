use Rattle.std.proofs.Common.{◌≡◌, ◌+◌, ◌-◌, ◌*◌, ◌≤◌, length, drop, ap, sym, ◌∙◌, arith, inl, inr}
use borrow.Rule.Slice.PartMut.{put_mid}
use Rattle.std.proofs.lemmas.Bool.{cases_eq}
use Rattle.std.proofs.lemmas.List.{length-take-le, length-drop}
use Rattle.line.specs.Rows.{row}
use Rattle.line.proofs.Rows.{row_room, row_put, row_kept, rest_kept}
use Rattle.line.proofs.row.copy_rows.Goals as goal

pub loop-e-preserved : goal.loop-e-preserved
loop-e-preserved g c =
    let e = c.loop-e.e in
    let a = c.args.to_width in
    let xs = c.loop-e.to in
    let r = c.copy.new.arg3 in
    let k = e * a + a - e * a in
    let room : e * a + a ≤ length xs = row_room e c.args.rows a (length xs) c.loop-e-test.true (omega (arith, c.requires.room)) in
    let all : k ≡ a = omega arith in
    let len : length r ≡ a = c.copy.auto.arg3 ∙ length-take-le k (drop (e * a) xs) (omega (arith, length-drop (e * a) xs)) ∙ all in (
      λ d l. elim (cases_eq d e) [
        | inl same ↦ (c.row_of.result, _, _, c.copy.ensures, c.row_of.ensures ∙ ap (row c.args.from_width c.args.from.now) (sym same), sym (ap (row a (put_mid (e * a) k xs r)) same ∙ row_put a e k xs r room all len))
        | inr other ↦ let so = c.loop-e.invariant.0 d (omega (arith, other)) in (so.0, so.1, so.2, so.3, so.4, so.5 ∙ sym (row_kept a e k xs r room all len d (omega (arith, other))))
      ],
      rest_kept a e k xs r room all len c.args.to.now c.loop-e.invariant.1,
    )

pub returns-clause-each : goal.returns-clause-each
returns-clause-each g c e l = c.loop-e.invariant.0 e (omega arith)
