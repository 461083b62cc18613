use Rattle.std.proofs.Common.{◌≡◌, ◌+◌, ◌*◌, ◌/◌, ◌<◌, length, sym, ap, subst, ◌∙◌, arith, rules, tests}
use Rattle.std.specs.Simd.{first_chunks}
use Rattle.std.proofs.lemmas.Iterator.Search.{position_from_yields_List}
use Rattle.std.proofs.lemmas.Nat.{div-mul-add}
use Rattle.number.proofs.Positions.{position_found}
use Rattle.line.specs.Reading.{faulty, part_faulty}
use Rattle.line.specs.Rows.{across}
use Rattle.line.proofs.Chunks.{chunks_length, chunks_at, YieldsList-from_chunks_exact}
use Rattle.line.proofs.read.first_faulty.Goals as goal

pub returns : goal.returns
returns c =
    let n = c.args.size.farms in
    let m = c.args.size.parts in
    let b = c.args.bytes.now in
    let w = across 8 n in
    let some : 0 < w = omega (arith, c.requires.some) in
    let whole : length b / w ≡ m = ap (λ x. x / w) (let p : length b ≡ m * w + 0 = omega (arith, c.requires.whole) in p) ∙ div-mul-add m w 0 some in
    let size : c.row_bytes.result ≡ w = c.row_bytes.ensures in
    position_from_yields_List (faulty n) _ _ _ c.position.ensures.ran (YieldsList-from_chunks_exact w b c.chunks_exact.ensures.rest (c.chunks_exact.ensures.size ∙ size) some) (λ x r q k. search (rules, tests))
    ∙ position_found (faulty n) (first_chunks w (length b / w) b) m (part_faulty n b) (chunks_length w _ b ∙ whole) (λ e d l. ap (faulty n) (chunks_at w (length b / w) b e d (subst (λ k. e < k) (sym whole) l)))
