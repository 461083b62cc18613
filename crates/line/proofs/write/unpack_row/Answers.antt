use Rattle.std.proofs.Common.{◌≡◌, ◌+◌, ◌*◌, ◌/◌, ◌%◌, ◌^◌, get_or, ap, ◌∙◌, ap₂, arith}
use Rattle.std.proofs.lemmas.Nat.{and_mask}
use Rattle.line.specs.Rows.{has, in_row}
use Rattle.line.proofs.Digits.{has_shift, has_mod}
use Rattle.line.proofs.Rows.{digit_more}
use Rattle.line.proofs.write.unpack_row.Goals as goal

pub loop-k-preserved : goal.loop-k-preserved
loop-k-preserved c =
    let ws = c.args.words.now in
    let k = c.loop-k.k in
    let v = get_or ws (k / 8) 0 in
    let s = 8 * (k % 8) in
    digit_more 8 c.loop-k.bytes k _ (in_row 64 ws) (omega arith) (omega arith)
    (λ j l.
    ap (λ x. has x j) (and_mask (v / 2 ^ s) 8) ∙ has_mod 8 (v / 2 ^ s) j l ∙ has_shift v s j
    ∙ ap₂ (λ x y. has (get_or ws x 0) y) (let e : k / 8 ≡ (8 * k + j) / 64 = omega arith in e) (let e : s + j ≡ (8 * k + j) % 64 = omega arith in e))
    c.loop-k.invariant
