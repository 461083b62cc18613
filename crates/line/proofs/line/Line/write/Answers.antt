use Rattle.std.proofs.Common.{◌≡◌, ℕ, ◌-◌, ◌*◌, length, drop, Ok, Result, sym, ap, ◌∙◌, arith}
use Rattle.std.proofs.lemmas.List.{length-drop, take_rest}
use Rattle.line.specs.declared.refusal.Refusal.{Refusal}
use Rattle.line.specs.Held.{held}
use Rattle.line.specs.Limits.{most_farms, most_parts}
use Rattle.line.specs.Rows.{across}
use Rattle.line.proofs.Giving.{again, two_is, headed, head_over, part_fits, writing_short, writing_ok}
use Rattle.line.proofs.Taking.{over_rows}
use Rattle.line.proofs.line.Line.write.Goals as goal

pub returns-then-bytes-end : goal.returns-then-bytes-end
returns-then-bytes-end c =
    let self = c.args.self.now in
    let short = writing_short (held self) c.args.bytes.now (omega arith) in
    record { answer = sym short.0; after = sym short.1; again = again self.size self.words.now self.sound }

pub returns : goal.returns
unfolding most_farms most_parts
returns c =
    let self = c.args.self.now in
    let n = self.size.farms in
    let m = self.size.parts in
    let b = c.args.bytes.now in
    let ys = c.unpack.new.bytes in
    let ok = writing_ok (held self) b (omega arith) in
    let head = headed n m b _ _ (omega arith) (c.copy_from_slice.ensures.after ∙ two_is n _ (omega (arith, self.sound.farms)) c.to_le_bytes.ensures) (c.copy_from_slice-2.ensures.after ∙ two_is m _ (omega (arith, self.sound.parts)) c.to_le_bytes-2.ensures) in
    let base = take_rest _ 4 ∙ ap (drop 4) head in
    let long : length ys ≡ length b - 4 = c.unpack.auto.bytes ∙ ap length base ∙ length-drop 4 b in
    let fits = part_fits 4 _ 256 _ ys (omega (arith, ap length head)) (omega arith) (λ k. (c.type_inv.bytes k).fits) in
    let rows-over =
    over_rows 8 64 n m ys self.words.now (drop 4 b) (omega arith) (omega arith) fits (omega arith) self.sound.clear c.unpack.ensures.same
    (c.unpack.ensures.rest ∙ ap (drop (m * across 8 n)) base) in
    record {
      answer = sym (ok.0 ∙ ap {B = Result ℕ Refusal} (λ k. Ok k) (sym c.bytes-end.ensures));
      after = head_over (held self) b _ ys _ (omega arith) (omega (arith, ap length head)) head rows-over ∙ sym ok.1;
      again = again self.size self.words.now self.sound;
    }
