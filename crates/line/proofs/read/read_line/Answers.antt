use Rattle.std.proofs.Common.{ℕ, ◌*◌, ◌^◌, ◌<◌, ◌≤◌, length, get_or, drop, Err, Result, sym, ap, ◌∙◌, arith, rules}
use Rattle.std.proofs.lemmas.List.{take_rest}
use Rattle.std.proofs.lemmas.Result.{err_from_is_err_and, IfOk-from_err}
use Rattle.line.specs.declared.refusal.Refusal.{Refusal}
use Rattle.line.specs.declared.size.Size.{Size}
use Rattle.line.specs.Reading.{over}
use Rattle.line.specs.Rows.{across, rows, SameRows}
use Rattle.line.proofs.Answering.{Fitted, fitted, filled_err, filled_ok}
use Rattle.line.proofs.Sizing.{rows_long}
use Rattle.line.proofs.Taking.{taken, over_rows, meant_is, sound_part}
use Rattle.line.proofs.read.read_line.Goals as goal

pub returns-in_err-size : goal.returns-in_err-size
returns-in_err-size c =
    let p = err_from_is_err_and c.from_residual.result c.from_residual.ensures.1 in
    let is = sym c.in_err-size.ensures in
    record {
      answer = p.1 ∙ ap {B = Result Size Refusal} (λ x. Err x) p.2 ∙ sym is;
      after = filled_err c.args.bytes.now c.args.words.now _ is;
      taken = IfOk-from_err c.from_residual.result _ c.from_residual.ensures.0;
    }

-- what the check tells
told : (c : goal.In_ok-size) → Fitted c.args.bytes.now (length c.args.words.now) c.in_ok-size.size
told c = fitted c.args.bytes.now (length c.args.words.now) c.in_ok-size.size (sym c.in_ok-size.ensures)

-- the rows are what comes after four bytes
pub slice_bounds-pack-count : goal.slice_bounds-pack-count
slice_bounds-pack-count c = omega (arith, (told c).size.whole)

pub slice_bounds-pack-start : goal.slice_bounds-pack-start
slice_bounds-pack-start c = let h : 4 ≤ length c.args.bytes.now = omega (arith, (told c).size.whole) in search rules

pub pack-requires : goal.pack-requires
pack-requires c =
    let d = fitted c.args.bytes.now (length c.args.words.now) c.in_ok-size.size (sym c.in_ok-size.ensures) in
    record { whole = omega (arith, rows_long c.args.bytes.now c.in_ok-size.size d.size); room = d.room }

pub returns : goal.returns
returns c =
    let b = c.args.bytes.now in
    let s = c.in_ok-size.size in
    let ws = c.pack.new.words in
    let n = s.farms in
    let m = s.parts in
    let is = sym c.in_ok-size.ensures in
    let d = fitted b (length c.args.words.now) s is in
    let room : m * across 64 n ≤ length ws = omega (arith, d.room) in
    let same : SameRows 64 (across 64 n) 8 (across 8 n) m ws (drop 4 b) = rw (sym (take_rest b 4)) c.pack.ensures.same in
    let fits : (k : ℕ) → get_or ws k 0 < 2 ^ 64 = (λ k. search rules) in
    record {
      answer = sym is;
      after =
          over_rows 64 8 n m ws (drop 4 b) c.args.words.now (omega arith) (omega arith) fits room (λ e h. (sound_part n _ (d.fine e h)).0) same c.pack.ensures.rest
          ∙ sym (filled_ok b c.args.words.now s is ∙ ap (λ l. over (rows 64 l) c.args.words.now) (meant_is b s d.size));
      taken = taken b ws s d.size (λ k. (c.type_inv.bytes k).fits) room same d.fine;
    }
