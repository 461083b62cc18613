use Rattle.std.proofs.Common.{◌≡◌, ℕ, List, ◌++◌, length, take, is_ok, Some, Ok, Err, Result, String, string_bytes, sym, ap, ◌∙◌, subst, arith}
use Rattle.std.specs.Result.{result_err}
use Rattle.std.specs.declared.alloc.Global.{Global}
use Rattle.std.proofs.Math.Seq.{take-append_seam}
use Rattle.std.proofs.lemmas.Result.{err_from_is_err_and}
use Rattle.line.specs.declared.refusal.Refusal.{Refusal}
use Rattle.line.specs.declared.size.Size.{Size}
use Rattle.line.specs.Bytes.{meant}
use Rattle.line.specs.Held.{held as line_held}
use Rattle.line.specs.Limits.{most_farms, most_parts}
use Rattle.line.specs.Reading.{reading}
use Rattle.line.specs.Rows.{word_length}
use Rattle.posting.specs.Years.{empty}
use Rattle.ledger.specs.Held.{held}
use Rattle.ledger.specs.Open.{lent_refused}
use Rattle.ledger.specs.Row.{answers_of, row_refused, Done}
use Rattle.report.specs.Report.{report_text}
use Rattle.report.specs.Told.{row_text, line_answer, Told}
use Rattle.report.specs.declared.untold.Untold.{Untold}
use Rattle.report.proofs.Blank.{Blank, blank_state, blank_lent}
use Rattle.report.proofs.Booked.{never_refused, told_row}
use Rattle.report.proofs.text.text.Goals as goal

-- the refusal of a line
refused_line : (r : Result Size Refusal) (e : Refusal) → Some e ≡ result_err r → r ≡ Err e
refused_line (Ok s) e h = cc
refused_line (Err x) e h = cc

pub returns-in_err-line : goal.returns-in_err-line
unfolding most_farms most_parts
returns-in_err-line c =
    let p = err_from_is_err_and c.from_residual-in_err-line.result c.from_residual-in_err-line.ensures.1 in
    let many : length c.as_mut_slice.result.now ≡ word_length most_farms most_parts = omega (arith, c.as_mut_slice.ensures.len, c.in_ok-words.ensures.len) in
    let is : line_answer c.args.bytes.now ≡ Err c.in_err-line.field-0.0 = refused_line _ _ (c.in_err-line.ensures.refused ∙ ap (λ n. result_err (reading c.args.bytes.now n)) many) in
    subst (Told c.args.bytes.now c.args.row.now) (sym (p.1 ∙ ap {B = Result (String Global) Untold} (λ u. Err u) p.2)) is

pub returns-in_err-ledger : goal.returns-in_err-ledger
unfolding most_farms most_parts
returns-in_err-ledger c =
    let blank : Blank c.as_mut_slice-2.result.now c.as_mut_slice-3.result.now c.as_mut_slice-4.result.now (length c.as_mut_slice-5.result.now) = record {
      accounts = c.as_mut_slice-2.ensures.value ∙ c.in_ok-accounts.ensures.items_if_clones_equal (λ _ z. z);
      odd = c.as_mut_slice-3.ensures.value ∙ c.in_ok-odd.ensures.items_if_clones_equal (λ _ z. z);
      costs = c.as_mut_slice-4.ensures.value ∙ c.in_ok-costs.ensures.items_if_clones_equal (λ _ z. z);
      sheet = omega (arith, c.as_mut_slice-5.ensures.len, c.in_ok-sheet.ensures.len, c.sheet_bytes.ensures);
    } in
    let refused : Some c.in_err-ledger.field-0.0 ≡ lent_refused c.in_ok-line.line.size c.as_mut_slice-2.result.now c.as_mut_slice-3.result.now c.as_mut_slice-4.result.now (length c.as_mut_slice-5.result.now) = c.in_err-ledger.ensures.refused in
    let no = refused ∙ blank_lent _ _ _ _ blank c.in_ok-line.line.size c.in_ok-line.line.sound.farms.1 c.in_ok-line.line.sound.parts.1 in
    absurd (cc)

pub returns-in_err-book_row : goal.returns-in_err-book_row
returns-in_err-book_row c =
    let many : length c.as_mut_slice-6.result.now ≡ answers_of c.args.row.now = omega (arith, c.as_mut_slice-6.ensures.len, c.in_ok-answers.ensures.len, c.div_ceil.ensures) in
    let refused : Some c.in_err-book_row.field-0.0 ≡ row_refused c.args.row.now (length c.as_mut_slice-6.result.now) = c.in_err-book_row.ensures.refused in
    absurd (never_refused _ _ _ (omega (arith, many)) refused)

-- the answers that were lent, when they are read again
all_of : {X : Type 0} (n : ℕ) (xs ys : List X) → n ≡ length xs → take n (xs ++ ys) ≡ xs
all_of n xs ys e = ap (λ k. take k (xs ++ ys)) e ∙ take-append_seam xs ys

pub returns : goal.returns
unfolding most_farms most_parts
returns c =
    let b = c.args.bytes.now in
    let row = c.args.row.now in
    let g = c.in_ok-ledger.ledger in
    let line = c.in_ok-line.line in
    let words : length c.as_mut_slice.result.now ≡ word_length most_farms most_parts = omega (arith, c.as_mut_slice.ensures.len, c.in_ok-words.ensures.len) in
    let blank : Blank c.as_mut_slice-2.result.now c.as_mut_slice-3.result.now c.as_mut_slice-4.result.now (length c.as_mut_slice-5.result.now) = record {
      accounts = c.as_mut_slice-2.ensures.value ∙ c.in_ok-accounts.ensures.items_if_clones_equal (λ _ z. z);
      odd = c.as_mut_slice-3.ensures.value ∙ c.in_ok-odd.ensures.items_if_clones_equal (λ _ z. z);
      costs = c.as_mut_slice-4.ensures.value ∙ c.in_ok-costs.ensures.items_if_clones_equal (λ _ z. z);
      sheet = omega (arith, c.as_mut_slice-5.ensures.len, c.in_ok-sheet.ensures.len, c.sheet_bytes.ensures);
    } in
    let many : length c.as_mut_slice-6.result.now ≡ answers_of row = omega (arith, c.as_mut_slice-6.ensures.len, c.in_ok-answers.ensures.len, c.div_ceil.ensures) in
    let size : reading b (length c.as_mut_slice.result.now) ≡ Ok line.size = c.in_ok-line.ensures.taken.size in
    let state : held g ≡ empty (meant b) = c.in_ok-ledger.ensures.state ∙ blank_state _ _ _ _ blank (line_held line) ∙ ap empty c.in_ok-line.ensures.taken.same in
    let done : Done (held g) row c.as_mut_slice-6.result.now (held c.book_row.new.self) c.book_row.new.answers = c.in_ok-book_row.ensures.row in
    let answers : c.as_slice.result.now ≡ c.book_row.new.answers = c.as_slice.ensures.value ∙ all_of _ c.book_row.new.answers _ (omega (arith, c.book_row.auto.answers, c.as_mut_slice-6.ensures.len)) in
    let text : string_bytes c.in_ok-report.field-0 ≡ report_text c.as_slice.result.now (held c.book_row.new.self) = c.in_ok-report.ensures in (
      ap is_ok (sym (ap (reading b) words) ∙ size),
      text ∙ ap (λ xs. report_text xs (held c.book_row.new.self)) answers ∙ told_row _ _ row _ _ done (c.book_row.auto.answers ∙ many) ∙ ap (λ s. row_text s row) state,
    )
