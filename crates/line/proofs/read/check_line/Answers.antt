use Rattle.std.proofs.Common.{◌≡◌, ℕ, ◌-◌, ◌<◌, ◌≤◌, Bool, List, length, take, drop, Option, Some, None, Err, Result, sym, ap, ◌∙◌, arith, rules}
use Rattle.std.proofs.lemmas.List.{take_rest}
use Rattle.std.proofs.lemmas.Result.{err_from_is_err_and}
use Rattle.std.proofs.lemmas.Bool.Decides.{nat_tests}
use Rattle.number.specs.First.{found}
use Rattle.number.proofs.Positions.{found_none}
use Rattle.line.specs.declared.refusal.Refusal.{Refusal}
use Rattle.line.specs.declared.size.Size.{Size}
use Rattle.line.specs.Reading.{part_faulty}
use Rattle.line.proofs.Answering.{reading_err, reading_ok, fitting_fault, fitting_short, fitting_ok}
use Rattle.line.proofs.Sizing.{Measured, measured, rows_long}
use Rattle.line.proofs.read.check_line.Goals as goal

pub returns-in_err-size : goal.returns-in_err-size
returns-in_err-size c =
    let p = err_from_is_err_and c.from_residual.result c.from_residual.ensures.1 in
    let is = reading_err c.args.bytes.now c.args.lent _ (sym c.in_err-size.ensures) in
    p.1 ∙ ap {B = Result Size Refusal} (λ x. Err x) p.2 ∙ sym is

-- what the bytes tell
told : (c : goal.In_ok-size) → Measured c.args.bytes.now c.in_ok-size.size
told c = measured c.args.bytes.now c.in_ok-size.size (sym c.in_ok-size.ensures)

-- the rows are what comes after four bytes
pub slice_bounds-first_faulty-count : goal.slice_bounds-first_faulty-count
slice_bounds-first_faulty-count c = omega (arith, (told c).whole)

pub slice_bounds-first_faulty-start : goal.slice_bounds-first_faulty-start
slice_bounds-first_faulty-start c = let h : 4 ≤ length c.args.bytes.now = omega (arith, (told c).whole) in search rules

pub first_faulty-requires : goal.first_faulty-requires
first_faulty-requires c = let d = measured _ _ (sym c.in_ok-size.ensures) in record { some = d.farms.0; whole = rows_long _ _ d }

-- the first faulty part of the rows
fault : (b : List ℕ) (s : Size) (r : Option ℕ) → r ≡ found s.parts (part_faulty s.farms (take (length b - 4) (drop 4 b))) → found s.parts (part_faulty s.farms (drop 4 b)) ≡ r
fault b s r h = sym (h ∙ ap (λ (xs : List ℕ). found s.parts (part_faulty s.farms xs)) (take_rest b 4))

-- a part that was found is one of the line's
below : (n : ℕ) (p : ℕ → Bool) (k : ℕ) → found n p ≡ Some k → k < n
below n p k h = grind (arith, nat_tests)

pub returns-in-Some : goal.returns-in-Some
returns-in-Some c =
    let b = c.args.bytes.now in
    let s = c.in_ok-size.size in
    let is : c.first_faulty.result ≡ Some c.in-Some.part = grind arith in
    sym (reading_ok b c.args.lent s (sym c.in_ok-size.ensures) ∙ fitting_fault (drop 4 b) _ s c.in-Some.part (fault b s _ c.first_faulty.ensures ∙ is))

pub returns-then-lent-words : goal.returns-then-lent-words
returns-then-lent-words c =
    let b = c.args.bytes.now in
    let s = c.in_ok-size.size in
    let is : c.first_faulty.result ≡ None = grind (arith, below) in
    sym (reading_ok b c.args.lent s (sym c.in_ok-size.ensures) ∙ fitting_short (drop 4 b) _ s (found_none _ _ (fault b s _ c.first_faulty.ensures ∙ is)) (omega arith))

pub returns : goal.returns
returns c =
    let b = c.args.bytes.now in
    let s = c.in_ok-size.size in
    let is : c.first_faulty.result ≡ None = grind (arith, below) in
    sym (reading_ok b c.args.lent s (sym c.in_ok-size.ensures) ∙ fitting_ok (drop 4 b) _ s (found_none _ _ (fault b s _ c.first_faulty.ensures ∙ is)) (omega arith))
