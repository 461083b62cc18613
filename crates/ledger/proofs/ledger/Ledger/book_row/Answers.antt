use Rattle.std.proofs.Common.{◌≡◌, ◌+◌, ◌*◌, ◌≤◌, ◌≢◌, Ok, ◌++◌, get_or, set, length, drop, sym, refl, ap, ◌∙◌, arith, below_more}
use Rattle.std.specs.Iterator.Adapters.{enumerate_source, enumerate_count}
use Rattle.std.specs.Slice.Iter.{chunks_exact_rest, chunks_exact_size}
use Rattle.std.proofs.lemmas.List.{get_or-set_same, get_or-set_other, drop-set-lt, length-drop}
use Rattle.account.specs.declared.booking.Done.TheVariants.{Booked}
use Rattle.posting.specs.Run.{step, run, answer, entry, entries, bookings}
use Rattle.posting.proofs.Posting.{entries_none, run_next}
use Rattle.ledger.specs.Held.{held}
use Rattle.ledger.specs.Row.{answered, left_by, answers_of}
use Rattle.ledger.proofs.Cuts.{cut_inside, cut_bytes, cut_rest}
use Rattle.ledger.proofs.Lefts.{left_all, left_then}
use Rattle.ledger.proofs.Reading.{answered_entry, left_by_entry}
use Rattle.ledger.proofs.Sounds.{row_done}
use Rattle.ledger.proofs.ledger.Ledger.book_row.Goals as goal

pub loop-k-init : goal.loop-k-init
loop-k-init c =
    let it = c.into_iter-k-iterator.ensures.into_iter_gives in
    let none : enumerate_count c.into_iter-k-iterator.result ≡ 0 = ap enumerate_count it ∙ c.enumerate-k-items.ensures.count in
    let source : enumerate_source c.into_iter-k-iterator.result ≡ c.chunks_exact.result = ap enumerate_source it ∙ c.enumerate-k-items.ensures.source in
    record {
      within = omega (arith, none);
      size = ap chunks_exact_size source ∙ c.chunks_exact.ensures.size;
      rest = ap chunks_exact_rest source ∙ c.chunks_exact.ensures.rest ∙ ap (λ n. drop (n * 7) c.args.row.now) (sym none);
      state = sym (ap (λ n. run (held c.args.self.now) (entries c.args.row.now n)) none ∙ ap (run (held c.args.self.now)) (entries_none c.args.row.now));
      each = λ j h. absurd (omega (arith, none));
      past = refl;
      left = left_all c.args.self.now;
    }

pub loop-k-preserved : goal.loop-k-preserved
loop-k-preserved c =
    let s = held c.args.self.now in
    let g = c.loop-k.self in
    let row = c.args.row.now in
    let k = c.in-Some.k in
    let inv = c.loop-k.invariant in
    let next = c.in-Some.ensures.steps in
    let more : enumerate_count c.next.new.self ≡ k + 1 = omega (arith, next.1, next.2) in
    let within : k * 7 ≤ length row = omega (arith, next.1, inv.within) in
    let is : drop (k * 7) row ≡ c.in-Some.bytes.now ++ chunks_exact_rest (enumerate_source c.next.new.self) = ap (λ n. drop (n * 7) row) next.1 ∙ sym inv.rest ∙ next.0.1.0 in
    let seven = next.0.1.1 ∙ inv.size in
    let bytes = cut_bytes row c.in-Some.bytes.now _ k within is seven in
    let inside = cut_inside row c.in-Some.bytes.now _ k within is seven in
    let state : held g ≡ run s (entries row k) = inv.state ∙ ap (λ n. run s (entries row n)) (sym next.1) in
    record {
      within = omega (arith, more, inside);
      size = next.0.0 ∙ inv.size;
      rest = cut_rest row c.in-Some.bytes.now _ k within is seven ∙ ap (λ n. drop (n * 7) row) (sym more);
      state =
          c.book.ensures.after ∙ ap (left_by (held g)) bytes ∙ left_by_entry k (held g) row inside ∙ ap (λ t. step t (entry row k)) state ∙ sym (run_next s row k)
          ∙ ap (λ n. run s (entries row n)) (sym more);
      each = λ j h.
          below_more (λ j. get_or (set c.loop-k.answers k c.book.result) j (Ok Booked) ≡ answer j (run s (entries row j)) (entry row j)) k
          (λ j h. let ne : j ≢ k = omega arith in rw get_or-set_other (inv.each j (omega (arith, next.1))))
          (get_or-set_same c.loop-k.answers k _ (Ok Booked) (omega (arith, c.div_ceil.ensures, c.if-answers-div_ceil.false, inside, c.loop-k.auto.answers))
          ∙ c.book.ensures.answer ∙ ap (answered k (held g)) bytes ∙ answered_entry k (held g) row inside ∙ ap (λ t. answer k t (entry row k)) state) j (omega (arith, more));
      past = drop-set-lt (answers_of row) c.loop-k.answers k _ (omega (arith, inside)) ∙ inv.past;
      left = left_then c.args.self.now g _ inv.left c.book.ensures.left;
    }

pub returns-then-row-gt0-clause-row : goal.returns-then-row-gt0-clause-row
returns-then-row-gt0-clause-row c =
    let row = c.args.row.now in
    let inv = c.loop-k.invariant in
    let k = enumerate_count c.loop-k.k-iterator in
    let m = bookings row in
    let all : k ≡ m = omega (arith, c.in-None.ensures.steps.0.1.0, inv.size, ap length inv.rest, length-drop (k * 7) row, inv.within) in
    row_done c.args.self.now (held c.loop-k.self) row c.args.answers.now _ k all inv.state
    (λ j h. get_or-set_other c.loop-k.answers m j _ (Ok Booked) (λ e. omega (arith, all)) ∙ inv.each j h)
    (λ _. get_or-set_same c.loop-k.answers m _ (Ok Booked) (omega (arith, c.if-row-gt0.true, c.div_ceil.ensures, c.if-answers-div_ceil.false, c.loop-k.auto.answers)))
    (drop-set-lt (answers_of row) c.loop-k.answers m _ (omega (arith, c.if-row-gt0.true)) ∙ inv.past)

pub returns-else-row-gt0-clause-row : goal.returns-else-row-gt0-clause-row
returns-else-row-gt0-clause-row c =
    let row = c.args.row.now in
    let inv = c.loop-k.invariant in
    let k = enumerate_count c.loop-k.k-iterator in
    let all : k ≡ bookings row = omega (arith, c.in-None.ensures.steps.0.1.0, inv.size, ap length inv.rest, length-drop (k * 7) row, inv.within) in
    row_done c.args.self.now (held c.loop-k.self) row c.args.answers.now c.loop-k.answers k all inv.state inv.each (λ h. absurd (omega (arith, c.if-row-gt0.false))) inv.past
