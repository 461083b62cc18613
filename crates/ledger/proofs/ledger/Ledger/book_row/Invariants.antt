use Rattle.std.proofs.Common.{◌≡◌, ℕ, ◌*◌, ◌<◌, ◌≤◌, Ok, length, get_or, drop}
use Rattle.std.specs.Iterator.Adapters.{enumerate_source, enumerate_count}
use Rattle.std.specs.Slice.Iter.{chunks_exact_rest, chunks_exact_size}
use Rattle.account.specs.declared.booking.Done.TheVariants.{Booked}
use Rattle.posting.specs.Run.{run, answer, entry, entries}
use Rattle.ledger.specs.Held.{held, Left}
use Rattle.ledger.specs.Row.{answers_of}
use Rattle.ledger.proofs.ledger.Ledger.book_row.Given as goal

abbrev pub invariant-loop-k : goal.invariant-loop-k
invariant-loop-k l =
    let k = enumerate_count l.k-iterator in
    record {
      within : k * 7 ≤ length l.row;
      size : chunks_exact_size (enumerate_source l.k-iterator) ≡ 7;
      rest : chunks_exact_rest (enumerate_source l.k-iterator) ≡ drop (k * 7) l.row;
      state : held l.self ≡ run (held l.initial.self) (entries l.row k);
      each : (j : ℕ) → j < k → get_or l.answers j (Ok Booked) ≡ answer j (run (held l.initial.self) (entries l.row j)) (entry l.row j);
      past : drop (answers_of l.row) l.answers ≡ drop (answers_of l.row) l.initial.answers;
      left : Left l.initial.self l.self;
    }
