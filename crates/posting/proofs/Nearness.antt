-- What closings book is near what every fair rule has a farm pay.
use Rattle.std.proofs.Common.{List, [], ◌∷◌, refl}
use Rattle.share.specs.Weight.{AllUsed, once}
use Rattle.share.proofs.Once.{once_agree}
use Rattle.share.proofs.Weights.{once_fits_lem}
use Rattle.cents.specs.Closing.{odds, charged}
use Rattle.cents.proofs.Closing.{closing_adds_up_lem}
use Rattle.cents.proofs.Near.{cents_fair_lem}
use Rattle.cents.proofs.Split.{unused_pay_nothing_lem}
use Rattle.posting.specs.State.{State}
use Rattle.posting.specs.Run.{Entry, step}
use Rattle.posting.specs.Laws.{NearFair, AtClosings}
use Rattle.posting.proofs.Runs.{line_holds}

-- where every part has a user, a closing is near fair
near_fair : (s : State) → AllUsed s.line → NearFair s
unfolding charged
near_fair s used =
    let fits = once_fits_lem s.line used in
    record {
      total = closing_adds_up_lem s.line (once s.line) fits s.costs s.odd;
      parts = λ i. refl;
      near = λ rule fair i e ki k. cents_fair_lem s.line (once s.line) fits rule ((once_agree s.line rule).1 fair) e (s.costs e) (odds s.line (once s.line) s.costs s.odd e) i k ki;
      unused = λ i e ki k none. unused_pay_nothing_lem s.line (once s.line) fits e (s.costs e) (odds s.line (once s.line) s.costs s.odd e) i k ki none;
    }

-- and every part keeps its users
pub near_at_closings : (s : State) (row : List Entry) → AllUsed s.line → AtClosings NearFair s row
near_at_closings s [] used = tt
near_at_closings s (e ∷ row) used = (λ _ _. near_fair s used, near_at_closings (step s e) row (line_holds AllUsed s (e ∷ []) used))
