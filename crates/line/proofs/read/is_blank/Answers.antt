use Rattle.std.proofs.Common.{◌≡◌, ℕ, ◌<◌, ◌≤◌, Bool, true, false, List, length, get_or, MatchBool, ⊎_elim, arith, rules, tests}
use Rattle.std.specs.List.{HoldsAt, AllWithin}
use Rattle.std.proofs.lemmas.Iterator.{cases_from_all, YieldsList-from_slice}
use Rattle.std.proofs.lemmas.List.{get_or_past}
use Rattle.std.proofs.lemmas.Bool.{cases_lt}
use Rattle.line.proofs.read.is_blank.Goals as goal

-- what `all` answers, said of every place, also of those past the end
everywhere : (r : Bool) (xs : List ℕ) → MatchBool r (AllWithin (λ x. x ≡ 0) xs 0 (length xs)) ((k : ℕ) × (k < length xs) × HoldsAt (λ x. 0 < x) xs k) →
    MatchBool r ((k : ℕ) → get_or xs k 0 ≡ 0) ((k : ℕ) × (k < length xs) × (0 < get_or xs k 0))
everywhere true xs h = λ k. ⊎_elim (λ (l : k < length xs). h k 0 (omega arith) l) (λ (g : length xs ≤ k). get_or_past xs k 0 g) (cases_lt k (length xs))
everywhere false xs h = (h.0, h.1, h.2 0)

pub returns : goal.returns
returns c =
    everywhere _ _
    (cases_from_all _ _ _ (λ x. x ≡ 0) (λ x. 0 < x) c.all.ensures.ran (YieldsList-from_slice c.args.bytes.now cc) (λ x q k. search (rules, tests)) (λ x q k. search (rules, tests)))
