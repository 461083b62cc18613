-- For code that books: what an answer means for the state.
use Rattle.std.proofs.Common.{◌≡◌, ℕ, ◌+◌, true, false, cond, not, List, [], ◌∷◌, ◌++◌, is_some, Some, None, sym, refl, ap, ◌∙◌, add-one, arith}
use Rattle.std.proofs.lemmas.List.Sums.{fold_push}
use Rattle.line.specs.declared.refusal.Refusal.{Refusal}
use Rattle.account.specs.declared.booking.Booking.{Booking}
use Rattle.account.specs.declared.booking.Booking.TheVariants.{Cost, Payment, Closing}
use Rattle.posting.specs.State.{State}
use Rattle.posting.specs.Posting.{booked, refused, taken, post}
use Rattle.posting.specs.Run.{step, run, entry, entries}

-- a booking's place has no part in whether it is refused
taken_at : (k : ℕ) (s : State) (b : Booking) → taken s b ≡ not (is_some (refused k s b))
unfolding refused
taken_at k s (Cost p c) = grind arith
taken_at k s (Payment f c) = grind arith
taken_at k s Closing = grind arith

-- so whatever its place, where there is no refusal it is taken, and where there is one it is not
pub refused_none : (k : ℕ) (s : State) (b : Booking) → refused k s b ≡ None → taken s b ≡ true
refused_none k s b h = taken_at k s b ∙ ap (λ r. not (is_some r)) h

pub refused_some : (k : ℕ) (s : State) (b : Booking) (e : Refusal) → refused k s b ≡ Some e → taken s b ≡ false
refused_some k s b e h = taken_at k s b ∙ ap (λ r. not (is_some r)) h

-- the state after a booking that is taken, and after one that is refused
pub post_is : (s : State) (b : Booking) → taken s b ≡ true → booked s b ≡ post s b
unfolding post
post_is s b t = sym (ap (λ z. cond z (booked s b) s) t)

pub post_taken : (k : ℕ) (s : State) (b : Booking) → refused k s b ≡ None → booked s b ≡ post s b
post_taken k s b h = post_is s b (refused_none k s b h)

pub post_refused : (k : ℕ) (s : State) (b : Booking) (e : Refusal) → refused k s b ≡ Some e → s ≡ post s b
unfolding post
post_refused k s b e h = sym (ap (λ z. cond z (booked s b) s) (refused_some k s b e h))

-- the first entries of a row of bytes: none, and one more
pub entries_none : (bytes : List ℕ) → entries bytes 0 ≡ []
unfolding entries
entries_none bytes = refl

pub entries_next : (bytes : List ℕ) (k : ℕ) → entries bytes (k + 1) ≡ entries bytes k ++ (entry bytes k ∷ [])
unfolding entries
entries_next bytes k = rw add-one refl

-- the state after one more
pub run_next : (s : State) (bytes : List ℕ) (k : ℕ) → run s (entries bytes (k + 1)) ≡ step (run s (entries bytes k)) (entry bytes k)
run_next s bytes k = ap (run s) (entries_next bytes k) ∙ fold_push step s (entries bytes k) (entry bytes k)
