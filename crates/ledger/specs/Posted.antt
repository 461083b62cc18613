-- What a call that books answers, and the state that it leaves.
use Rattle.std.specs.Prelude.{◌≡◌, ℕ, Some}
use Rattle.account.specs.declared.booking.Booking.{Booking}
use Rattle.posting.specs.Posting.{post}
use Rattle.posting.specs.Run.{Answer, answer as answer_to}
use Rattle.posting.specs.State.{State}

-- booking k was posted in the state s, and led to t: refused just where it has to be, and otherwise answered by what is done
pub record Posted (k : ℕ) (s : State) (b : Booking) (t : State) (r : Answer) : Type 0 where
  pub answer : r ≡ answer_to k s (Some b)
  pub after : t ≡ post s b
