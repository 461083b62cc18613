-- How a booking is answered, and what the answer means for the state.
use Rattle.std.proofs.Common.{◌≡◌, ℕ, Some, None, Ok, Err, sym, ap, ◌∙◌}
use Rattle.line.specs.declared.refusal.Refusal.{Refusal}
use Rattle.account.specs.declared.booking.Booking.{Booking}
use Rattle.posting.specs.Posting.{booked, refused}
use Rattle.posting.specs.Run.{unless, done}
use Rattle.posting.specs.State.{State}
use Rattle.posting.proofs.Posting.{post_taken, post_refused}
use Rattle.ledger.specs.Posted.{Posted}

pub posted_not : (k : ℕ) (s : State) (b : Booking) (e : Refusal) → refused k s b ≡ Some e → Posted k s b s (Err e)
posted_not k s b e h = record { answer = sym (ap (λ r. unless r (done s b)) h); after = post_refused k s b e h }

pub posted_so : (k : ℕ) (s t : State) (b : Booking) → refused k s b ≡ None → t ≡ booked s b → Posted k s b t (Ok (done s b))
posted_so k s t b h is = record { answer = sym (ap (λ r. unless r (done s b)) h); after = is ∙ post_taken k s b h }
