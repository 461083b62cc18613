-- The number by which bytes name the kind of a booking.
use Rattle.std.specs.Prelude.{◌≡◌, ℕ, ◌<◌, ◌⊎◌, Result, MatchResult}
use Rattle.account.specs.declared.kind.Kind.{Kind}
use Rattle.account.specs.declared.kind.Kind.TheVariants.{Cost, Payment, Closing}
use Rattle.account.specs.declared.kind.UnknownKind.{UnknownKind}

-- 1 is a cost, 2 a payment, 3 the closing
abbrev pub kind_number : Kind → ℕ
kind_number Cost = 1
kind_number Payment = 2
kind_number Closing = 3

-- r is the kind with this number, and there is none only if the number is no kind's
abbrev pub Decodes : ℕ → Result Kind UnknownKind → Type 0
Decodes n r = MatchResult r (λ kind. kind_number kind ≡ n) (λ e. (e.0 ≡ n) × ((n < 1) ⊎ (3 < n)))
