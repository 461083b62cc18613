-- What a Balance of the code stands for.
use Rattle.std.specs.Prelude.{◌≡◌, false, ℤ, Option, MatchOption}
use Rattle.account.specs.declared.balance.Balance.{Balance}
use Rattle.account.specs.Range.{in_range}

-- r is the balance z, and there is none only if an account may not stand there
abbrev pub Standing : ℤ → Option Balance → Type 0
Standing z r = MatchOption r (in_range z ≡ false) (λ b. b.cents ≡ z)
