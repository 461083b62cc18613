-- What a fair rule is, said in whole numbers: each share stands as so many parts of 1 / scale.
use Rattle.std.specs.Prelude.{◌≡◌, ℕ, ◌+◌, ◌*◌, ◌<◌, true, cond}
use Rattle.number.specs.Sum.{sum}
use Rattle.line.specs.Line.{Line, users}
use Rattle.share.specs.Cost.{Costs, together, only}

-- rule c i is the share of farm i, times the scale
abbrev pub ScaledRule : Type 0
ScaledRule = Costs → ℕ → ℕ

-- The shares add up to the costs; costs put together are shared as they are one by one; a farm that uses no part that costs something pays nothing;
-- and where only one part costs something all who use it pay the same.
pub record FairWhole (l : Line) (scale : ℕ) (rule : ScaledRule) : Type 0 where
  pub total : (c : Costs) → sum l.farms (rule c) ≡ scale * sum l.parts c
  pub adds : (c d : Costs) (i : ℕ) → i < l.farms → rule (together c d) i ≡ rule c i + rule d i
  pub unused : (c : Costs) (i : ℕ) → i < l.farms → ((e : ℕ) → e < l.parts → l.uses i e ≡ true → c e ≡ 0) → rule c i ≡ 0
  pub equally :
      (e v i j : ℕ) → e < l.parts → i < l.farms → j < l.farms → l.uses i e ≡ true → l.uses j e ≡ true →
      rule (only e v) i ≡ rule (only e v) j

-- the number of users of each part divides the scale, and per e is what one user of part e has of it
abbrev pub AllDivide : Line → ℕ → (ℕ → ℕ) → Type 0
AllDivide l scale per = (e : ℕ) → e < l.parts → per e * users l e ≡ scale

-- each user of a part pays the same for it, and a farm pays the sum over the parts that it uses
unfoldable pub whole_rule : Line → (ℕ → ℕ) → ScaledRule
whole_rule l per c i = sum l.parts (λ e. cond (l.uses i e) (per e * c e) 0)
