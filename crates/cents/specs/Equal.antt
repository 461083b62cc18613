-- The split where each user counts once. These are definitions: nothing is assumed.
use Rattle.std.specs.Prelude.{◌≡◌, ℕ, ◌/◌, ◌%◌, ◌<◌, cond, ◌&&◌, nat_lt}
use Rattle.number.specs.Sum.{count}
use Rattle.line.specs.Line.{Line, users}
use Rattle.share.specs.Weight.{once}
use Rattle.cents.specs.Rank.{rank}
use Rattle.cents.specs.Split.{whole_cents, rest, pays_odd}

-- each user pays the whole cents of the cost over the number of users, and the users with the lowest ranks among all users pay one more; if the part has a user, just as many pay it as cents are left
pub record EqualSplit (l : Line) (e c : ℕ) (odd : ℕ → ℕ) (i : ℕ) : Type 0 where
  pub each : whole_cents l (once l) e c i ≡ cond (l.uses i e) (c / users l e) 0
  pub left : rest l (once l) e c ≡ c % users l e
  pub who : pays_odd l (once l) e c odd i ≡ (l.uses i e && nat_lt (rank l.farms (λ j. l.uses j e) odd i) (c % users l e))
  pub many : 0 < users l e → count l.farms (pays_odd l (once l) e c odd) ≡ c % users l e
