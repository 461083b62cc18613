use Rattle.std.proofs.Common.{ℕ, ◌^◌, ◌<◌, ◌≤◌, Some, None, Option, sym, subst, arith, MatchOption}
use native.Mathlib.Nat.{pos_of_dvd_of_pos}
use Rattle.std.specs.Option.{SomeIff}
use Rattle.number.specs.Divisors.{Least}
use Rattle.number.proofs.Euclid.{least_zero, least_from, only_one}
use Rattle.number.proofs.divisors.lcm.Goals as goal

-- a product that is the least common multiple, where it fits
where_it_fits : (a b m : ℕ) (o : Option ℕ) → Least a b m → SomeIff o (m < 2 ^ 64) m → MatchOption o ((n : ℕ) → Least a b n → 2 ^ 64 ≤ n) (Least a b)
where_it_fits a b m None h over = λ n k. omega (arith, (only_one a b).1 m n h k)
where_it_fits a b m (Some x) h same = subst (Least a b) (sym same.1) h

pub nonzero_div-a : goal.nonzero_div-a
nonzero_div-a c = pos_of_dvd_of_pos c.gcd.ensures.left (omega arith)

pub returns-then-a-eq0 : goal.returns-then-a-eq0
returns-then-a-eq0 c = rw c.if-a-eq0.true (least_zero _)

pub returns-else-a-eq0 : goal.returns-else-a-eq0
returns-else-a-eq0 c = where_it_fits _ _ _ _ (least_from _ _ _ (omega arith) c.gcd.ensures) c.checked_mul.ensures
