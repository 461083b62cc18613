-- Costs are put together from costs of one part each. So what holds of those, and of costs put together, holds of all.
use Rattle.std.proofs.Common.{◌≡◌, ℕ, zero, suc, ◌+◌, ◌<◌, cond, ltb, sym, refl, ap, ◌∙◌, subst, add-zero, arith}
use mathlib.Core.Path.{fun_ext}
use Rattle.std.proofs.lemmas.Bool.{eq-eqb, ne_eqb, le-ltb, lt-ltb}
use Rattle.number.specs.Sum.{sum}
use Rattle.number.proofs.Sums.{sum_at}
use Rattle.share.specs.Cost.{Costs, together, only}

pub only_same : (e v : ℕ) → only e v e ≡ v
unfolding only
only_same e v = ap (λ b. cond b v 0) (eq-eqb e e refl)

pub only_other : (e v f : ℕ) → (e ≡ f → ⊥) → only e v f ≡ 0
unfolding only
only_other e v f h = ap (λ b. cond b v 0) (ne_eqb e f h)

pub sum_only : (n e v : ℕ) → e < n → sum n (only e v) ≡ v
sum_only n e v h = sum_at n e (only e v) h (λ i _ ne. only_other e v i (λ p. ne (sym p))) ∙ only_same e v

-- the costs of the parts from k on
from : ℕ → Costs → Costs
from k c e = cond (ltb e k) 0 (c e)

from_all : (c : Costs) → from 0 c ≡ c
unfolding from
from_all c = fun_ext (λ e. ap (λ b. cond b 0 (c e)) (le-ltb e 0 (omega arith)))

from_next : (k : ℕ) (c : Costs) → from k c ≡ together (only k (c k)) (from (suc k) c)
unfolding from together only
from_next k c = fun_ext (λ e. grind arith)

from_none : (k : ℕ) (c : Costs) (e : ℕ) → e < k → from k c e ≡ 0
unfolding from
from_none k c e h = ap (λ b. cond b 0 (c e)) (lt-ltb e k h)

module _ (P : Costs → Type 0) (parts : ℕ) (none : (c : Costs) → ((e : ℕ) → e < parts → c e ≡ 0) → P c)
    (one : (e v : ℕ) → e < parts → P (only e v)) (both : (c d : Costs) → P c → P d → P (together c d)) where
  below : (c : Costs) (n k : ℕ) → n + k ≡ parts → P (from k c)
  below c zero k h = none (from k c) (λ e l. from_none k c e (omega arith))
  below c (suc n) k h = subst P (sym (from_next k c)) (both _ _ (one k (c k) (omega arith)) (below c n (suc k) (omega arith)))

  pub all_costs : (c : Costs) → P c
  all_costs c = subst P (from_all c) (below c parts 0 (add-zero parts))
