-- The least scale, found part by part.
use Rattle.std.proofs.Common.{◌≡◌, ℕ, zero, suc, ◌+◌, ◌*◌, ◌/◌, ◌<◌, ◌≤◌, subst, inl, inr, ⊎_elim, mul-pos, add-one, arith, below_more}
use Prim.Native.Nat.{◌∣◌}
use native.Mathlib.Nat.{one-dvd, dvd-mul_right, dvd-mul_left, dvd_trans, dvd_antisymm, le_of_dvd, pos_of_dvd_of_pos, div-mul_cancel}
use Rattle.std.proofs.lemmas.Bool.{cases_lt}
use Rattle.number.specs.Divisors.{Least}
use Rattle.number.proofs.Euclid.{always_one}
use Rattle.line.specs.Line.{Line, users}
use Rattle.share.specs.Cost.{Costs}
use Rattle.share.specs.Least.{Divided, LeastScale}
use Rattle.share.specs.Scale.{Scale}
use Rattle.share.specs.Theorems.{OneScale}
use Rattle.share.specs.Weight.{whole, once, AllUsed}

module _ (l : Line) (c : Costs) where
  -- of no parts it is 1
  pub least_none : LeastScale l c 0 1
  least_none = record { divided = λ e h. absurd (omega arith); least = λ t _. one-dvd t }

  fewer : (k t : ℕ) → Divided l c (k + 1) t → Divided l c k t
  fewer k t d e h = d e (omega arith)

  -- a part that costs nothing leaves it
  pub least_free : (k s : ℕ) → c k ≡ 0 → LeastScale l c k s → LeastScale l c (k + 1) s
  least_free k s free h =
      record { divided = below_more (λ e. 0 < c e → users l e ∣ s) k h.divided (λ costs. absurd (omega arith)); least = λ t d. h.least t (fewer k t d) }

  -- one that costs something takes its users in
  pub least_more : (k s m : ℕ) → 0 < c k → Least s (users l k) m → LeastScale l c k s → LeastScale l c (k + 1) m
  least_more k s m costs both h =
      record {
        divided = below_more (λ e. 0 < c e → users l e ∣ m) k (λ e g p. dvd_trans (users l e) (h.divided e g p) both.left) (λ _. both.right);
        least = λ t d. both.least t (h.least t (fewer k t d)) (d k (omega arith) costs);
      }

  -- numbers of users that are above 0 have a common multiple above 0
  multiple : (k : ℕ) → ((e : ℕ) → e < k → 0 < users l e) → (t : ℕ) × (0 < t) × ((e : ℕ) → e < k → users l e ∣ t)
  multiple zero used = (1, (omega arith), λ e h. absurd (omega arith))
  multiple (suc k) used =
      let m = multiple k (λ e h. used e (omega arith)) in (
        m.0 * users l k,
        mul-pos m.1 (used k (omega arith)),
        λ e h. ⊎_elim (λ (g : e < k). dvd_trans (users l e) (m.2 e g) (dvd-mul_right m.0 (users l k)))
            (λ (g : k ≤ e). let same : e ≡ k = omega arith in rw same (dvd-mul_left (users l k) m.0)) (cases_lt e k),
      )

  -- the least scale is above 0
  pub least_positive : (s : ℕ) → AllUsed l → LeastScale l c l.parts s → 0 < s
  least_positive s used h = let m = multiple l.parts used in pos_of_dvd_of_pos (h.least m.0 (λ e g _. m.2 e g)) m.1

  -- where the first parts already need more than b, all need more
  pub least_large : (k s b : ℕ) → AllUsed l → k < l.parts → 0 < c k → LeastScale l c k s → ((m : ℕ) → Least s (users l k) m → b ≤ m) →
      (t : ℕ) → LeastScale l c l.parts t → b ≤ t
  least_large k s b used g costs h large t all =
      let m = (always_one s (users l k)).1 in
      let divides = m.1.least t (h.least t (λ e i p. all.divided e (omega arith) p)) (all.divided k g costs) in
      omega (arith, large m.0 m.1, le_of_dvd (least_positive t used all) divides)

  -- over it every part that costs something has a whole number for each user
  pub least_scale : (s : ℕ) → AllUsed l → LeastScale l c l.parts s → Scale l (once l) c s (λ e. s / users l e)
  unfolding whole users
  least_scale s used h = record { positive = least_positive s used h; divides = λ e g costs. div-mul_cancel (users l e) (h.divided e g costs) }

exists : (l : Line) (c : Costs) (k : ℕ) → (s : ℕ) × LeastScale l c k s
exists l c zero = (1, least_none l c)
exists l c (suc k) =
    let h = exists l c k in
    let P : ℕ → Type 0 = λ n. (s : ℕ) × LeastScale l c n s in
    subst P (add-one k)
    (elim (cases_lt 0 (c k)) [
      | inl costs ↦ let m = (always_one h.0 (users l k)).1 in (m.0, least_more l c k h.0 m.0 costs m.1 h.1)
      | inr none ↦ let free : c k ≡ 0 = omega arith in (h.0, least_free l c k h.0 free h.1)
    ])

pub one_scale_lem : OneScale
one_scale_lem l c k = (exists l c k, λ s t a b. dvd_antisymm (a.least t b.divided) (b.least s a.divided))
