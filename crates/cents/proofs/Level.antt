-- How far two farms differ in odd cents.
use Rattle.std.proofs.Common.{◌≡◌, ℕ, zero, suc, ◌+◌, ◌<◌, ◌≤◌, Bool, true, false, eqb, [], ◌∷◌, sym, refl, inl, inr, add-zero, add_assoc, arith}
use Rattle.std.proofs.lemmas.Bool.{cases_Bool, eqb-true}
use Rattle.number.specs.Sum.{one}
use Rattle.line.specs.Line.{Line}
use Rattle.share.specs.Weight.{Weights}
use Rattle.cents.specs.Split.{odd_cent, odd_after}
use Rattle.cents.specs.Closing.{odds}
use Rattle.cents.specs.Level.{Differ, SplitOf, odd_next, odd_row, Both, own_now, own}
use Rattle.cents.specs.Theorems.{OddLevel, OddGap, ClosingLevel}
use Rattle.cents.proofs.Split.{fewest_alike_lem}

level_step : (a b : Bool) (d x y : ℕ) → (a ≡ true → b ≡ false → x ≤ y) → (b ≡ true → a ≡ false → y ≤ x) → 0 < d → Differ d x y → Differ d (x + one a) (y + one b)
level_step true true d x y h k p v = record { low = omega arith; high = omega arith }
level_step true false d x y h k p v = let m = h refl refl in record { low = omega arith; high = omega arith }
level_step false true d x y h k p v = let m = k refl refl in record { low = omega arith; high = omega arith }
level_step false false d x y h k p v = record { low = omega arith; high = omega arith }

-- one split lets two farms that count the same differ by no more than before, or one
pub odd_step :
    (l : Line) (weight : Weights) (e c : ℕ) (odd : ℕ → ℕ) (i j d : ℕ) → i < l.farms → j < l.farms → weight i e ≡ weight j e →
    0 < d → Differ d (odd i) (odd j) → Differ d (odd_after l weight e c odd i) (odd_after l weight e c odd j)
unfolding odd_after odd_cent
odd_step l weight e c odd i j d ki kj w p v =
    level_step _ _ d _ _ (fewest_alike_lem l weight e c odd i j kj w) (fewest_alike_lem l weight e c odd j i ki (sym w)) p v

gap_step : (i j d : ℕ) (s : SplitOf) (odd : ℕ → ℕ) → Both i j s → 0 < d → Differ d (odd i) (odd j) → Differ (d + own_now i j odd s) (odd_next odd s i) (odd_next odd s j)
unfolding own_now odd_after
gap_step i j d s odd b p v =
    elim (cases_Bool (eqb (s.weight i s.part) (s.weight j s.part))) [
      | inl t ↦ rw (t, add-zero) (odd_step s.line s.weight s.part s.cost odd i j d b.first b.second (eqb-true _ _ t) p v)
      | inr t ↦ rw t (record { low = omega arith; high = omega arith })
    ]

pub odd_gap_lem : OddGap
unfolding odd_row own
odd_gap_lem [] odd i j d b p v = rw add-zero v
odd_gap_lem (s ∷ row) odd i j d b p v =
    rw (← add_assoc) (odd_gap_lem row (odd_next odd s) i j (d + own_now i j odd s) b.1 (omega arith) (gap_step i j d s odd b.0 p v))

pub odd_level_lem : OddLevel
unfolding odd_row
odd_level_lem [] odd i j b a v = v
odd_level_lem (s ∷ row) odd i j b a v =
    odd_level_lem row (odd_next odd s) i j b.1 a.1
    (odd_step s.line s.weight s.part s.cost odd i j 1 b.0.first b.0.second a.0 (omega arith) v)

pub closing_level_lem : ClosingLevel
unfolding odds
closing_level_lem l weight c odd i j zero ki kj w v = v
closing_level_lem l weight c odd i j (suc k) ki kj w v =
    odd_step l weight k (c k) (odds l weight c odd k) i j 1 ki kj (w k (omega arith)) (omega arith)
    (closing_level_lem l weight c odd i j k ki kj (λ e h. w e (omega arith)) v)
