-- Fractions compared and added crosswise: the top of each times the bottom of the other.
use Rattle.std.proofs.Common.{◌≡◌, ℕ, suc, pred, ◌+◌, ◌*◌, ◌<◌, ◌≤◌, pos, nat_abs, refl, ap, mul-pos, arith}
use borrow.Author.Differences.{ints}
use Rattle.number.specs.Fraction.{over, ◌≈◌, ◌≼◌, ◌⊕◌}

-- a bottom above 0 stands as it is
stands : {b : ℕ} → 0 < b → suc (pred b) ≡ b
stands h = omega arith

-- equal products have the same value
pub over_cross : (a b p q : ℕ) → 0 < b → 0 < q → a * q ≡ p * b → over a b ≈ over p q
unfolding over
over_cross a b p q h k e = record { crossed = ap pos (rw (stands h, stands k) e) }

-- the same value has equal products
pub cross_over : (a b p q : ℕ) → 0 < b → 0 < q → over a b ≈ over p q → a * q ≡ p * b
unfolding over
cross_over a b p q h k e = rw (stands h, stands k) at (ap nat_abs e.crossed)

-- what has the smaller product is at most the other
pub over_cross_le : (a b p q : ℕ) → 0 < b → 0 < q → a * q ≤ p * b → over a b ≼ over p q
unfolding over
over_cross_le a b p q h k e = record { crossed = rw (stands h, stands k) (omega (arith, ints)) }

-- what is at most the other has the smaller product
pub cross_over_le : (a b p q : ℕ) → 0 < b → 0 < q → over a b ≼ over p q → a * q ≤ p * b
unfolding over
cross_over_le a b p q h k e = omega (arith, ints, rw (stands h, stands k) at e.crossed)

-- the sum has both products above the product of the bottoms
pub over_sum : (a b p q : ℕ) → 0 < b → 0 < q → over a b ⊕ over p q ≈ over (a * q + p * b) (b * q)
unfolding ◌⊕◌ over
over_sum a b p q h k = record { crossed = ap pos (rw (stands h, stands k, stands (mul-pos h k)) refl) }
