-- Where an account may stand, as two bounds.
use Rattle.std.proofs.Common.{◌≡◌, ◌<◌, true, false, ℤ, pos, negsuc, neg_ℤ, ◌≤ℤ◌, FitsSigned, arith, w64}
use Rattle.std.proofs.lemmas.Int.{ints}
use Rattle.account.specs.Limits.{account_most}
use Rattle.account.specs.Range.{in_range}

-- what is in range lies between the bounds
pub range_ends : (z : ℤ) → in_range z ≡ true → (neg_ℤ (pos account_most) ≤ℤ z) × (z ≤ℤ pos account_most)
unfolding in_range
range_ends z h = (grind (arith, ints), grind (arith, ints))

-- what does not fit 64 bits does not lie between them
pub range_wide : (z : ℤ) → (FitsSigned w64 z → ⊥) → in_range z ≡ false
unfolding in_range account_most
range_wide (pos n) h =
    let wide : n < 9223372036854775808 → ⊥ = λ q. h (record { sfits = q }) in
    grind (arith, ints)
range_wide (negsuc n) h =
    let wide : n < 9223372036854775808 → ⊥ = λ q. h (record { sfits = q }) in
    grind (arith, ints)
