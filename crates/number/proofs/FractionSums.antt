-- Laws of `sumF`, each shown once by induction on the number of terms.
use Rattle.std.proofs.Common.{ℕ, zero, suc, ◌<◌, sym, ap, ◌∙◌, subst, mul-zero, arith}
use Rattle.number.specs.Fraction.{Fraction, over, ◌≈◌, ◌≼◌, ◌⊕◌, times, sumF}
use Rattle.number.specs.Sum.{sum}
use Rattle.number.proofs.Fractions.{same_refl, same_sym, ◌then◌, add_same, add_comm, add_assoc, nothing_add, times_add, split_times, no_times, times_over, over_add, over_none, le_same, le_add}

pub sumF_same : (n : ℕ) (f g : ℕ → Fraction) → ((i : ℕ) → i < n → f i ≈ g i) → sumF n f ≈ sumF n g
unfolding sumF
sumF_same zero f g h = same_refl
sumF_same (suc n) f g h = add_same (h n (omega arith)) (sumF_same n f g (λ i l. h i (omega arith)))

pub sumF_le : (n : ℕ) (f g : ℕ → Fraction) → ((i : ℕ) → i < n → f i ≼ g i) → sumF n f ≼ sumF n g
unfolding sumF
sumF_le zero f g h = le_same same_refl
sumF_le (suc n) f g h = le_add (h n (omega arith)) (sumF_le n f g (λ i l. h i (omega arith)))

pub sumF_zero : (n : ℕ) (f : ℕ → Fraction) → ((i : ℕ) → i < n → f i ≈ over 0 1) → sumF n f ≈ over 0 1
unfolding sumF
sumF_zero zero f h = same_refl
sumF_zero (suc n) f h = add_same (h n (omega arith)) (sumF_zero n f (λ i l. h i (omega arith))) then nothing_add (over 0 1)

pub medial : (a b c d : Fraction) → a ⊕ b ⊕ (c ⊕ d) ≈ a ⊕ c ⊕ (b ⊕ d)
medial a b c d =
    add_assoc a b (c ⊕ d)
    then add_same same_refl (same_sym (add_assoc b c d) then add_same (add_comm b c) same_refl then add_assoc c b d)
    then same_sym (add_assoc a c (b ⊕ d))

pub sumF_add : (n : ℕ) (f g : ℕ → Fraction) → sumF n (λ i. f i ⊕ g i) ≈ sumF n f ⊕ sumF n g
unfolding sumF
sumF_add zero f g = same_sym (nothing_add (over 0 1))
sumF_add (suc n) f g = add_same same_refl (sumF_add n f g) then medial (f n) (g n) (sumF n f) (sumF n g)

pub sumF_times : (n k : ℕ) (f : ℕ → Fraction) → sumF n (λ i. times k (f i)) ≈ times k (sumF n f)
unfolding sumF
sumF_times zero k f = subst (λ z. over 0 1 ≈ z) (sym (times_over k 0 1 ∙ ap (λ z. over z 1) (mul-zero k))) same_refl
sumF_times (suc n) k f = add_same same_refl (sumF_times n k f) then same_sym (times_add k (f n) (sumF n f))

pub sumF_swap : (n m : ℕ) (f : ℕ → ℕ → Fraction) → sumF n (λ i. sumF m (f i)) ≈ sumF m (λ e. sumF n (λ i. f i e))
unfolding sumF
sumF_swap zero m f = same_sym (sumF_zero m (λ _. over 0 1) (λ _ _. same_refl))
sumF_swap (suc n) m f = add_same same_refl (sumF_swap n m f) then same_sym (sumF_add m (f n) (λ e. sumF n (λ i. f i e)))

-- over one denominator
pub sumF_over : (n d : ℕ) (f : ℕ → ℕ) → sumF n (λ i. over (f i) d) ≈ over (sum n f) d
unfolding sum sumF
sumF_over zero d f = same_sym (over_none d)
sumF_over (suc n) d f = add_same same_refl (sumF_over n d f) then over_add (f n) (sum n f) d

-- one fraction, in parts
pub times_sum : (n : ℕ) (w : ℕ → ℕ) (a : Fraction) → times (sum n w) a ≈ sumF n (λ i. times (w i) a)
unfolding sum sumF
times_sum zero w a = no_times a
times_sum (suc n) w a = split_times (w n) (sum n w) a then add_same same_refl (times_sum n w a)
