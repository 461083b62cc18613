-- Laws of `sum` and `count`, each shown once by induction on the number of terms.
use Rattle.std.proofs.Common.{◌≡◌, ℕ, zero, suc, ◌+◌, ◌*◌, ◌<◌, ◌≤◌, Bool, true, false, sym, refl, ap, ◌∙◌, ap₂, inl, inr, zero-add, add-one, arith}
use Rattle.std.proofs.lemmas.Bool.{cases_eq}
use Rattle.number.specs.Sum.{sum, one, count}
use Rattle.number.specs.Laws.{SumAdds, SumScales, SumSwaps, SumOrders}

-- one more term
pub sum_next : (n : ℕ) (f : ℕ → ℕ) → sum (n + 1) f ≡ sum n f + f n
unfolding sum
sum_next n f = rw add-one (omega arith)

-- equal terms
pub sum_same : (n : ℕ) (f g : ℕ → ℕ) → ((i : ℕ) → i < n → f i ≡ g i) → sum n f ≡ sum n g
unfolding sum
sum_same zero f g h = refl
sum_same (suc n) f g h = ap₂ ◌+◌ (h n (omega arith)) (sum_same n f g (λ i l. h i (omega arith)))

-- terms that are at most others
pub sum_le : SumOrders
unfolding sum
sum_le zero f g h = omega arith
sum_le (suc n) f g h = omega (arith, h n (omega arith), sum_le n f g (λ i l. h i (omega arith)))

-- terms that are all 0
pub sum_zero : (n : ℕ) (f : ℕ → ℕ) → ((i : ℕ) → i < n → f i ≡ 0) → sum n f ≡ 0
unfolding sum
sum_zero zero f h = refl
sum_zero (suc n) f h = omega (arith, h n (omega arith), sum_zero n f (λ i l. h i (omega arith)))

-- two sums, term by term
pub sum_add : SumAdds
unfolding sum
sum_add zero f g = refl
sum_add (suc n) f g = omega (arith, sum_add n f g)

-- a factor that all terms share
pub sum_times : SumScales
unfolding sum
sum_times zero k f = omega arith
sum_times (suc n) k f = omega (arith, sum_times n k f)

-- by rows and by columns
pub sum_swap : SumSwaps
unfolding sum
sum_swap zero m f = sym (sum_zero m (λ _. 0) (λ _ _. refl))
sum_swap (suc n) m f = ap (λ s. sum m (f n) + s) (sum_swap n m f) ∙ sym (sum_add m (f n) (λ e. sum n (λ i. f i e)))

-- n terms of at most k each
pub sum_most : (n k : ℕ) (f : ℕ → ℕ) → ((i : ℕ) → i < n → f i ≤ k) → sum n f ≤ n * k
unfolding sum
sum_most zero k f h = omega arith
sum_most (suc n) k f h = omega (arith, h n (omega arith), sum_most n k f (λ i l. h i (omega arith)))

-- the first m terms, and then n more
pub sum_append : (m n : ℕ) (f : ℕ → ℕ) → sum (n + m) f ≡ sum m f + sum n (λ k. f (m + k))
unfolding sum
sum_append m zero f = rw zero-add (omega arith)
sum_append m (suc n) f =
    let e : suc n + m ≡ suc (n + m) = omega arith in
    let g : n + m ≡ m + n = omega arith in
    rw e (omega (arith, sum_append m n f, ap f g))

-- one term that is not 0
pub sum_at : (n e : ℕ) (f : ℕ → ℕ) → e < n → ((i : ℕ) → i < n → (i ≡ e → ⊥) → f i ≡ 0) → sum n f ≡ f e
unfolding sum
sum_at zero e f l h = omega arith
sum_at (suc n) e f l h =
    elim (cases_eq n e) [
      | inl p ↦ omega (arith, ap f p, sum_zero n f (λ i k. h i (omega arith) (λ q. omega arith)))
      | inr q ↦ omega (arith, h n (omega arith) q, sum_at n e f (omega (arith, q)) (λ i k. h i (omega arith)))
    ]

-- no term is above the sum
pub sum_has : (n e : ℕ) (f : ℕ → ℕ) → e < n → f e ≤ sum n f
unfolding sum
sum_has zero e f l = omega arith
sum_has (suc n) e f l =
    elim (cases_eq n e) [
      | inl p ↦ omega (arith, ap f p)
      | inr q ↦ omega (arith, sum_has n e f (omega (arith, q)))
    ]

-- one that passes counts 1, and one that fails 0
pub one_most : (b : Bool) → one b ≤ 1
one_most true = omega arith
one_most false = omega arith

-- no more than n pass among n
pub count_most : (n : ℕ) (p : ℕ → Bool) → count n p ≤ n
count_most n p = omega (arith, sum_most n 1 (λ i. one (p i)) (λ i _. one_most (p i)))
