-- What `chunks_exact` gives: the rows, one after the other.
use Rattle.std.proofs.Common.{◌≡◌, ℕ, zero, suc, ◌+◌, ◌*◌, ◌/◌, ◌<◌, List, ◌∷◌, ◌++◌, length, get_or, take, drop, sym, refl, ap, ◌∙◌, subst, ap₂, subst₂, add-one, arith}
use Rattle.std.proofs.Math.Nat.{add-div_left, div-eq_of_lt}
use Rattle.std.specs.Simd.{first_chunks}
use Rattle.std.specs.Slice.Iter.{chunks_exact_rest, chunks_exact_size, chunks_exact_steps}
use Rattle.std.proofs.lemmas.Iterator.{YieldsList}
use Rattle.std.proofs.lemmas.Iterator.Splits.{YieldsList-from_shown_while}
use Rattle.std.proofs.lemmas.List.{length-append, take_at, drop_at, drop-drop}
use Rattle.line.specs.Rows.{row}

-- so many rows
pub chunks_length : {X : Type 0} (n k : ℕ) (xs : List X) → length (first_chunks n k xs) ≡ k
chunks_length n zero xs = refl
chunks_length n (suc k) xs = ap suc (chunks_length n k (drop n xs))

-- each at its place
pub chunks_at : {X : Type 0} (n k : ℕ) (xs : List X) (e : ℕ) (d : List X) → e < k → get_or (first_chunks n k xs) e d ≡ row n xs e
chunks_at n zero xs e d l = absurd (omega arith)
chunks_at n (suc k) xs zero d l = ap (λ i. take n (drop i xs)) (let p : 0 ≡ 0 * n = omega arith in p)
chunks_at n (suc k) xs (suc e) d l = chunks_at n k (drop n xs) e d (omega arith) ∙ ap (take n) (drop-drop (e * n) n xs ∙ ap (λ i. drop i xs) (let p : n + e * n ≡ suc e * n = omega arith in p))

-- one row and the rest
chunks_more : {X : Type 0} (n : ℕ) (x rest : List X) → 0 < n → length x ≡ n → first_chunks n (length (x ++ rest) / n) (x ++ rest) ≡ x ∷ first_chunks n (length rest / n) rest
chunks_more n x rest some e =
    let count : length (x ++ rest) / n ≡ suc (length rest / n) = ap (λ m. m / n) (length-append x rest ∙ ap (λ m. m + length rest) e) ∙ add-div_left (length rest) some ∙ add-one (length rest / n) in
    ap (λ k. first_chunks n k (x ++ rest)) count ∙ ap₂ (λ y ys. y ∷ first_chunks n (length rest / n) ys) (take_at x rest n e) (drop_at x rest n e)

-- `chunks_exact` gives all whole rows
pub YieldsList-from_chunks_exact : {X : Type 0} {s : _} (n : ℕ) (xs : List X) → chunks_exact_rest s ≡ xs → chunks_exact_size s ≡ n → 0 < n → YieldsList chunks_exact_steps (λ y. y.now) s (first_chunks n (length xs / n) xs)
YieldsList-from_chunks_exact {X} {s} n xs e f some =
    subst₂ (λ k ys. YieldsList chunks_exact_steps (λ y. y.now) s (first_chunks k (length ys / k) ys)) f e
    (YieldsList-from_shown_while chunks_exact_steps (λ y. y.now) (λ t. chunks (chunks_exact_size t) (chunks_exact_rest t)) (λ t. 0 < chunks_exact_size t)
    (λ s t p h. chunks_length (chunks_exact_size s) _ (chunks_exact_rest s) ∙ div-eq_of_lt h.1.0)
    (λ s x t p h. (
      subst (λ k. 0 < k) (sym h.0) p,
      ap (chunks (chunks_exact_size s)) h.1.0 ∙ chunks_more (chunks_exact_size s) x.now (chunks_exact_rest t) p h.1.1 ∙ ap (λ k. x.now ∷ chunks k (chunks_exact_rest t)) (sym h.0),
    ))
    s (subst (λ k. 0 < k) (sym f) some))
  where
    chunks : ℕ → List X → List (List X)
    chunks k ys = first_chunks k (length ys / k) ys
