-- The library's `position`, the first place in a list whose element passes, as the first number that passes.
use Rattle.std.proofs.Common.{◌≡◌, ℕ, ◌<◌, Bool, true, false, not, cond, Some, None, List, [], ◌∷◌, length, position, option_map, slice_index_or, refl, ap, ◌∙◌, arith}
use Rattle.std.specs.List.{position_or_len}
use Rattle.std.proofs.lemmas.List.Sums.{prefix_len_is}
use Rattle.number.specs.First.{first, some, found}
use Rattle.number.proofs.Firsts.{first_most, first_before, first_passes}

-- the place of the first element that passes p, or the length, is the first number that passes q, where the elements pass as their places do
pub place_first : {X : Type 0} (p : X → Bool) (xs : List X) (q : ℕ → Bool) → ((k : ℕ) (d : X) → k < length xs → p (slice_index_or xs k d) ≡ q k) → position_or_len p xs ≡ first (length xs) q
unfolding first
place_first p [] q same = refl
place_first p (x ∷ xs) q same =
    let n = length (x ∷ xs) in
    let most = first_most n q in
    prefix_len_is (λ y. not (p y)) (x ∷ xs) (first n q) x most
    (λ k l. ap not (same k x (omega arith) ∙ first_before n q k l))
    (λ l. ap not (same (first n q) x l ∙ first_passes n q l))

-- so the library's `position` is the first number below the length that passes
pub position_found : {X : Type 0} (p : X → Bool) (xs : List X) (n : ℕ) (q : ℕ → Bool) → length xs ≡ n → ((k : ℕ) (d : X) → k < n → p (slice_index_or xs k d) ≡ q k) → position p xs ≡ found n q
position_found p xs n q e same =
    let at : position_or_len p xs ≡ first n q = place_first p xs q (λ k d l. same k d (omega arith)) ∙ ap (λ m. first m q) e in
    rw (at, e) refl

-- there is one exactly where some number passes, and then it is the first
pub found_some : (n : ℕ) (p : ℕ → Bool) (k : ℕ) → found n p ≡ Some k → (some n p ≡ true) × (first n p ≡ k)
found_some n p k e = grind arith

pub found_none : (n : ℕ) (p : ℕ → Bool) → found n p ≡ None → some n p ≡ false
found_none n p e = grind arith

-- and what is made of it
pub found_map : {Y : Type 0} (f : ℕ → Y) (n : ℕ) (p : ℕ → Bool) → option_map f (found n p) ≡ cond (some n p) (Some (f (first n p))) None
found_map f n p = elim (some n p) as (λ b. option_map f (cond b (Some (first n p)) None) ≡ cond b (Some (f (first n p))) None) [ true ↦ refl | false ↦ refl ]
