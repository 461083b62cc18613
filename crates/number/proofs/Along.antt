-- A loop over the numbers below n, each with its number of a list: `for (k, x) in (0..n).zip(xs)`.
use Rattle.std.proofs.Common.{◌≡◌, ℕ, ◌+◌, ◌<◌, ◌≤◌, List, ◌∷◌, length, drop, get_or, Some, None, Bor, sym, ap, ◌∙◌, inl, inr, arith}
use Rattle.std.specs.declared.iter.Zip.{Zip}
use Rattle.std.specs.declared.ops.Range.{Range}
use Rattle.std.specs.declared.slice.Iter.{Iter}
use Rattle.std.specs.Iterator.Adapters.{zip_first, zip_second}
use Rattle.std.specs.Slice.Iter.{iter_rest}
use Rattle.std.proofs.iter.Yields.{fronts, nat_range_steps}
use Rattle.std.proofs.lemmas.Iterator.{zips}
use Rattle.std.proofs.lemmas.List.{drop-drop, get_or-drop, length-drop}

-- the number that comes next
abbrev pub next_number : Zip (Range ℕ) (Iter ℕ) → ℕ
next_number s = (zip_first s).start

-- what is left are the numbers from there on, with those of the list
pub record Along (n : ℕ) (xs : List ℕ) (s : Zip (Range ℕ) (Iter ℕ)) : Type 0 where
  pub end : (zip_first s).end ≡ n
  pub within : next_number s ≤ n
  pub left : iter_rest (zip_second s) ≡ drop (next_number s) xs

-- one turn: which number, and what stands at it in the list
pub record Turn (n : ℕ) (xs : List ℕ) (s t : Zip (Range ℕ) (Iter ℕ)) (e x : ℕ) : Type 0 where
  pub here : e ≡ next_number s
  pub below : e < n
  pub item : x ≡ get_or xs e 0
  pub next : next_number t ≡ e + 1
  pub along : Along n xs t

module _ {n : ℕ} {xs : List ℕ} {s : Zip (Range ℕ) (Iter ℕ)} (along : Along n xs s) (t : Zip (Range ℕ) (Iter ℕ)) where
  pub along_turn : {e : ℕ} (x : Bor ℕ) → zips nat_range_steps fronts s (Some (e, x)) t → Turn n xs s t e x.now
  along_turn {e = e} x step =
      let left : drop (next_number s) xs ≡ x.now ∷ iter_rest (zip_second t) = sym along.left ∙ step.1 in
      let next : next_number t ≡ e + 1 = omega (arith, step.0.1.1, step.0.1.2) in
      record {
        here = step.0.1.1;
        below = omega (arith, step.0.1.0, step.0.1.1, along.end);
        item = sym (ap (λ xs. get_or xs 0 0) left) ∙ get_or-drop (next_number s) xs 0 0 ∙ ap (λ k. get_or xs k 0) (omega (arith, step.0.1.1));
        next = next;
        along = record {
          end = step.0.0 ∙ along.end;
          within = omega (arith, next, step.0.1.0, step.0.1.1, along.end);
          left = sym (ap (drop 1) left) ∙ drop-drop 1 (next_number s) xs ∙ ap (λ k. drop k xs) (omega (arith, next, step.0.1.1));
        };
      }

  -- the end: no number is left
  pub along_end : n ≤ length xs → zips nat_range_steps fronts s None t → next_number s ≡ n
  along_end enough (inl h) = omega (arith, h.1.1.0, along.end, along.within)
  along_end enough (inr h) = omega (arith, h.1.0, ap length along.left, length-drop (next_number s) xs, along.within)

-- the start
pub along_start : (n : ℕ) (xs : List ℕ) (s z : Zip (Range ℕ) (Iter ℕ)) → s ≡ z → zip_first z ≡ record { start = 0; end = n } → iter_rest (zip_second z) ≡ xs → Along n xs s × (next_number s ≡ 0)
along_start n xs s z is first second =
    let begin : next_number s ≡ 0 = ap next_number is ∙ ap (λ (r : Range ℕ). r.start) first in (
      record {
        end = ap (λ (x : Zip (Range ℕ) (Iter ℕ)). (zip_first x).end) is ∙ ap (λ (r : Range ℕ). r.end) first;
        within = omega (arith, begin);
        left = ap (λ (x : Zip (Range ℕ) (Iter ℕ)). iter_rest (zip_second x)) is ∙ second ∙ ap (λ k. drop k xs) (sym begin);
      },
      begin,
    )
