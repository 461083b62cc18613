-- A row of bytes cut into whole bookings.
use Rattle.std.proofs.Common.{◌≡◌, ℕ, ◌+◌, ◌*◌, ◌≤◌, List, ◌++◌, length, take, drop, sym, ap, ◌∙◌, arith, length-append}
use Rattle.std.proofs.Math.Seq.{take-append_seam, drop-append_seam}
use Rattle.std.proofs.lemmas.List.{length-drop, drop-drop}

-- the next seven bytes, where the first k bookings are taken off
module _ (row bytes rest : List ℕ) (k : ℕ) (within : k * 7 ≤ length row) (is : drop (k * 7) row ≡ bytes ++ rest) (seven : length bytes ≡ 7) where
  pub cut_inside : k * 7 + 7 ≤ length row
  cut_inside = omega (arith, length-drop (k * 7) row, ap length is, length-append bytes rest)

  pub cut_bytes : bytes ≡ take 7 (drop (k * 7) row)
  cut_bytes = sym (ap (take 7) is ∙ ap (λ n. take n (bytes ++ rest)) (sym seven) ∙ take-append_seam bytes rest)

  pub cut_rest : rest ≡ drop ((k + 1) * 7) row
  cut_rest =
      let more : k * 7 + 7 ≡ (k + 1) * 7 = omega arith in
      sym (ap (λ n. drop n row) (sym more) ∙ sym (drop-drop 7 (k * 7) row) ∙ ap (drop 7) is ∙ ap (λ n. drop n (bytes ++ rest)) (sym seven) ∙ drop-append_seam bytes rest)
