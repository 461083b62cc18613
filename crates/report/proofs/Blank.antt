-- Memory in which nothing is booked.
use Rattle.std.proofs.Common.{◌≡◌, ℕ, ◌+◌, ◌≤◌, true, false, not, ◌||◌, leb, List, length, replicate, pos, None, refl, ap, ◌∙◌, ap₂, inl, inr, arith, w64, to_z}
use lib.ListN.{length-replicate}
use Rattle.std.proofs.lemmas.Nat.{mul-le}
use Rattle.std.proofs.lemmas.List.{get_or-replicate, get_or_past}
use Rattle.std.proofs.lemmas.Bool.{cases_lt, le-ltb}
use Rattle.number.proofs.Firsts.{none_from}
use Rattle.line.specs.Limits.{most_farms, most_parts, costs_end}
use Rattle.line.specs.Line.{Line}
use Rattle.line.specs.Rows.{across}
use Rattle.line.specs.declared.size.Size.{Size}
use Rattle.account.specs.Limits.{account_most}
use Rattle.account.specs.Range.{in_range, account_at}
use Rattle.share.specs.Answer.{at, too_large, large_refused, costs_refused}
use Rattle.cents.specs.Limits.{counts_end}
use Rattle.posting.specs.Years.{empty}
use Rattle.ledger.specs.Held.{state_of}
use Rattle.ledger.specs.Open.{blank, lent_refused}
use Rattle.ledger.specs.Room.{sheet_length}
use Rattle.ledger.proofs.Lending.{lent_on}
use Rattle.ledger.proofs.Ranges.{off_at, off_nobody}
use Rattle.ledger.proofs.Rows.{inside_is}

-- every word is 0, and so is what is past them
zero_at : (n i : ℕ) → at (replicate n 0) i ≡ 0
zero_at n i = elim (cases_lt i n) [ inl h ↦ get_or-replicate n i 0 0 h | inr h ↦ get_or_past (replicate n 0) i 0 (omega (arith, length-replicate {A = ℕ} n 0)) ]

none_large : (m n : ℕ) → m ≤ n → None ≡ costs_refused m (replicate n 0)
unfolding costs_refused large_refused costs_end
none_large m n h =
    let long : m ≤ length (replicate {A = ℕ} n 0) = omega (arith, length-replicate {A = ℕ} n 0) in
    rw (le-ltb (length (replicate {A = ℕ} n 0)) m long, none_from m (too_large (replicate n 0)) (λ e _. ap (leb costs_end) (zero_at n e))) refl

none_off : (a o i : ℕ) → off_at (replicate a 0) (replicate o 0) i ≡ false
unfolding in_range account_most counts_end
none_off a o i = ap₂ (λ x y. not (in_range (to_z w64 x)) || leb counts_end y) (zero_at a i) (zero_at o i)

zero_fits : in_range (pos 0) ≡ true
unfolding in_range account_most
zero_fits = refl

-- memory for the largest line: nothing is booked, and there is room for the largest sheet
pub record Blank (x y z : List ℕ) (bytes : ℕ) : Type 0 where
  pub accounts : x ≡ replicate (most_farms + 1) 0
  pub odd : y ≡ replicate most_farms 0
  pub costs : z ≡ replicate most_parts 0
  pub sheet : bytes ≡ sheet_length most_farms most_parts

-- the state that rows of zeros hold
zero_state : (l : Line) (a o c : ℕ) → state_of l (replicate a 0) (replicate o 0) (replicate c 0) ≡ empty l
zero_state l a o c = λ t. record {
  line = l;
  accounts = inside_is l.farms (pos 0) (account_at (replicate a 0)) (λ _. pos 0) (λ i _. ap (to_z w64) (zero_at a i)) (λ _ _. refl) t;
  cooperative = ap (to_z w64) (zero_at a l.farms) t;
  costs = inside_is l.parts 0 (at (replicate c 0)) (λ _. 0) (λ e _. zero_at c e) (λ _ _. refl) t;
  odd = inside_is l.farms 0 (at (replicate o 0)) (λ _. 0) (λ i _. zero_at o i) (λ _ _. refl) t;
}

module _ (x y z : List ℕ) (bytes : ℕ) (blank_is : Blank x y z bytes) where
  pub blank_state : (l : Line) → state_of l x y z ≡ empty l
  blank_state l = rw (blank_is.accounts, blank_is.odd, blank_is.costs) (zero_state l (most_farms + 1) most_farms most_parts)

  -- none of it is refused for any line
  pub blank_lent : (s : Size) → s.farms ≤ most_farms → s.parts ≤ most_parts → lent_refused s x y z bytes ≡ None
  blank_lent s n m =
      lent_on s x y z bytes (omega (arith, ap length blank_is.accounts, length-replicate {A = ℕ} (most_farms + 1) 0)) (omega (arith, ap length blank_is.odd, length-replicate {A = ℕ} most_farms 0))
      (omega (arith, ap length blank_is.costs, length-replicate {A = ℕ} most_parts 0))
      None None (omega (arith, blank_is.sheet, mul-le s.parts (14 + across 8 s.farms) most_parts (14 + across 8 most_farms) m (omega arith)))
      (rw blank_is.costs (none_large s.parts most_parts m))
      (rw (blank_is.accounts, blank_is.odd, blank_is.costs)
      (off_nobody (blank s) (replicate (most_farms + 1) 0) (replicate most_farms 0) (replicate most_parts 0) (λ i _. none_off (most_farms + 1) most_farms i)
      (ap (λ x. in_range (to_z w64 x)) (zero_at (most_farms + 1) s.farms) ∙ zero_fits)))
