-- What is out of range.
use Rattle.std.proofs.Common.{◌≡◌, ℕ, ◌<◌, ◌≤◌, Bool, true, false, cond, not, ◌||◌, leb, List, length, get_or, take, zip, position, pos, Some, None, Option, sym, refl, ap, ◌∙◌, subst, ap₂, inl, inr, arith, w64, to_z}
use Rattle.std.specs.Bool.{then_some}
use Rattle.std.proofs.lemmas.List.{length-take-le, get_or-take, get_or_default}
use Rattle.std.proofs.lemmas.Slice.Zip.{length-zip, get_or-zip}
use Rattle.std.proofs.lemmas.Bool.{cases_lt, le-ltb, leb-false, ltb-true, not-false, or_parts}
use Rattle.number.specs.First.{first, some, found}
use Rattle.number.proofs.Firsts.{first_none, first_same, each_fails}
use Rattle.number.proofs.Positions.{position_found, found_some, found_none}
use Rattle.line.specs.declared.refusal.Holder.{Holder}
use Rattle.line.specs.declared.refusal.Holder.TheVariants.{Farm as OfFarm, Cooperative}
use Rattle.line.specs.Line.{Line}
use Rattle.account.specs.Range.{in_range, account_at}
use Rattle.share.specs.Answer.{at}
use Rattle.cents.specs.Limits.{counts_end}
use Rattle.posting.specs.Posting.{off, out_of_range}
use Rattle.posting.specs.State.{State}
use Rattle.ledger.specs.Held.{state_of, cleared}
use Rattle.ledger.specs.Room.{AccountsFit, CountsFit}
use Rattle.ledger.proofs.Rows.{inside_below}

-- whether the account or the count at place i of the rows is out of range
abbrev pub off_at : (accounts odd : List ℕ) → ℕ → Bool
off_at accounts odd i = not (in_range (account_at accounts i)) || leb counts_end (at odd i)

module _ (l : Line) (accounts odd costs : List ℕ) where
  off_same : (i : ℕ) → i < l.farms → off_at accounts odd i ≡ off (state_of l accounts odd costs) i
  unfolding off
  off_same i h =
      ap₂ (λ z n. not (in_range z) || leb counts_end n) (sym (inside_below l.farms (pos 0) (account_at accounts) i h)) (sym (inside_below l.farms 0 (at odd) i h))

  -- the first place of the rows where something is out of range, as the library finds it, is the first farm's of the state
  module _ (accounts_room : l.farms < length accounts) (odd_room : l.farms ≤ length odd) where
    abbrev pub first_place : Option ℕ
    first_place = position (λ (p : ℕ × ℕ). not (in_range (to_z w64 p.0)) || leb counts_end p.1) (zip (take l.farms accounts) odd)

    pair : (k : ℕ) (d : ℕ × ℕ) → k < l.farms → get_or (zip (take l.farms accounts) odd) k d ≡ (at accounts k, at odd k)
    pair k d h =
        let front : length (take l.farms accounts) ≡ l.farms = length-take-le l.farms accounts (omega arith) in
        get_or-zip (take l.farms accounts) odd k d (omega arith) (omega arith)
        ∙ ap₂ (λ (x : ℕ) (y : ℕ). (x, y)) (get_or-take l.farms accounts k d.0 h ∙ get_or_default accounts k d.0 0 (omega arith)) (get_or_default odd k d.1 0 (omega arith))

    place_found : first_place ≡ found l.farms (off (state_of l accounts odd costs))
    place_found =
        let front : length (take l.farms accounts) ≡ l.farms = length-take-le l.farms accounts (omega arith) in
        position_found _ (zip (take l.farms accounts) odd) l.farms (off (state_of l accounts odd costs)) (omega (arith, length-zip (take l.farms accounts) odd))
        (λ k d h. ap (λ (p : ℕ × ℕ). not (in_range (to_z w64 p.0)) || leb counts_end p.1) (pair k d h) ∙ off_same k h)

    pub farm_found : (i : ℕ) → Some i ≡ first_place → (i < l.farms) × (Some (OfFarm (record { 0 = i })) ≡ out_of_range (state_of l accounts odd costs))
    unfolding out_of_range
    farm_found i e =
        let h = found_some _ _ i (sym (e ∙ place_found)) in
        (omega (arith, ltb-true (first l.farms (off (state_of l accounts odd costs))) l.farms h.0, h.1), rw (h.0, h.1) refl)

    pub no_farm_found : None ≡ first_place → then_some (not (in_range (account_at accounts l.farms))) Cooperative ≡ out_of_range (state_of l accounts odd costs)
    unfolding out_of_range
    no_farm_found e =
        let h = found_none l.farms (off (state_of l accounts odd costs)) (sym (e ∙ place_found)) in
        grind arith

  module _ (none : (k : ℕ) → k < l.farms → off_at accounts odd k ≡ false) where
    no_farm : first l.farms (off (state_of l accounts odd costs)) ≡ l.farms
    no_farm = sym (first_same l.farms _ _ off_same) ∙ first_none l.farms (off_at accounts odd) none

    pub off_nobody : in_range (account_at accounts l.farms) ≡ true → None ≡ out_of_range (state_of l accounts odd costs)
    unfolding out_of_range
    off_nobody fine = rw (no_farm, le-ltb l.farms l.farms (omega arith), fine) refl

-- costs have no part in it
pub cleared_off : (s : State) → out_of_range (cleared s) ≡ out_of_range s
unfolding out_of_range off
cleared_off s = refl

-- if nothing is out of range, all is in range
cond_none : (a b : Bool) (x y : Holder) → None ≡ cond a (Some x) (cond b None (Some y)) → (a ≡ false) × (b ≡ true)
cond_none a b x y h = (grind arith, grind arith)

module _ (l : Line) (accounts odd costs : List ℕ) (nobody : None ≡ out_of_range (state_of l accounts odd costs)) where
  both : (some l.farms (off (state_of l accounts odd costs)) ≡ false) × (in_range (account_at accounts l.farms) ≡ true)
  unfolding out_of_range
  both = cond_none _ _ _ _ nobody

  each : (i : ℕ) → i < l.farms → off_at accounts odd i ≡ false
  each i h = off_same l accounts odd costs i h ∙ each_fails l.farms (off (state_of l accounts odd costs)) both.0 i h

  pub accounts_fit : AccountsFit l.farms accounts
  accounts_fit i h = elim (cases_lt i l.farms) [ inl k ↦ not-false _ (or_parts _ _ (each i k)).0 | inr k ↦ subst (λ n. in_range (account_at accounts n) ≡ true) (omega arith) both.1 ]

  pub counts_fit : CountsFit l.farms odd
  counts_fit i h = leb-false counts_end (at odd i) (or_parts _ _ (each i h)).1
