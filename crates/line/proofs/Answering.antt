-- The answer to bytes, step by step.
use Rattle.std.proofs.Common.{◌≡◌, ℕ, ◌*◌, ◌<◌, ◌≤◌, false, List, length, drop, Some, Ok, Err, Result, refl, sym, ap, subst}
use Rattle.std.proofs.lemmas.Bool.{le-ltb, lt-ltb, ltb-false}
use Rattle.number.specs.First.{some, found}
use Rattle.number.proofs.Firsts.{each_fails}
use Rattle.number.proofs.Positions.{found_some}
use Rattle.line.specs.declared.refusal.Lent.TheVariants.{Line as TheLine}
use Rattle.line.specs.declared.refusal.Refusal.{Refusal}
use Rattle.line.specs.declared.refusal.Refusal.TheVariants.{Users, Short}
use Rattle.line.specs.declared.size.Size.{Size}
use Rattle.line.specs.Bytes.{meant}
use Rattle.line.specs.Reading.{part_faulty, sizing, fitting, and_then, reading, over, filled}
use Rattle.line.specs.Rows.{across, rows, word_length}
use Rattle.line.proofs.Sizing.{Measured, measured, never_both, passed, taken_same}

-- the size is refused
pub reading_err : (b : List ℕ) (lent : ℕ) (e : Refusal) → sizing b ≡ Err e → reading b lent ≡ Err e
unfolding reading
reading_err b lent e h = ap (λ r. and_then r (fitting (drop 4 b) lent)) h

-- the size is taken
pub reading_ok : (b : List ℕ) (lent : ℕ) (s : Size) → sizing b ≡ Ok s → reading b lent ≡ fitting (drop 4 b) lent s
unfolding reading
reading_ok b lent s h = ap (λ r. and_then r (fitting (drop 4 b) lent)) h

-- a part is faulty
pub fitting_fault : (xs : List ℕ) (lent : ℕ) (s : Size) (e : ℕ) → found s.parts (part_faulty s.farms xs) ≡ Some e → fitting xs lent s ≡ Err (Users e)
unfolding fitting
fitting_fault xs lent s e h = let p = found_some _ _ e h in simp p.0 (ap {B = Result Size Refusal} (λ k. Err (Users k)) p.1)

-- none is, and there is too little room
pub fitting_short : (xs : List ℕ) (lent : ℕ) (s : Size) → some s.parts (part_faulty s.farms xs) ≡ false → lent < word_length s.farms s.parts → fitting xs lent s ≡ Err (Short TheLine)
unfolding fitting
fitting_short xs lent s h g = simp (h, lt-ltb _ _ g)

-- none is, and there is room
pub fitting_ok : (xs : List ℕ) (lent : ℕ) (s : Size) → some s.parts (part_faulty s.farms xs) ≡ false → word_length s.farms s.parts ≤ lent → fitting xs lent s ≡ Ok s
unfolding fitting
fitting_ok xs lent s h g = simp (h, le-ltb _ _ g)

-- what is known of bytes that are taken where so many words are lent
pub record Fitted (b : List ℕ) (lent : ℕ) (s : Size) : Type 0 where
  pub size : Measured b s
  pub fine : (e : ℕ) → e < s.parts → part_faulty s.farms (drop 4 b) e ≡ false
  pub room : s.parts * across 64 s.farms ≤ lent

-- what is taken at last was a size first
steps : {s : Size} (r : Result Size Refusal) (f : Size → Result Size Refusal) → and_then r f ≡ Ok s → (t : Size) × (r ≡ Ok t) × (f t ≡ Ok s)
steps (Ok t) f h = (t, refl, h)
steps (Err e) f h = absurd (never_both e _ h)

-- bytes that are taken have passed each step
pub fitted : (b : List ℕ) (lent : ℕ) (s : Size) → reading b lent ≡ Ok s → Fitted b lent s
unfolding reading fitting
fitted b lent s h =
    let t = steps (sizing b) _ h in
    let p = passed _ _ _ t.2 in
    let q = passed _ _ _ p.1 in
    subst (Fitted b lent) (sym (taken_same s _ q.1))
    (record { size = measured b _ t.1; fine = each_fails _ _ p.0; room = ltb-false _ _ q.0 })

-- a refusal leaves the words
pub filled_err : (b words : List ℕ) (e : Refusal) → reading b (length words) ≡ Err e → words ≡ filled b words
unfolding filled
filled_err b words e h = simp h

-- bytes that are taken fill them
pub filled_ok : (b words : List ℕ) (s : Size) → reading b (length words) ≡ Ok s → filled b words ≡ over (rows 64 (meant b)) words
unfolding filled
filled_ok b words s h = simp h
