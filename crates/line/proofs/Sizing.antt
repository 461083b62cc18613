-- The size that bytes tell.
use Rattle.std.proofs.Common.{◌≡◌, ℕ, ◌-◌, ◌*◌, ◌<◌, ◌≤◌, Bool, true, false, cond, ltb, List, length, take, drop, Ok, Err, Result, sym, refl, ap, ◌∙◌, subst, ap₂, ⊎_elim, min, arith}
use Rattle.std.proofs.lemmas.Bool.{cases_lt, ltb-false, le-ltb, lt-ltb, not-false, and_parts, ltb-true, leb-true}
use Rattle.std.proofs.lemmas.List.{take_rest, length-drop}
use Rattle.std.proofs.lemmas.Bool.Decides.{nat_tests}
use Rattle.line.specs.declared.refusal.Refusal.{Refusal}
use Rattle.line.specs.declared.refusal.Refusal.TheVariants.{Length}
use Rattle.line.specs.declared.size.Size.{Size}
use Rattle.line.specs.Bytes.{two_at, byte_length}
use Rattle.line.specs.Limits.{most_farms, most_parts, Within, within}
use Rattle.line.specs.Reading.{whole, sizing}
use Rattle.line.specs.Rows.{across}

pub within_yes : (most n : ℕ) → Within most n → within most n ≡ true
within_yes most n h = let p = h.0 in let q = h.1 in grind (arith, nat_tests)

pub within_no : (most n : ℕ) → (Within most n → ⊥) → within most n ≡ false
within_no most n h = grind (arith, nat_tests, h)

-- where the first four bytes are in order, the length decides
pub sizing_whole : (b : List ℕ) (s : Size) → 4 ≤ length b → s.farms ≡ two_at b 0 → s.parts ≡ two_at b 2 → Within most_farms s.farms → Within most_parts s.parts → sizing b ≡ whole b s
unfolding sizing
sizing_whole b s long p q f g =
    let l : ltb (length b) 4 ≡ false = le-ltb _ _ long in
    let n : within most_farms (two_at b 0) ≡ true = ap (within most_farms) (sym p) ∙ within_yes _ _ f in
    let m : within most_parts (two_at b 2) ≡ true = ap (within most_parts) (sym q) ∙ within_yes _ _ g in
    let same : ◌≡◌ {A = Size} (record { farms = two_at b 0; parts = two_at b 2 }) s = ap₂ (λ x y. record { farms = x; parts = y }) (sym p) (sym q) in
    simp (l, n, m) (ap (whole b) same)

-- as many bytes as the size asks for
pub whole_yes : (b : List ℕ) (s : Size) → length b ≡ byte_length s.farms s.parts → whole b s ≡ Ok s
whole_yes b s e = simp (le-ltb (length b) (byte_length s.farms s.parts) (omega arith), le-ltb (byte_length s.farms s.parts) (length b) (omega arith))

-- another number of them: the first that is missing, or too many
pub whole_no : (b : List ℕ) (s : Size) (n : ℕ) → (length b ≡ byte_length s.farms s.parts → ⊥) → n ≡ min (length b) (byte_length s.farms s.parts) → whole b s ≡ Err (Length n)
whole_no b s n ne e =
    ⊎_elim
    (λ (l : length b < byte_length s.farms s.parts). simp (lt-ltb _ _ l) (ap {B = Result Size Refusal} (λ k. Err (Length k)) (let p : length b ≡ n = omega arith in p)))
    (λ (g : byte_length s.farms s.parts ≤ length b).
    simp (le-ltb _ _ g, lt-ltb (byte_length s.farms s.parts) (length b) (omega (arith, ne))) (ap {B = Result Size Refusal} (λ k. Err (Length k)) (let p : byte_length s.farms s.parts ≡ n = omega arith in p)))
    (cases_lt (length b) (byte_length s.farms s.parts))

-- what is known of bytes that tell a size
pub record Measured (b : List ℕ) (s : Size) : Type 0 where
  pub farms_are : s.farms ≡ two_at b 0
  pub parts_are : s.parts ≡ two_at b 2
  pub farms : Within most_farms s.farms
  pub parts : Within most_parts s.parts
  pub whole : length b ≡ byte_length s.farms s.parts

-- no answer is both
pub never_both : (e : Refusal) (s : Size) → ◌≡◌ {A = Result Size Refusal} (Err e) (Ok s) → ⊥
never_both e s h = let z : ◌≡◌ {A = ℕ} 0 1 = cc in omega arith

-- a test that refuses has failed where the answer is no refusal
pub passed : {s : Size} (t : Bool) (e : Refusal) (x : Result Size Refusal) → cond t (Err e) x ≡ Ok s → (t ≡ false) × (x ≡ Ok s)
passed true e x h = absurd (never_both e _ h)
passed false e x h = (refl, h)

-- what is taken is one size
pub taken_same : (s t : Size) → ◌≡◌ {A = Result Size Refusal} (Ok t) (Ok s) → s ≡ t
taken_same s t h = cc

pub measured : (b : List ℕ) (s : Size) → sizing b ≡ Ok s → Measured b s
unfolding sizing
measured b s h =
    let p = passed _ _ _ h in
    let q = passed _ _ _ p.1 in
    let r = passed _ _ _ q.1 in
    let t = passed _ _ _ r.1 in
    let u = passed _ _ _ t.1 in
    let is = taken_same s _ u.1 in
    subst (Measured b) (sym is)
    (record { farms_are = refl; parts_are = refl; farms = inside _ _ (not-false _ q.0); parts = inside _ _ (not-false _ r.0); whole = equal _ _ t.0 u.0 })
  where
    equal : (m n : ℕ) → ltb m n ≡ false → ltb n m ≡ false → m ≡ n
    equal m n f g = omega (arith, ltb-false m n f, ltb-false n m g)

    inside : (most n : ℕ) → within most n ≡ true → Within most n
    inside most n h = let p = and_parts _ _ h in (ltb-true _ _ p.0, leb-true _ _ p.1)

-- the rows are all that comes after four bytes
pub rows_long : (b : List ℕ) (s : Size) → Measured b s → length (take (length b - 4) (drop 4 b)) ≡ s.parts * across 8 s.farms
rows_long b s d = ap length (take_rest b 4) ∙ omega (arith, length-drop 4 b, d.whole)
