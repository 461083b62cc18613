-- What is due, computed part by part and farm by farm.
use Rattle.std.proofs.Common.{◌≡◌, ℕ, ◌+◌, ◌*◌, ◌/◌, ◌^◌, ◌<◌, ◌≤◌, true, false, ◌≢◌, List, length, set, sym, ap, ◌∙◌, mul-le-mul, div-le_self, arith, below_more}
use Rattle.std.proofs.lemmas.List.{get_or-set_same, get_or-set_other}
use Rattle.number.specs.Sum.{sum}
use Rattle.number.proofs.Sums.{sum_most}
use Rattle.line.specs.Limits.{most_parts, costs_end}
use Rattle.line.specs.Line.{Line, users}
use Rattle.share.specs.Answer.{at}
use Rattle.share.specs.Asked.{Asked}
use Rattle.share.specs.Limits.{scale_end}
use Rattle.share.specs.Scale.{due}
use Rattle.share.specs.Weight.{once, AllUsed}
use Rattle.share.proofs.Leasts.{least_scale}
use Rattle.share.proofs.Scales.{due_most, due_used, due_unused}

-- what farm i has to pay for the first k parts, times the scale
abbrev pub owed : Line → ℕ → List ℕ → ℕ → ℕ → ℕ
owed l scale costs i k = due (once l) (λ e. scale / users l e) (at costs) i k

-- it stays below 2^63
pub owed_small : (l : Line) (scale : ℕ) (costs : List ℕ) → Asked l costs scale → AllUsed l → l.parts ≤ most_parts →
    (i k : ℕ) → i < l.farms → k ≤ l.parts → owed l scale costs i k < 2 ^ 63
unfolding most_parts costs_end scale_end
owed_small l scale costs a used few i k h g =
    let most = due_most l (once l) (at costs) scale (λ e. scale / users l e) (least_scale l (at costs) scale used a.least) i k h g in
    let all : sum k (at costs) ≤ k * costs_end = sum_most k costs_end (at costs) (λ e p. omega (arith, a.small e (omega arith))) in
    let s : scale ≤ 4096 = omega (arith, a.below) in
    let c : sum k (at costs) ≤ 900000000000000 = omega arith in
    omega (arith, mul-le-mul s c)

-- a row that holds what the first n farms have to pay: for the first e + 1 parts below i, and for the first e from i on
pub record Halfway (l : Line) (scale : ℕ) (costs row : List ℕ) (i e : ℕ) : Type 0 where
  pub before : (k : ℕ) → k < i → at row k ≡ owed l scale costs k (e + 1)
  pub after : (k : ℕ) → i ≤ k → k < l.farms → at row k ≡ owed l scale costs k e

-- a farm's number is written
pub halfway_set : (l : Line) (scale : ℕ) (costs row : List ℕ) (i e x : ℕ) → i < length row → x ≡ owed l scale costs i (e + 1) → Halfway l scale costs row i e → Halfway l scale costs (set row i x) (i + 1) e
halfway_set l scale costs row i e x p here h =
    record {
      before = below_more _ i (λ k s. let ne : k ≢ i = omega arith in rw get_or-set_other (h.before k s)) (rw get_or-set_same here);
      after = λ k s t. let ne : k ≢ i = omega arith in rw get_or-set_other (h.after k (omega arith) t);
    }

-- what one user has to pay for a part
pub each_small : (scale u x : ℕ) → scale < scale_end → x < costs_end → scale / u * x < 2 ^ 63
unfolding scale_end costs_end
each_small scale u x s c =
    let few : scale / u ≤ 4096 = omega (arith, div-le_self scale u) in
    let low : x ≤ 1000000000000 = omega arith in
    omega (arith, mul-le-mul few low)

-- a farm that uses the part, where x is what it owes so far, u how many users there are, and y the cost
pub owed_used : (l : Line) (scale : ℕ) (costs : List ℕ) (i e u x y : ℕ) → l.uses i e ≡ true → u ≡ users l e → y ≡ at costs e → x ≡ owed l scale costs i e → x + scale / u * y ≡ owed l scale costs i (e + 1)
owed_used l scale costs i e u x y uses same is so =
    omega (arith, due_used l (λ f. scale / users l f) (at costs) i e uses, ap (λ z. scale / z * at costs e) same, ap (λ z. scale / u * z) is)

-- one that doesn't
pub owed_unused : (l : Line) (scale : ℕ) (costs : List ℕ) (i e x : ℕ) → l.uses i e ≡ false → x ≡ owed l scale costs i e → x ≡ owed l scale costs i (e + 1)
owed_unused l scale costs i e x uses so = so ∙ sym (due_unused l (λ f. scale / users l f) (at costs) i e uses)
