use Rattle.std.proofs.Common.{◌≡◌, ℕ, ◌+◌, ◌-◌, ◌^◌, ◌<◌, ◌≢◌, List, length, refl, ap, ◌∙◌, arith, w64, to_z, below_more}
use Rattle.std.proofs.lemmas.Int.{ints}
use Rattle.std.proofs.lemmas.List.{get_or-set_same, get_or-set_other}
use Rattle.number.specs.Sum.{sum}
use Rattle.number.proofs.Sums.{sum_next, sum_has, sum_append}
use Rattle.share.specs.Answer.{at}
use Rattle.ledger.proofs.closing.settle.Goals as goal

-- each sum is small where all together are
small : (sums : List ℕ) (i : ℕ) → i < length sums → sum (length sums) (at sums) < 2 ^ 62 → at sums i < 2 ^ 62
small sums i l h = omega (arith, sum_has (length sums) i (at sums) l)

pub loop-i-init : goal.loop-i-init
unfolding sum
loop-i-init c = (refl, λ k h. absurd (omega arith), λ k h. refl)

pub overflow_cast-sum : goal.overflow_cast-sum
overflow_cast-sum c = omega (arith, ints, small c.args.sums.now c.loop-i.i c.loop-i-test.true c.requires.small)

pub overflow_sub-sum : goal.overflow_sub-sum
overflow_sub-sum c = omega (arith, ints, small c.args.sums.now c.loop-i.i c.loop-i-test.true c.requires.small)

pub moved-requires-clause-low : goal.moved-requires-clause-low
moved-requires-clause-low c = omega (arith, ints, small c.args.sums.now c.loop-i.i c.loop-i-test.true c.requires.small)

pub moved-requires-clause-high : goal.moved-requires-clause-high
moved-requires-clause-high c = omega (arith, ints, small c.args.sums.now c.loop-i.i c.loop-i-test.true c.requires.small)

pub overflow_add-total : goal.overflow_add-total
overflow_add-total c =
    let sums = at c.args.sums.now in
    let i = c.loop-i.i in
    let n = length c.args.sums.now in
    let all : n - (i + 1) + (i + 1) ≡ n = omega (arith, c.loop-i-test.true) in
    omega (arith, c.loop-i.invariant.0, sum_next i sums, sum_append (i + 1) (n - (i + 1)) sums, ap (λ k. sum k sums) all, c.requires.small)

pub loop-i-preserved : goal.loop-i-preserved
loop-i-preserved c = (
  omega (arith, sum_next c.loop-i.i (at c.args.sums.now), c.loop-i.invariant.0),
  below_more _ _ (λ k h. let ne : k ≢ c.loop-i.i = omega arith in rw get_or-set_other (c.loop-i.invariant.1 k h))
      (ap (to_z w64) (get_or-set_same c.loop-i.accounts c.loop-i.i _ 0 (omega arith)) ∙ omega (arith, ints, c.moved.ensures, c.loop-i.invariant.2 c.loop-i.i (omega arith), small c.args.sums.now c.loop-i.i c.loop-i-test.true c.requires.small)),
  λ k h. let ne : k ≢ c.loop-i.i = omega arith in rw get_or-set_other (c.loop-i.invariant.2 k (omega arith)),
)
