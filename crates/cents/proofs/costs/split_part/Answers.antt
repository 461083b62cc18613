use Rattle.std.proofs.Common.{◌≡◌, ℕ, ◌+◌, ◌<◌, ◌≤◌, Bool, false, ltb, length, sym, refl, ap, ◌∙◌, div-le_self, arith}
use Rattle.std.proofs.lemmas.Nat.{mod_below}
use Rattle.std.proofs.lemmas.Bool.{le-ltb, and_left}
use Rattle.number.specs.Sum.{one}
use Rattle.number.proofs.Sums.{one_most}
use Rattle.line.specs.Held.{held}
use Rattle.line.specs.Line.{users}
use Rattle.share.specs.Answer.{at}
use Rattle.cents.proofs.Chosen.{chosen-pays, left_first, left_user, left_other, chosen_next}
use Rattle.cents.proofs.Turns.{halfway_none, halfway_user, halfway_other, halfway_at, halfway_all}
use Rattle.cents.proofs.costs.split_part.Goals as goal
use Rattle.cents.proofs.costs.split_part.Goals.{then-uses, else-uses}

pub nonzero_div-each : goal.nonzero_div-each
unfolding users
nonzero_div-each c = omega (arith, c.args.line.now.sound.used c.args.part.0 c.requires.part, c.list_counts.ensures.all)

pub nonzero_rem-cost : goal.nonzero_rem-cost
unfolding users
nonzero_rem-cost c = omega (arith, c.args.line.now.sound.used c.args.part.0 c.requires.part, c.list_counts.ensures.all)

pub level_of-level-requires : goal.level_of-level-requires
unfolding users
level_of-level-requires c =
    let some : 0 < c.len-users.result = omega (arith, c.args.line.now.sound.used c.args.part.0 c.requires.part, c.list_counts.ensures.all) in
    omega (arith, mod_below c.args.cost c.len-users.result some, ap length c.as_slice.ensures.value)

pub loop-i-init : goal.loop-i-init
loop-i-init c =
    let level = c.level_of-level.result in
    let line = c.args.line.now in record {
      rows = halfway_none (held line) c.args.part.0 c.args.cost c.args.odd.now c.args.sums.now;
      level = refl;
      left = left_first (λ j. (held line).uses j c.args.part.0) (at c.args.odd.now) level.count level.left;
    }

-- an odd cent is at most one
odd_most : {m : ℕ} (b : Bool) → m ≡ one b → m ≤ 1
odd_most b is = omega (arith, one_most b)

pub overflow_add-sums : goal.overflow_add-sums
overflow_add-sums c =
    let small = c.requires.cent_room c.loop-i.i c.loop-i-test.true in
    omega (arith, div-le_self c.args.cost c.len-users.result, odd_most _ c.one_more-more.ensures.more)

pub overflow_add-sums-then-uses : goal.overflow_add-sums-then-uses
overflow_add-sums-then-uses c =
    let small = c.requires.cent_room c.loop-i.i c.loop-i-test.true in
    omega (arith, div-le_self c.args.cost c.len-users.result, odd_most _ c.one_more-more.ensures.more, c.loop-i.invariant.rows.cents_after c.loop-i.i (omega arith))

pub overflow_add-odd : goal.overflow_add-odd
overflow_add-odd c =
    let small = c.requires.count_room c.loop-i.i c.loop-i-test.true in
    omega (arith, odd_most _ c.one_more-more.ensures.more, c.loop-i.invariant.rows.counts_after c.loop-i.i (omega arith))

pub loop-i-preserved : goal.loop-i-preserved
unfolding users
loop-i-preserved c =
    let line = c.args.line.now in
    let l = held line in
    let e = c.args.part.0 in
    let i = c.loop-i.i in
    let odd = at c.args.odd.now in
    let level = c.level_of-level.result in
    let many : length c.list_counts.new.counts.items ≡ c.len-users.result = sym c.len-users.ensures.value in
    let counts : c.as_slice.result.now ≡ c.list_counts.new.counts.items = c.as_slice.ensures.value in
    let past : (k : ℕ) → line.size.farms ≤ k → l.uses k e ≡ false = λ k h. and_left (ltb k line.size.farms) _ (le-ltb k line.size.farms h) in
    elim c.if-uses.branch [
      | then-uses w ↦
          let uses = sym c.uses.ensures ∙ w.if-uses.true in
          let paid = c.loop-i.invariant.rows.counts_after i (omega arith) in
          record {
            rows = halfway_at l _ _ _ _ (i + 1) w.odd-is w.sums-is
                (halfway_user l _ _ _ _ c.len-users.result _ c.loop-i.invariant.rows (omega (arith, c.requires.counts)) (omega (arith, c.requires.cents)) uses (sym many ∙ c.list_counts.ensures.all)
                (w.one_more-more.ensures.more ∙ ap one (chosen_next _ odd level.count level.left i c.loop-i.level.left _ _ c.loop-i.invariant.left uses paid c.loop-i.invariant.level ∙ sym (chosen-pays l e c.args.cost odd level.count level.left i past c.list_counts.ensures (rw (many, ← counts) c.level_of-level.ensures.left) (rw (many, ← counts) c.level_of-level.ensures.next)))));
            level = ap (λ v. v.count) w.level-is ∙ w.one_more-more.ensures.count ∙ c.loop-i.invariant.level;
            left = left_user _ odd level.count level.left i c.loop-i.level.left _ _ c.loop-i.invariant.left uses paid c.loop-i.invariant.level c.if-uses.level.left (ap (λ v. v.left) w.level-is ∙ w.one_more-more.ensures.left);
          }
      | else-uses w ↦
          record {
            rows = halfway_at l _ _ _ _ (i + 1) w.odd-is w.sums-is (halfway_other l _ _ _ _ c.loop-i.invariant.rows (sym c.uses.ensures ∙ w.if-uses.false));
            level = ap (λ v. v.count) w.level-is ∙ c.loop-i.invariant.level;
            left = left_other _ odd level.count level.left i _ c.loop-i.invariant.left (sym c.uses.ensures ∙ w.if-uses.false) c.if-uses.level.left (ap (λ v. v.left) w.level-is);
          }
    ]

pub returns : goal.returns
returns c =
    let line = c.args.line.now in
    let done = halfway_all (held line) c.args.part.0 c.args.cost c.args.odd.now c.args.sums.now c.loop-i.invariant.rows
    (λ k h. and_left (ltb k line.size.farms) _ (le-ltb k line.size.farms (omega arith))) in
    record { counts = done.counts; cents = done.cents }
