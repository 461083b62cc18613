use Rattle.std.proofs.Common.{◌≡◌, ℕ, zero, suc, ◌<◌, ◌≤◌, ◌∙◌, false, ltb, List, length, take, refl, sym, subst, rules, arith}
use Rattle.std.proofs.lemmas.List.{get_or-take, length-take-le}
use Rattle.std.proofs.lemmas.Bool.{le-ltb, and_left}
use Rattle.line.specs.Held.{held}
use Rattle.line.specs.Line.{Line}
use Rattle.number.proofs.Along.{along_start, along_turn, along_end}
use Rattle.share.specs.Answer.{at}
use Rattle.cents.proofs.Turns.{Upto, Turned, upto_none, upto_more, upto_free, upto_at, room}
use Rattle.cents.proofs.costs.split_parts.Goals as goal

pub loop-e-init : goal.loop-e-init
loop-e-init c =
    let line = c.args.line.now in
    let start = along_start line.size.parts c.args.costs.now _ _ c.into_iter-e-iterator.ensures.into_iter_gives c.zip-e-items.ensures.first (search rules) in
    (((tt, tt), tt), start.0, rw start.1 (upto_none (held line) c.args.costs.now c.args.odd.now c.args.sums.now c.requires.clear))

pub split_part-requires : goal.split_part-requires
split_part-requires c =
    let line = c.args.line.now in
    let costs = c.args.costs.now in
    let turn = along_turn c.loop-e.invariant.1 c.next.new.self c.in-Some.cost c.in-Some.ensures.steps in
    let up : Upto (held line) costs c.args.odd.now c.args.sums.now c.in-Some.e c.loop-e.odd c.loop-e.sums = rw turn.here c.loop-e.invariant.2 in
    let room = room (held line) costs c.args.odd.now c.requires.asked line.sound.parts.1 up turn.below in
    record {
      part = turn.below;
      counts = omega (arith, c.requires.asked.counts);
      cents = omega (arith, c.requires.room);
      count_room = λ i h. (room i h).0;
      cent_room = λ i h. omega (arith, turn.item, (room i h).1);
    }

-- a part's cost is the one that stands in the row
cost_here : {l : Line} {e x c : ℕ} {odd sums odd' sums' : List ℕ} → Turned l e x odd sums odd' sums' → x ≡ c → Turned l e c odd sums odd' sums'
cost_here {l} {e} {x} {c} {odd} {sums} {odd'} {sums'} turned is = subst (λ y. Turned l e y odd sums odd' sums') is turned

pub loop-e-preserved-then-cost-gt0 : goal.loop-e-preserved-then-cost-gt0
loop-e-preserved-then-cost-gt0 c =
    let line = c.args.line.now in
    let l = held line in
    let costs = c.args.costs.now in
    let e = c.in-Some.e in
    let turn = along_turn c.loop-e.invariant.1 c.next.new.self c.in-Some.cost c.in-Some.ensures.steps in
    let past : (i : ℕ) → line.size.farms ≤ i → l.uses i e ≡ false = λ k h. and_left (ltb k line.size.farms) _ (le-ltb k line.size.farms h) in
    let turned : Turned l e (at costs e) c.loop-e.odd c.loop-e.sums c.split_part.new.odd c.split_part.new.sums =
    cost_here (record { counts = c.split_part.ensures.counts; cents = c.split_part.ensures.cents }) (omega (arith, turn.item)) in
    (((tt, tt), tt), turn.along, rw turn.next (upto_more l costs c.args.odd.now (rw turn.here c.loop-e.invariant.2) past turned))

pub loop-e-preserved : goal.loop-e-preserved
loop-e-preserved c =
    let line = c.args.line.now in
    let turn = along_turn c.loop-e.invariant.1 c.next.new.self c.in-Some.cost c.in-Some.ensures.steps in
    (((tt, tt), tt), turn.along, rw turn.next (upto_free (held line) c.args.costs.now c.args.odd.now (rw turn.here c.loop-e.invariant.2) (omega (arith, turn.item))))

pub returns : goal.returns
returns c =
    let line = c.args.line.now in
    let all = along_end c.loop-e.invariant.1 c.next.new.self c.requires.asked.enough c.in-None.ensures.steps in
    let up = upto_at (held line) c.args.costs.now c.args.odd.now line.size.parts (sym all) refl refl c.loop-e.invariant.2 in
    record { counts = up.counts; cents = up.cents; counts_rest = up.counts_rest; cents_rest = up.cents_rest }

-- where the first k parts have no cost, nothing of them is split
upto_free_parts : (l : Line) (costs odd sums : List ℕ) → ((i : ℕ) → i < l.farms → at sums i ≡ 0) → (k : ℕ) → ((e : ℕ) → e < k → at costs e ≡ 0) → Upto l costs odd sums k odd sums
upto_free_parts l costs odd sums clear zero free = upto_none l costs odd sums clear
upto_free_parts l costs odd sums clear (suc k) free =
    upto_at l costs odd (suc k) (omega arith) refl refl (upto_free l costs odd (upto_free_parts l costs odd sums clear k (λ e h. free e (omega arith))) (free k (omega arith)))

-- where none of the first m has, nothing is
unsplit : (l : Line) (m : ℕ) (costs odd sums : List ℕ) → ((i : ℕ) → i < l.farms → at sums i ≡ 0) → m ≤ length costs → ((e : ℕ) → e < m → at (take m costs) e ≡ 0) → Upto l costs odd sums m odd sums
unsplit l m costs odd sums clear enough free = upto_free_parts l costs odd sums clear m (λ e h. sym (get_or-take m costs e 0 h) ∙ free e h)

pub returns-then-all-clause-counts : goal.returns-then-all-clause-counts
returns-then-all-clause-counts c =
    let long = length-take-le c.args.line.now.size.parts c.args.costs.now c.requires.asked.enough in
    (unsplit (held c.args.line.now) _ c.args.costs.now c.args.odd.now c.args.sums.now c.requires.clear c.requires.asked.enough (λ e h. search rules)).counts

pub returns-then-all-clause-cents : goal.returns-then-all-clause-cents
returns-then-all-clause-cents c =
    let long = length-take-le c.args.line.now.size.parts c.args.costs.now c.requires.asked.enough in
    (unsplit (held c.args.line.now) _ c.args.costs.now c.args.odd.now c.args.sums.now c.requires.clear c.requires.asked.enough (λ e h. search rules)).cents
