use Rattle.std.proofs.Common.{◌≡◌, ℕ, ◌<◌, ◌++◌, length, drop, Some, None, sym, ◌∙◌, arith}
use Rattle.std.proofs.lemmas.List.{get_or-take, get_or-replicate, length-take-le}
use Rattle.std.proofs.lemmas.Result.{err_from_is_err_and}
use Rattle.number.proofs.Positions.{found_none}
use Rattle.number.proofs.Sums.{sum_same}
use Rattle.line.specs.Held.{held}
use Rattle.line.specs.Limits.{most_farms, most_parts, costs_end}
use Rattle.share.specs.Answer.{at}
use Rattle.share.specs.Weight.{once}
use Rattle.share.proofs.Refusing.{costs_fine}
use Rattle.share.proofs.Weights.{once_fits_lem}
use Rattle.cents.specs.Answer.{odds_then, past}
use Rattle.cents.specs.Closing.{charged}
use Rattle.cents.proofs.Capped.{capped_front, copied, found_capped, odds_capped, charged_capped}
use Rattle.cents.proofs.Closing.{closing_adds_up_lem}
use Rattle.cents.proofs.Refusing.{split_short, split_on, split_counts}
use Rattle.cents.proofs.Turns.{due_small}
use Rattle.cents.proofs.costs.split_costs.Goals as goal

pub returns-then-odd-farms-clause-refused : goal.returns-then-odd-farms-clause-refused
returns-then-odd-farms-clause-refused c = sym (split_short (held c.args.line.now) c.args.costs.now c.args.odd.now (length c.args.sums.now) c.then-odd-farms.either)

pub returns-in_err-check_costs-clause-refused : goal.returns-in_err-check_costs-clause-refused
returns-in_err-check_costs-clause-refused c =
    let p = err_from_is_err_and c.from_residual.result c.from_residual.ensures.1 in
    rw (p.1, p.2) (sym (split_on (held c.args.line.now) c.args.costs.now c.args.odd.now (length c.args.sums.now) _ c.if-odd-farms.false c.if-sums-farms.false c.in_err-check_costs.ensures))

pub slice_bounds-counts-end : goal.slice_bounds-counts-end
unfolding most_farms
slice_bounds-counts-end c = c.args.line.now.sound.farms.1

pub slice_bounds-cents-end : goal.slice_bounds-cents-end
unfolding most_farms
slice_bounds-cents-end c = c.args.line.now.sound.farms.1

pub slice_bounds-counts-end-2 : goal.slice_bounds-counts-end-2
unfolding most_farms
slice_bounds-counts-end-2 c = sym (length-take-le c.args.line.now.size.farms _ c.args.line.now.sound.farms.1)

pub slice_bounds-cents-end-2 : goal.slice_bounds-cents-end-2
unfolding most_farms
slice_bounds-cents-end-2 c = sym (length-take-le c.args.line.now.size.farms _ c.args.line.now.sound.farms.1)

pub copy_from_slice-requires : goal.copy_from_slice-requires
unfolding most_farms
copy_from_slice-requires c = length-take-le c.args.line.now.size.farms _ c.args.line.now.sound.farms.1 ∙ sym (length-take-le c.args.line.now.size.farms c.args.odd.now c.if-odd-farms.false)

pub split_parts-requires-clause-asked : goal.split_parts-requires-clause-asked
split_parts-requires-clause-asked c =
    let line = c.args.line.now in
    let n = line.size.farms in
    let odd = c.args.odd.now in
    let fine = costs_fine line.size.parts c.args.costs.now (sym c.in_ok-check_costs.ensures) in
    let front = capped_front n odd c.copy_from_slice.new.self c.cap.new.counts c.copy_from_slice.ensures.after c.cap.ensures c.if-odd-farms.false in
    record {
      enough = fine.0;
      small = fine.1;
      counts = omega (arith, front.long);
      low = λ i h. omega (arith, front.capped i h);
    }

pub split_parts-requires-clause-clear : goal.split_parts-requires-clause-clear
unfolding most_farms
split_parts-requires-clause-clear c i h = get_or-take c.args.line.now.size.farms _ i 0 h ∙ get_or-replicate most_farms i 0 0 (omega (arith, c.args.line.now.sound.farms.1))

pub returns-in-Some-clause-refused : goal.returns-in-Some-clause-refused
returns-in-Some-clause-refused c =
    let line = c.args.line.now in
    let l = held line in
    let n = line.size.farms in
    let costs = c.args.costs.now in
    let odd = c.args.odd.now in
    let front = capped_front n odd c.copy_from_slice.new.self c.cap.new.counts c.copy_from_slice.ensures.after c.cap.ensures c.if-odd-farms.false in
    let found = found_capped l costs odd c.cap.new.counts front c.split_parts.new.odd (c.split_parts.auto.odd ∙ front.long) c.split_parts.ensures.counts in
    split_counts l costs odd (length c.args.sums.now) c.if-odd-farms.false c.if-sums-farms.false c.in_ok-check_costs.ensures (Some c.in-Some.at) (c.in-Some.ensures ∙ found)

pub returns-clause-refused : goal.returns-clause-refused
returns-clause-refused c =
    let line = c.args.line.now in
    let l = held line in
    let n = line.size.farms in
    let costs = c.args.costs.now in
    let odd = c.args.odd.now in
    let front = capped_front n odd c.copy_from_slice.new.self c.cap.new.counts c.copy_from_slice.ensures.after c.cap.ensures c.if-odd-farms.false in
    let found = found_capped l costs odd c.cap.new.counts front c.split_parts.new.odd (c.split_parts.auto.odd ∙ front.long) c.split_parts.ensures.counts in
    split_counts l costs odd (length c.args.sums.now) c.if-odd-farms.false c.if-sums-farms.false c.in_ok-check_costs.ensures None (c.in_default.ensures ∙ found)

pub returns-clause-answer : goal.returns-clause-answer
unfolding most_parts costs_end
returns-clause-answer c =
    let line = c.args.line.now in
    let l = held line in
    let n = line.size.farms in
    let costs = c.args.costs.now in
    let odd = c.args.odd.now in
    let counts = c.cap.new.counts in
    let front = capped_front n odd c.copy_from_slice.new.self counts c.copy_from_slice.ensures.after c.cap.ensures c.if-odd-farms.false in
    let found = found_capped l costs odd counts front c.split_parts.new.odd (c.split_parts.auto.odd ∙ front.long) c.split_parts.ensures.counts in
    let none = found_none n (past (odds_then l costs odd)) (sym (c.in_default.ensures ∙ found)) in
    let fine = costs_fine line.size.parts costs (sym c.in_ok-check_costs.ensures) in
    let new-odd = copied n c.split_parts.new.odd odd c.copy_from_slice-2.new.self c.copy_from_slice-2.ensures.after (c.copy_from_slice-2.ensures.len ∙ length-take-le n odd c.if-odd-farms.false) in
    let sums = c.args.sums.now in
    let new-sums = copied n c.split_parts.new.sums sums c.copy_from_slice-3.new.self c.copy_from_slice-3.ensures.after (c.copy_from_slice-3.ensures.len ∙ length-take-le n sums c.if-sums-farms.false) in
    let paid : (i : ℕ) → i < n → at (c.copy_from_slice-3.new.self ++ drop n sums) i ≡ charged l (once l) (at costs) (at odd) i line.size.parts =
    λ i h. new-sums.front i h ∙ c.split_parts.ensures.cents i h ∙ charged_capped l costs odd counts front none i h in
    record {
      cents = paid;
      all = sum_same n _ _ paid ∙ closing_adds_up_lem l (once l) (once_fits_lem l line.sound.used) (at costs) (at odd);
      small = λ i h. omega (arith, paid i h, due_small l costs odd i line.size.parts fine.1 h (omega arith), line.sound.parts.1);
      counts = λ i h. new-odd.front i h ∙ c.split_parts.ensures.counts i h ∙ odds_capped l costs odd counts front none i h;
      cents_rest = new-sums.rest;
      counts_rest = new-odd.rest;
    }
