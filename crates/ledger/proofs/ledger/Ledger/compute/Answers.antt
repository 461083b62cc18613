use Rattle.std.proofs.Common.{◌≡◌, ℕ, ◌<◌, ◌≤◌, false, ltb, List, length, take, pos, ◌+ℤ◌, ◌-ℤ◌, refl, ap, ◌∙◌, subst, ap₂, arith, w64, to_z}
use Rattle.std.proofs.lemmas.List.{get_or-take, length-take-le, get_or-replicate}
use Rattle.std.proofs.lemmas.Bool.{and_left, le-ltb}
use Rattle.number.specs.Sum.{sum}
use Rattle.number.proofs.Sums.{sum_same, sum_most}
use Rattle.line.specs.Held.{held as line_held}
use Rattle.line.specs.Limits.{most_farms, most_parts, costs_end}
use Rattle.account.specs.Range.{in_range, account_at}
use Rattle.share.specs.Answer.{at}
use Rattle.share.specs.Weight.{once}
use Rattle.share.proofs.Weights.{once_fits_lem}
use Rattle.cents.specs.Closing.{odds, charged}
use Rattle.cents.proofs.Closing.{odds_same, charged_same, closing_adds_up_lem}
use Rattle.ledger.proofs.Rows.{same_cents, closing_rows}
use Rattle.ledger.proofs.ledger.Ledger.compute.Goals as goal

-- the farms' sums, without the room behind them
module _ (n : ℕ) (sums : List ℕ) (room : n ≤ length sums) where
  many : length (take n sums) ≡ n
  many = length-take-le n sums room

  all : sum (length (take n sums)) (at (take n sums)) ≡ sum n (at sums)
  all = rw many (sum_same n _ _ (λ i h. get_or-take n sums i 0 h))

pub split_parts-requires : goal.split_parts-requires
unfolding most_farms
split_parts-requires c =
    let g = c.args.self.now in
    record {
      asked = record {
        enough = g.fits.costs_room;
        small = g.fits.costs_fit;
        counts = omega (arith, g.line.now.sound.farms.1, c.copy_front-2.auto.to);
        low = λ i h. omega (arith, c.copy_front-2.ensures.copied i h, g.fits.odd_fit i h);
      };
      room = g.line.now.sound.farms.1;
      clear = λ i h. get_or-replicate most_farms i 0 0 (omega (arith, g.line.now.sound.farms.1));
    }

pub settle-total-requires : goal.settle-total-requires
unfolding most_farms most_parts costs_end
settle-total-requires c =
    let g = c.args.self.now in
    let l = line_held g.line.now in
    let n = g.line.now.size.farms in
    let m = g.line.now.size.parts in
    let room : n ≤ length c.split_parts.new.sums = omega (arith, g.line.now.sound.farms.1, c.split_parts.auto.sums) in
    let charges = all n c.split_parts.new.sums room ∙ sum_same n _ _ c.split_parts.ensures.cents ∙ closing_adds_up_lem l (once l) (once_fits_lem l g.line.now.sound.used) (at g.costs.now) _ in
    record {
      room = omega (arith, many n c.split_parts.new.sums room, g.line.now.sound.farms.1, c.copy_front.auto.to);
      fit = λ i h. let k : i ≤ n = omega (arith, many n c.split_parts.new.sums room) in ap (λ x. in_range (to_z w64 x)) (c.copy_front.ensures.copied i (omega arith)) ∙ g.fits.accounts_fit i k;
      small = omega (arith, charges, sum_most m costs_end (at g.costs.now) (λ e h. omega (arith, g.fits.costs_fit e h)), g.line.now.sound.parts.1);
    }

pub returns : goal.returns
unfolding most_farms
returns c =
    let g = c.args.self.now in
    let l = line_held g.line.now in
    let n = g.line.now.size.farms in
    let m = g.line.now.size.parts in
    let costs = at g.costs.now in
    let odd = at g.odd.now in
    let sums = c.split_parts.new.sums in
    let room : n ≤ length sums = omega (arith, g.line.now.sound.farms.1, c.split_parts.auto.sums) in
    let outside : (i e : ℕ) → n ≤ i → l.uses i e ≡ false = λ i e h. and_left (ltb i n) _ (le-ltb i n h) in
    let paid : (i : ℕ) → i < n → at sums i ≡ charged l (once l) costs odd i m =
    λ i h. c.split_parts.ensures.cents i h ∙ charged_same l (once l) costs costs _ odd m (λ _ _. refl) c.copy_front-2.ensures.copied m (omega arith) i h in
    let counted : (i : ℕ) → i < n → at c.split_parts.new.odd i ≡ odds l (once l) costs odd m i =
    λ i h. c.split_parts.ensures.counts i h ∙ odds_same l (once l) costs costs _ odd m (λ _ _. refl) c.copy_front-2.ensures.copied m (omega arith) i h in
    let total = all n sums room ∙ sum_same n _ _ paid in
    let moved : (i : ℕ) → i < n → account_at c.settle-total.new.accounts i ≡ account_at g.accounts.now i -ℤ pos (charged l (once l) costs odd i m) =
    λ i h. c.settle-total.ensures.farms i (omega (arith, many n sums room)) ∙ ap₂ (λ x y. to_z w64 x -ℤ pos y) (c.copy_front.ensures.copied i (omega arith)) (get_or-take n sums i 0 h ∙ paid i h) in
    let pooled : account_at c.settle-total.new.accounts n ≡ account_at g.accounts.now n +ℤ pos (sum n (λ i. charged l (once l) costs odd i m)) =
    subst (λ k. account_at c.settle-total.new.accounts k ≡ account_at c.copy_front.new.to k +ℤ pos (sum k (at (take n sums)))) (many n sums room) c.settle-total.ensures.cooperative
    ∙ ap₂ (λ x y. to_z w64 x +ℤ pos y) (c.copy_front.ensures.copied n (omega arith)) (sum_same n _ _ (λ i h. get_or-take n sums i 0 h ∙ paid i h)) in
    record {
      total = c.settle-total.ensures.total ∙ total ∙ sum_same n _ _ (same_cents l g.accounts.now g.odd.now g.costs.now outside);
      after = closing_rows l g.accounts.now g.odd.now g.costs.now outside c.settle-total.new.accounts c.split_parts.new.odd moved pooled counted;
    }
