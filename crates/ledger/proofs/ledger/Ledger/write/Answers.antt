use Rattle.std.proofs.Common.{◌≡◌, ℕ, ◌<◌, ◌≤◌, List, ◌++◌, length, take, drop, replicate, rules, ap, ◌∙◌, arith}
use Rattle.std.proofs.lemmas.List.{length-take-le}
use Rattle.line.specs.Held.{held as line_held}
use Rattle.line.specs.Limits.{costs_end}
use Rattle.share.specs.Answer.{at}
use Rattle.ledger.specs.Room.{CostsFit}
use Rattle.ledger.proofs.Rows.{cleared_rows, filled_zero}
use Rattle.ledger.proofs.ledger.Ledger.write.Goals as goal

-- no costs are left
no_costs : (m : ℕ) (costs new : List ℕ) → m ≤ length costs → new ≡ replicate (length (take m costs)) 0 → (e : ℕ) → e < m → at (new ++ drop m costs) e ≡ 0
no_costs m costs new room is = filled_zero m new (drop m costs) (is ∙ ap (λ k. replicate k 0) (length-take-le m costs room))

pub invariant_of-self-3 : goal.invariant_of-self-3
unfolding costs_end
invariant_of-self-3 c =
    let g = c.args.self.now in
    let m = g.line.now.size.parts in
    let costs : CostsFit m (c.fill.new.self ++ drop m g.costs.now) = λ e h. omega (arith, no_costs m g.costs.now c.fill.new.self g.fits.costs_room (c.fill.ensures.after (λ _ z. z)) e h) in
    search rules

pub returns-clause-after : goal.returns-clause-after
returns-clause-after c =
    let g = c.args.self.now in
    let b = c.args.books.now in
    cleared_rows (line_held g.line.now) b.accounts _ b.odd _ g.costs.now _ (λ i h. c.copy_front.ensures.copied i (omega arith)) c.copy_front-2.ensures.copied
    (no_costs g.line.now.size.parts g.costs.now c.fill.new.self g.fits.costs_room (c.fill.ensures.after (λ _ z. z)))
