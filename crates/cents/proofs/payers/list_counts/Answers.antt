use Rattle.std.proofs.Common.{◌≡◌, [], ◌∷◌, ◌++◌, sym, ap, ◌∙◌, subst, lit<, arith}
use Rattle.std.proofs.lemmas.List.{get_or-take, length-take-le}
use Rattle.line.specs.Held.{held}
use Rattle.line.specs.Limits.{most_farms}
use Rattle.share.specs.Answer.{at}
use Rattle.cents.specs.Marking.{Listed}
use Rattle.cents.proofs.Counts.{listed_none, listed_few, listed_more, listed_same}
use Rattle.cents.proofs.payers.list_counts.Goals as goal
use Rattle.cents.proofs.payers.list_counts.Goals.{then-uses, else-uses}

pub loop-i-init : goal.loop-i-init
loop-i-init c = listed_none (λ i. (held c.args.line.now).uses i c.args.part.0) (at c.args.odd.now) c.clear.new.self.items c.clear.ensures

pub push-requires : goal.push-requires
unfolding most_farms
push-requires c = (lit< tt, omega (arith, length-take-le c.args.line.now.size.farms c.args.odd.now c.requires, listed_few _ _ c.loop-i.invariant, c.args.line.now.sound.farms.1))

pub loop-i-preserved : goal.loop-i-preserved
loop-i-preserved c =
    let long = length-take-le c.args.line.now.size.farms c.args.odd.now c.requires in
    let count = get_or-take c.args.line.now.size.farms c.args.odd.now c.loop-i.i 0 (omega arith) in
    elim c.if-uses.branch [
      | then-uses w ↦
          listed_more _ _ c.loop-i.invariant (sym c.uses.ensures ∙ w.if-uses.true) c.if-uses.counts.items
          (ap (λ v. v.items) w.counts-is ∙ w.push.ensures.items ∙ ap (λ x. c.loop-i.counts.items ++ x ∷ []) count)
      | else-uses w ↦ rw w.counts-is (listed_same _ _ c.loop-i.invariant (sym c.uses.ensures ∙ w.if-uses.false))
    ]

pub returns : goal.returns
returns c =
    let long = length-take-le c.args.line.now.size.farms c.args.odd.now c.requires in
    let all : c.loop-i.i ≡ c.args.line.now.size.farms = omega arith in
    subst (λ n. Listed (λ i. (held c.args.line.now).uses i c.args.part.0) (at c.args.odd.now) n c.loop-i.counts.items) all c.loop-i.invariant
