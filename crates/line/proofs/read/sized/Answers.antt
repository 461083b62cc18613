use Rattle.std.proofs.Common.{◌≡◌, false, ltb, length, sym, ◌∙◌, ⊎_elim, arith}
use Rattle.std.proofs.lemmas.Bool.{le-ltb, lt-ltb, ltb-true, ltb-false}
use Rattle.line.specs.declared.size.Size.{Size}
use Rattle.line.specs.Bytes.{two_at}
use Rattle.line.specs.Limits.{most_farms, most_parts, within}
use Rattle.line.specs.Reading.{sizing}
use Rattle.line.proofs.Sizing.{within_yes, within_no, sizing_whole, whole_yes, whole_no}
use Rattle.line.proofs.read.sized.Goals as goal

pub returns-in_default : goal.returns-in_default
unfolding sizing
returns-in_default c = simp (lt-ltb (length c.args.bytes.now) 4 (omega (arith, ltb-true)))

pub returns-then-farms-eq0 : goal.returns-then-farms-eq0
unfolding sizing most_farms
returns-then-farms-eq0 c =
    let b = c.args.bytes.now in
    let long : ltb (length b) 4 ≡ false = le-ltb _ _ (omega (arith, ltb-false)) in
    let no : within most_farms (two_at b 0) ≡ false = within_no most_farms (two_at b 0) (λ h. ⊎_elim (λ e. omega (arith, h.0)) (λ e. omega (arith, h.1, e.1)) c.then-farms-eq0.either) in
    simp (long, no)

pub returns-then-parts-eq0 : goal.returns-then-parts-eq0
unfolding sizing most_farms most_parts
returns-then-parts-eq0 c =
    let b = c.args.bytes.now in
    let long : ltb (length b) 4 ≡ false = le-ltb _ _ (omega (arith, ltb-false)) in
    let yes = within_yes most_farms (two_at b 0) (omega arith, omega arith) in
    let no : within most_parts (two_at b 2) ≡ false = within_no most_parts (two_at b 2) (λ h. ⊎_elim (λ e. omega (arith, h.0)) (λ e. omega (arith, h.1, e.1)) c.then-parts-eq0.either) in
    simp (long, yes, no)

pub returns-then-bytes-end : goal.returns-then-bytes-end
unfolding most_farms most_parts
returns-then-bytes-end c =
    let s : Size = record { farms = c.from_le_bytes-farms.result; parts = c.from_le_bytes-parts.result } in
    let is = sizing_whole c.args.bytes.now s (omega (arith, ltb-false)) c.from_le_bytes-farms.ensures c.from_le_bytes-parts.ensures (omega arith, omega arith) (omega arith, omega arith) in
    sym (is ∙ whole_no c.args.bytes.now s c.min.result (λ e. c.if-bytes-end.true (e ∙ sym c.bytes-end.ensures)) (omega arith))

pub returns : goal.returns
unfolding most_farms most_parts
returns c =
    let s : Size = record { farms = c.from_le_bytes-farms.result; parts = c.from_le_bytes-parts.result } in
    let is = sizing_whole c.args.bytes.now s (omega (arith, ltb-false)) c.from_le_bytes-farms.ensures c.from_le_bytes-parts.ensures (omega arith, omega arith) (omega arith, omega arith) in
    sym (is ∙ whole_yes c.args.bytes.now s (omega arith))
