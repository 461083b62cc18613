use Rattle.std.proofs.Common.{ℕ, List, ◌++◌, codes, decimal, sym, ap, ◌∙◌, add-one}
use Rattle.book.specs.Accounts.{farms_text}
use Rattle.book.proofs.accounts.opening.Goals as goal

pub loop-i-init : goal.loop-i-init
unfolding farms_text
loop-i-init c = c.new-text.ensures.bytes

pub loop-i-preserved : goal.loop-i-preserved
unfolding farms_text
loop-i-preserved c = c.in_ok-writeln.ensures.bytes ∙ ap (λ (x : List ℕ). x ++ (codes "farm " ++ (decimal c.loop-i.i ++ codes " 0\n"))) c.loop-i.invariant ∙ sym (ap farms_text (add-one c.loop-i.i))
