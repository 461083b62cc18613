use Rattle.std.proofs.Common.{sym, ◌∙◌, subst}
use Rattle.std.proofs.lemmas.Result.{err_from_is_err_and}
use Rattle.line.specs.Held.{held}
use Rattle.share.specs.Weight.{AllUsed}
use Rattle.change.specs.Change.{joined}
use Rattle.change.specs.Theorems.{NoneRaised}
use Rattle.change.proofs.Growth.{joining_raises_none_lem, joined_grows_lem, still_used}
use Rattle.change.proofs.Outcomes.{refused_join, known_both, joined_is}
use Rattle.change.proofs.change.join.Goals as goal

pub returns-in_err-check_names : goal.returns-in_err-check_names
returns-in_err-check_names c =
    let p = err_from_is_err_and c.from_residual.result c.from_residual.ensures.1 in
    rw (p.1, p.2) (refused_join _ _ c.args.line.now _ c.in_err-check_names.ensures)

pub write_use-requires : goal.write_use-requires
write_use-requires c =
    let line = c.args.line.now in
    let l = held line in
    let i = c.args.farm.0 in
    let e = c.args.part.0 in
    let both = known_both l i e c.in_ok-check_names.ensures in
    record { farm = both.1; part = both.0; used = subst AllUsed (sym (joined_is l i e)) (still_used i l (joined l i e) (joined_grows_lem l i e) line.sound.used) }

pub returns : goal.returns
returns c =
    let line = c.args.line.now in
    let l = held line in
    let i = c.args.farm.0 in
    let e = c.args.part.0 in
    let is = c.write_use.ensures.holds ∙ joined_is l i e in
    record {
      refused = c.in_ok-check_names.ensures;
      holds = is;
      kept = c.write_use.ensures.kept;
      others = subst (NoneRaised i l) (sym is) (joining_raises_none_lem i l (joined l i e) (joined_grows_lem l i e) line.sound.used);
    }
