use Rattle.std.proofs.Common.{true, false, sym, ◌∙◌, subst}
use Rattle.std.proofs.lemmas.Result.{err_from_is_err_and}
use Rattle.line.specs.Held.{held}
use Rattle.share.specs.Weight.{AllUsed}
use Rattle.change.specs.Change.{parted}
use Rattle.change.specs.Theorems.{NoneLowered}
use Rattle.change.proofs.Growth.{leaving_lowers_none_lem, parted_grows_lem}
use Rattle.change.proofs.Outcomes.{refused_leave, known_both, unknown, leave_answer, parted_is, parted_used}
use Rattle.change.proofs.change.leave.Goals as goal

pub returns-in_err-check_names : goal.returns-in_err-check_names
returns-in_err-check_names c =
    let p = err_from_is_err_and c.from_residual.result c.from_residual.ensures.1 in
    rw (p.1, p.2) (refused_leave _ _ c.args.line.now _ (unknown (held c.args.line.now) c.args.farm.0 c.args.part.0 _ _ c.in_err-check_names.ensures))

pub returns-then-is_only_user : goal.returns-then-is_only_user
returns-then-is_only_user c = refused_leave _ _ c.args.line.now _ (leave_answer _ c.args.farm.0 c.args.part.0 true c.if-is_only_user.ensures c.in_ok-check_names.ensures)

pub write_use-requires : goal.write_use-requires
write_use-requires c =
    let line = c.args.line.now in
    let l = held line in
    let i = c.args.farm.0 in
    let e = c.args.part.0 in
    let both = known_both l i e c.in_ok-check_names.ensures in
    record { farm = both.1; part = both.0; used = subst AllUsed (sym (parted_is l i e)) (parted_used l i e both.1 c.if-is_only_user.ensures line.sound.used) }

pub returns : goal.returns
returns c =
    let line = c.args.line.now in
    let l = held line in
    let i = c.args.farm.0 in
    let e = c.args.part.0 in
    let both = known_both l i e c.in_ok-check_names.ensures in
    let is = c.write_use.ensures.holds ∙ parted_is l i e in
    record {
      refused = leave_answer l i e false c.if-is_only_user.ensures c.in_ok-check_names.ensures;
      holds = is;
      kept = c.write_use.ensures.kept;
      others = subst (NoneLowered i l) (sym is) (leaving_lowers_none_lem i l (parted l i e) (parted_grows_lem l i e) (parted_used l i e both.1 c.if-is_only_user.ensures line.sound.used));
    }
