use Rattle.std.proofs.Common.{◌≡◌, sum_by, ◌∙◌, rules}
use Rattle.std.proofs.iter.runs.Made.{chains}
use lib.Count.{ones}
use Rattle.line.proofs.Users.{row_ones}
use Rattle.line.proofs.counts.count_row.Goals as goal

pub returns : goal.returns
returns c =
    let all : c.sum.result ≡ sum_by ones c.args.row.now = search (rules, chains) in
    all ∙ row_ones c.args.row.now (λ k. search rules)
