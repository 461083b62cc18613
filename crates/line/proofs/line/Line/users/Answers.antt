use Rattle.std.proofs.Common.{ℕ, ◌*◌, List, length, sym, ap, ◌∙◌, arith}
use Rattle.number.specs.Sum.{count}
use Rattle.line.specs.Limits.{most_farms}
use Rattle.line.specs.Rows.{in_row, across, row}
use Rattle.line.proofs.Rows.{row_whole, row_most}
use Rattle.line.proofs.Users.{users_row, no_users}
use Rattle.line.proofs.line.Line.users.Goals as goal

pub returns-then-part-self : goal.returns-then-part-self
returns-then-part-self c = sym (no_users 64 _ _ _ c.args.part.0 c.if-part-self.true)

pub count_row-requires : goal.count_row-requires
unfolding most_farms
count_row-requires c =
    omega (arith, c.args.self.now.sound.farms, ap length c.row_of.ensures, row_most c.row_words.result c.args.self.now.words.now c.args.part.0)

pub returns : goal.returns
returns c =
    let n = c.args.self.now.size.farms in
    let m = c.args.self.now.size.parts in
    let ws = c.args.self.now.words.now in
    let e = c.args.part.0 in
    let l = c.if-part-self.false in
    c.count_row.ensures
    ∙ ap (λ (r : List ℕ). count (64 * length r) (in_row 64 r)) (c.row_of.ensures ∙ ap (λ a. row a ws e) c.row_words.ensures)
    ∙ ap (λ k. count (64 * k) (in_row 64 (row (across 64 n) ws e))) (row_whole e m (across 64 n) ws l c.args.self.now.sound.room)
    ∙ users_row 64 n m ws e (omega arith) l (c.args.self.now.sound.clear e l)
