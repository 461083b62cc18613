use Rattle.std.proofs.Common.{arith}
use Rattle.line.proofs.Rows.{row_copied}
use Rattle.line.proofs.write.unpack.Goals as goal

pub returns-clause-same : goal.returns-clause-same
returns-clause-same c i e l h =
    let so = c.copy_rows.ensures.each e l in
    row_copied 8 _ _ 64 _ _ e c.args.size.parts c.copy_rows.new.to c.args.words.now so.0.now so.2.now l (omega (arith, c.requires.room)) c.row_bytes.ensures c.row_words.ensures so.4 so.5 so.3 i h
