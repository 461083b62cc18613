use Rattle.std.proofs.Common.{arith}
use Rattle.line.proofs.Rows.{row_copied}
use Rattle.line.proofs.read.pack.Goals as goal

pub returns-clause-same : goal.returns-clause-same
returns-clause-same c i e l h =
    let so = c.copy_rows.ensures.each e l in
    row_copied 64 _ _ 8 _ _ e c.args.size.parts c.copy_rows.new.to c.args.bytes.now so.0.now so.2.now l (omega (arith, c.requires.room)) c.row_words.ensures c.row_bytes.ensures so.4 so.5 so.3 i h
