-- The text that tells why there is nothing to tell of a row.
use Rattle.std.specs.Prelude.{ℕ, List, codes}
use Rattle.line.specs.Refusals.{told}
use Rattle.report.specs.declared.untold.Untold.{Untold}
use Rattle.report.specs.declared.untold.Untold.TheVariants.{Refused, OutOfMemory}

-- a refusal by its number and place, and otherwise that memory has run out
abbrev pub untold_text : Untold → List ℕ
untold_text (Refused e) = told e
untold_text OutOfMemory = codes "out of memory"
