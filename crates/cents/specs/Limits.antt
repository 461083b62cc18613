-- How large counts may become.
use Rattle.std.specs.Prelude.{ℕ}

-- how many odd cents a farm has paid stays below this
unfoldable pub counts_end : ℕ
counts_end = 4294967296
