-- How large a scale may become.
use Rattle.std.specs.Prelude.{ℕ}

-- shares are written over one scale only where it is below this
unfoldable pub scale_end : ℕ
scale_end = 4096
