-- The bytes that are marks of an expression, and those that may stand between quotes, in ASCII.
use Rattle.std.specs.Prelude.{ℕ, Bool, ◌==◌, not, ◌&&◌}
use Rattle.text_bytes.specs.Bytes.{is_printable}

-- the mark round a name
abbrev pub double_quote : ℕ
double_quote = 34

-- the mark before a group of terms
abbrev pub open_paren : ℕ
open_paren = 40

-- the mark before the digits of a fraction
abbrev pub point : ℕ
point = 46

-- what may stand between double quotes
unfoldable pub may_be_quoted : ℕ → Bool
may_be_quoted b = is_printable b && not (b == double_quote)
