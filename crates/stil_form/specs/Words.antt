-- Keywords and names.
use Rattle.std.specs.Prelude.{ℕ, Bool, false, List, ◌&&◌, nat_le, nat_lt, length, Option, Some, None, if◌then◌else◌}
use Rattle.std.specs.List.{list_all}
use Rattle.std.specs.Str.{bytes_eq}
use Rattle.text_bytes.specs.Bytes.{begins_name, is_printable, begins_with}
use Rattle.text_bytes.specs.Limits.{longest_name}
use Rattle.stil_form.specs.Lexeme.{Lexeme, word, name, text, sign}

-- the word of these bytes
abbrev pub is_keyword : List ℕ → Lexeme → Bool
is_keyword bytes (word spelled) = bytes_eq spelled bytes
is_keyword bytes (name spelled) = false
is_keyword bytes (text spelled) = false
is_keyword bytes (sign kind) = false

-- 1 to 1,024 bytes from 0x20 to 0x7E
abbrev pub fits_name : List ℕ → Bool
fits_name bytes = nat_lt 0 (length bytes) && nat_le (length bytes) longest_name && list_all is_printable bytes

-- a name: a Word that begins with a letter or `_`, or what stands in double quotes, of 1 to 1,024 bytes from 0x20 to
-- 0x7E
abbrev pub named_by : Lexeme → Option (List ℕ)
named_by (word bytes) = if begins_with begins_name bytes && fits_name bytes then Some bytes else None
named_by (name bytes) = if fits_name bytes then Some bytes else None
named_by (text bytes) = None
named_by (sign kind) = None
