-- Numbers and texts as the fields of a record spell them.
use Rattle.std.specs.Prelude.{ℕ, ◌-◌, ◌^◌, ◌&&◌, nat_le, nat_lt, Bool, List, length, Option, Some, None, if◌then◌else◌}
use Rattle.std.specs.List.{list_all}
use Rattle.text_bytes.specs.Bytes.{is_printing, is_printable}
use Rattle.text_bytes.specs.Limits.{longest_name, longest_label}
use Rattle.text_bytes.specs.Numbers.{are_digits, number_of}

-- the number that a field is, if it is decimal digits: more than 20 of them are beyond every range
abbrev pub number_in : List ℕ → Option ℕ
number_in bytes =
    if are_digits bytes then Some (if nat_lt 20 (length bytes) then 2 ^ 64 - 1 else number_of bytes) else None

-- 1 to this many bytes, each of which passes
abbrev pub is_text : (ℕ → Bool) → ℕ → List ℕ → Bool
is_text test most bytes = nat_lt 0 (length bytes) && nat_le (length bytes) most && list_all test bytes

-- whether it is the name of a die or a file: 1 to 255 bytes from 0x21 to 0x7E
abbrev pub is_name : List ℕ → Bool
is_name bytes = is_text is_printing longest_label bytes

-- the name of a die or a file
abbrev pub name_of : List ℕ → Option (List ℕ)
name_of bytes = if is_name bytes then Some bytes else None

-- the name of a signal or a net: 1 to 1,024 bytes from 0x20 to 0x7E
abbrev pub net_of : List ℕ → Option (List ℕ)
net_of bytes = if is_text is_printable longest_name bytes then Some bytes else None
