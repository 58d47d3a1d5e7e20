-- Numbers as decimal digits spell them.
use Rattle.std.specs.Prelude.{ℕ, ◌+◌, ◌-◌, ◌*◌, ◌^◌, ◌&&◌, nat_lt, nat_le, Bool, min, List, length, fold, Option, Some, None, if◌then◌else◌}
use Rattle.std.specs.List.{list_all}
use Rattle.text_bytes.specs.Bytes.{is_digit}

-- digits, at least one
abbrev pub are_digits : List ℕ → Bool
are_digits bytes = nat_lt 0 (length bytes) && list_all is_digit bytes

-- one more digit of a number, which stops at 2^64 - 1: no range of a text reaches it
abbrev pub with_digit : ℕ → ℕ → ℕ
with_digit number digit = min (min (number * 10) (2 ^ 64 - 1) + (digit - 48)) (2 ^ 64 - 1)

-- the number of digits, up to 2^64 - 1
abbrev pub number_of : List ℕ → ℕ
number_of digits = fold with_digit 0 digits

-- the number that bytes spell, if they are digits
abbrev pub number_by : List ℕ → Option ℕ
number_by bytes = if are_digits bytes then Some (number_of bytes) else None

-- whether a number lies in a range
abbrev pub is_within : ℕ → ℕ → ℕ → Bool
is_within low high number = nat_le low number && nat_le number high
