-- Decimal digits, read into 128 bits.
use Rattle.std.specs.Prelude.{ℕ, ◌+◌, ◌-◌, ◌*◌, ◌^◌, min, List, fold}

-- one more digit of a number, which stops at 2^128 - 1
abbrev pub with_digit : ℕ → ℕ → ℕ
with_digit number digit = min (min (number * 10) (2 ^ 128 - 1) + (digit - 48)) (2 ^ 128 - 1)

-- the number of digits, up to 2^128 - 1
abbrev pub number_by : List ℕ → ℕ
number_by digits = fold with_digit 0 digits
