-- The numbers that a time may be made of, and the greatest common divisor.
use Rattle.std.specs.Prelude.{ℕ, ℤ, zero, suc, ◌%◌, ◌^◌, nat_lt, unsigned_abs, Result, Ok, Err, if◌then◌else◌}
use Rattle.expr_text.specs.declared.fault.ExprFault.{ExprFault}
use Rattle.expr_text.specs.declared.fault.ExprFault.TheVariants.{OutOfRange}

-- the number, if it lies from -(2^127 - 1) to 2^127 - 1
abbrev pub within : ℤ → Result ℤ ExprFault
within z = if nat_lt (unsigned_abs z) (2 ^ 127) then Ok z else Err OutOfRange

-- Euclid's remainders, at most so many; the second number is at most as many
unfoldable pub remainders : ℕ → ℕ → ℕ → ℕ
remainders zero a b = a
remainders (suc steps) a zero = a
remainders (suc steps) a (suc b) = remainders steps (suc b) (a % suc b)

-- the greatest common divisor of two numbers, which `divisor_of-is` in the proofs says of it
unfoldable pub divisor_of : ℕ → ℕ → ℕ
divisor_of a b = remainders b a b
