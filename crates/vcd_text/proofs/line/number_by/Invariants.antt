use Rattle.std.proofs.Common.{◌≡◌, take, fold}
use Rattle.vcd_text.specs.Digits.{with_digit}
use Rattle.vcd_text.proofs.line.number_by.Given as goal

abbrev pub invariant-loop-digit : goal.invariant-loop-digit
invariant-loop-digit l = l.number ≡ fold with_digit 0 (take l.digit-index l.digits)
