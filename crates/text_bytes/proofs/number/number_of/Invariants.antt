use Rattle.std.proofs.Common.{◌≡◌, take, fold}
use Rattle.text_bytes.specs.Numbers.{with_digit}
use Rattle.text_bytes.proofs.number.number_of.Given as goal

abbrev pub invariant-loop-digit : goal.invariant-loop-digit
invariant-loop-digit l = l.value ≡ fold with_digit 0 (take l.digit-index l.digits)
