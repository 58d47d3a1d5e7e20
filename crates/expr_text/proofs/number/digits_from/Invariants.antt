use Rattle.std.proofs.Common.{◌≡◌, ◌<◌, ◌^◌, drop}
use Rattle.expr_text.specs.Lexeme.{digits_from}
use Rattle.expr_text.proofs.number.digits_from.Given as goal

abbrev pub invariant-loop-digit : goal.invariant-loop-digit
invariant-loop-digit l = record {
  rest : digits_from l.value (drop l.digit-index l.digits) ≡ digits_from l.fn.start l.digits;
  small : l.value < 2 ^ 127;
}
