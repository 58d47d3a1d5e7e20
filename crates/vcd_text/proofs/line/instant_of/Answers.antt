use Rattle.std.proofs.Common.{◌≡◌, ap, sym, ◌∙◌}
use Rattle.std.specs.Prelude.{decimal}
use Rattle.std.specs.Cmp.Lexicographic.{bytes_decides}
use Rattle.vcd_text.specs.Digits.{number_by}
use Rattle.vcd_text.proofs.DigitLemmas.{number_by-decimal}
use Rattle.vcd_text.proofs.line.instant_of.Goals as goal

pub returns-else-eq-clause-none : goal.returns-else-eq-clause-none
returns-else-eq-clause-none c n small is =
    let digits = c.args.digits.now in
    let number : c.number_by-number.result ≡ n =
    c.number_by-number.ensures ∙ ap number_by is ∙ number_by-decimal n small in
    let same : c.as_bytes.result.now ≡ digits =
    c.as_bytes.ensures.value ∙ c.format.ensures.text ∙ ap decimal number ∙ sym is in
    let yes_same = (bytes_decides c.as_bytes.result.now digits).1 same in
    absurd cc
