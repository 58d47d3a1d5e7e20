use Rattle.std.proofs.Common.{sym, ap, refl, ◌∙◌}
use Rattle.expr_text.specs.Lexeme.{digits_from}
use Rattle.expr_text.specs.Front.{capped}
use Rattle.expr_text.proofs.NumberLemmas.{capped_some_is, digits_from-none}
use Rattle.expr_text.proofs.number.all_digits.Goals as goal

pub returns-in-Some-clause-value : goal.returns-in-Some-clause-value
returns-in-Some-clause-value c =
    let is = capped_some_is _ c.in-Some.start (sym c.digits_from.ensures.value ∙ c.in-Some.is) in
    c.digits_from-in-Some.ensures.value ∙ ap (λ n. capped (digits_from n c.args.decimals.now)) is.0

pub returns-in-None-clause-value : goal.returns-in-None-clause-value
returns-in-None-clause-value c =
    let start = digits_from 0 c.args.digits.now in
    sym (digits_from-none start _ c.args.decimals.now refl (sym c.digits_from.ensures.value ∙ c.in-None.is))
