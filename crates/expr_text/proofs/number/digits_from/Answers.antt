use Rattle.std.proofs.Common.{◌+◌, sym, ap, ◌∙◌, drop, arith}
use Rattle.std.proofs.lemmas.List.{drop_all}
use Rattle.expr_text.specs.Lexeme.{digits_from}
use Rattle.expr_text.specs.Front.{capped}
use Rattle.expr_text.proofs.NumberLemmas.{capped-some, capped_some_is, digits_from-next, digits_from-none}
use Rattle.expr_text.proofs.number.digits_from.Goals as goal

pub returns-in_err-value-clause-value : goal.returns-in_err-value-clause-value
returns-in_err-value-clause-value c =
    let l = c.loop-digit in
    let ds = c.args.digits.now in
    let next = digits_from-next l.value l.digit-index ds c.loop-digit-test.true in
    c.from_residual.ensures
    ∙ sym (digits_from-none _ _ (drop (l.digit-index + 1) ds) (sym next ∙ l.invariant.rest) (sym c.with_digit.ensures
    ∙ c.in_err-value.was))

pub loop-digit-preserved : goal.loop-digit-preserved
loop-digit-preserved c =
    let l = c.loop-digit in
    let ds = c.args.digits.now in
    let next = digits_from-next l.value l.digit-index ds c.loop-digit-test.true in
    let is = capped_some_is _ c.in_ok-value.value (sym c.with_digit.ensures ∙ c.in_ok-value.was) in
    record {
      rest = ap (λ n. digits_from n (drop (l.digit-index + 1) ds)) is.0 ∙ sym next ∙ l.invariant.rest;
      small = omega (arith, is.0, is.1);
    }

pub returns-clause-value : goal.returns-clause-value
returns-clause-value c =
    let l = c.loop-digit in
    let ds = c.args.digits.now in
    let is = ap (digits_from l.value) (sym (drop_all l.digit-index ds c.loop-digit-test.false)) ∙ l.invariant.rest in
    sym (capped-some l.value l.invariant.small) ∙ ap capped is
