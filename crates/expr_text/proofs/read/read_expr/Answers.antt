use Rattle.std.proofs.Common.{true, inr}
use Rattle.std.proofs.lemmas.Result.{err_from_is_err_and}
use Rattle.expr_text.proofs.ReadLemmas.{err_only, err_fault, err_refused, ok_found, ok_only, ok_refused, out_only, out_fault, out_refused}
use Rattle.expr_text.proofs.read.read_expr.Goals as goal

pub returns-in_err-expr-clause-only : goal.returns-in_err-expr-clause-only
returns-in_err-expr-clause-only c =
    let p = err_from_is_err_and c.from_residual.result c.from_residual.ensures.1 in
    let code = c.in_err-expr.ensures in
    rw (p.1, p.2) (λ t s. err_only c.args.text.now c.in_err-expr.field-0.0 code t true s)

pub returns-in_err-expr-clause-fault : goal.returns-in_err-expr-clause-fault
returns-in_err-expr-clause-fault c =
    let p = err_from_is_err_and c.from_residual.result c.from_residual.ensures.1 in
    let code = c.in_err-expr.ensures in
    rw (p.1, p.2) (err_fault c.args.text.now c.in_err-expr.field-0.0 code)

pub returns-in_err-expr-clause-refused : goal.returns-in_err-expr-clause-refused
returns-in_err-expr-clause-refused c =
    let p = err_from_is_err_and c.from_residual.result c.from_residual.ensures.1 in
    let code = c.in_err-expr.ensures in
    rw (p.1, p.2) (err_refused c.args.text.now c.in_err-expr.field-0.0 code)

pub returns-then-in_range-clause-found : goal.returns-then-in_range-clause-found
returns-then-in_range-clause-found c =
    ok_found c.args.text.now c.in_ok-expr.expr c.in_ok-expr.in_range c.in_ok-expr.ensures c.if-in_range.true

pub returns-then-in_range-clause-only : goal.returns-then-in_range-clause-only
returns-then-in_range-clause-only c = ok_only c.args.text.now c.in_ok-expr.expr c.in_ok-expr.in_range c.in_ok-expr.ensures

pub returns-then-in_range-clause-refused : goal.returns-then-in_range-clause-refused
returns-then-in_range-clause-refused c =
    ok_refused c.args.text.now c.in_ok-expr.expr c.in_ok-expr.in_range c.in_ok-expr.ensures c.if-in_range.true

pub returns-else-in_range-clause-only : goal.returns-else-in_range-clause-only
returns-else-in_range-clause-only c =
    out_only c.args.text.now c.in_ok-expr.expr c.in_ok-expr.in_range c.in_ok-expr.ensures c.if-in_range.false

pub returns-else-in_range-clause-fault : goal.returns-else-in_range-clause-fault
returns-else-in_range-clause-fault c =
    inr (out_fault c.args.text.now c.in_ok-expr.expr c.in_ok-expr.in_range c.in_ok-expr.ensures c.if-in_range.false)

pub returns-else-in_range-clause-refused : goal.returns-else-in_range-clause-refused
returns-else-in_range-clause-refused c =
    λ fault f. inr (out_refused c.args.text.now c.in_ok-expr.expr c.in_ok-expr.in_range c.in_ok-expr.ensures fault f)
