use Rattle.std.proofs.Common.{ap, drop}
use Rattle.std.proofs.lemmas.List.{drop_all}
use Rattle.std.proofs.lemmas.Result.{err_from_is_err_and}
use Rattle.time_expr.specs.Picked.{place_of, variables_of}
use Rattle.time_expr.proofs.ChoosingLemmas.{loop-refused, loop-found, loop-fault, all-found}
use Rattle.time_expr.proofs.choosing.values_of.Goals as goal

pub returns-in_err-settle : goal.returns-in_err-settle
returns-in_err-settle c =
    let p = err_from_is_err_and c.from_residual-in_err-settle.result c.from_residual-in_err-settle.ensures.1 in
    rw (p.1, p.2)
    (loop-refused c.args.variables.now c.picked-variable-items.result.now c.loop-variable.variable-index
    c.variable-item.result c.loop-variable-test.true c.variable-item.is (place_of c.spot_of.result) _ c.spot_of.ensures
    c.loop-variable.invariant.fault c.in_err-settle.ensures)

pub loop-variable-preserved : goal.loop-variable-preserved
loop-variable-preserved c = record {
  known = c.in_ok-settle.ensures.known;
  same = c.loop-variable.invariant.same;
  found = loop-found c.args.variables.now c.picked-variable-items.result.now c.loop-variable.variable-index
      c.variable-item.result c.loop-variable-test.true c.variable-item.is c.loop-variable.vars c.settle.new.vars
      c.in_ok-settle.ensures.kept c.in_ok-settle.ensures.value c.loop-variable.invariant.found;
  fault = loop-fault c.args.variables.now c.picked-variable-items.result.now c.loop-variable.variable-index
      c.variable-item.result c.loop-variable-test.true c.variable-item.is c.settle.new.vars c.in_ok-settle.ensures.known
      c.in_ok-settle.ensures.value c.loop-variable.invariant.fault;
}

pub returns : goal.returns
returns c =
    all-found c.args.variables.now (variables_of (drop c.loop-variable.variable-index c.picked-variable-items.result.now))
    c.loop-variable.vars c.loop-variable.invariant.known
    (ap variables_of
    (drop_all c.loop-variable.variable-index c.picked-variable-items.result.now c.loop-variable-test.false))
    c.loop-variable.invariant.found c.loop-variable.invariant.fault
