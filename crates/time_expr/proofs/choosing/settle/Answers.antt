use Rattle.time_expr.specs.Picked.{variable_of}
use Rattle.time_expr.proofs.ChoosingLemmas.{settled-known, settled-keeps, settled-fewer, keeps-more}
use Rattle.time_expr.proofs.choosing.settle.Goals as goal

pub loop-alloc-smaller : goal.loop-alloc-smaller
loop-alloc-smaller c =
    settled-fewer c.args.variables.now c.loop-alloc.vars c.add.new.self (variable_of c.in_ok-variable.variable.now)
    c.in_ok-variable.value c.loop-alloc.invariant.known c.in_ok-variable.ensures c.in_ok-add.ensures.added

pub loop-alloc-preserved : goal.loop-alloc-preserved
loop-alloc-preserved c = record {
  known = settled-known c.args.variables.now c.loop-alloc.vars c.add.new.self (variable_of c.in_ok-variable.variable.now)
      c.in_ok-variable.value c.loop-alloc.invariant.known c.in_ok-variable.ensures c.in_ok-add.ensures.added;
  kept = keeps-more c.args.vars.now c.loop-alloc.vars c.add.new.self c.loop-alloc.invariant.kept
      (settled-keeps c.args.variables.now c.loop-alloc.vars c.add.new.self (variable_of c.in_ok-variable.variable.now)
      c.in_ok-variable.value c.loop-alloc.invariant.known c.in_ok-variable.ensures c.in_ok-add.ensures.added);
}
