use Rattle.std.proofs.Common.{sym, ap, ◌∙◌}
use Rattle.burst_exec.specs.Patterns.{has_stop}
use Rattle.burst_exec.proofs.StopLemmas.{stop_here, no_stop_here, no_stop_left}
use Rattle.burst_exec.proofs.running.has_stop.Goals as goal

pub loop-stmt-init : goal.loop-stmt-init
loop-stmt-init c = ap has_stop c.as_slice-stmt-items.ensures

pub returns-then-is_stop : goal.returns-then-is_stop
returns-then-is_stop c =
    sym (stop_here c.as_slice-stmt-items.result.now c.loop-stmt.stmt-index c.stmt-item.result c.stmt-item.is c.loop-stmt-test.true
    (sym c.if-is_stop.ensures))
    ∙ c.loop-stmt.invariant

pub loop-stmt-preserved : goal.loop-stmt-preserved
loop-stmt-preserved c =
    sym (no_stop_here c.as_slice-stmt-items.result.now c.loop-stmt.stmt-index c.stmt-item.result c.stmt-item.is c.loop-stmt-test.true
    (sym c.if-is_stop.ensures))
    ∙ c.loop-stmt.invariant

pub returns : goal.returns
returns c =
    sym (no_stop_left c.as_slice-stmt-items.result.now c.loop-stmt.stmt-index c.loop-stmt-test.false) ∙ c.loop-stmt.invariant
