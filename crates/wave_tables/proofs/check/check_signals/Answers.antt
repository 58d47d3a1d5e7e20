use Rattle.std.proofs.Common.{◌+◌, ◌<◌, length, drop, pos, ◌∙◌, arith}
use Rattle.text_bytes.proofs.ListLemmas.{drop-item}
use Rattle.stil_ast.specs.Faults.TableFaults.{signal_fault}
use Rattle.wave_tables.specs.Scope.{timed}
use Rattle.wave_tables.proofs.FirstLemmas.{first_more}
use Rattle.wave_tables.proofs.StandingLemmas.{reads_behind}
use Rattle.wave_tables.proofs.check.check_signals.Goals as goal

pub split_at-requires : goal.split_at-requires
split_at-requires c =
    let items = c.args.list.now in
    let i = c.loop-signals.signals-index in
    let within : i < length items = omega arith in
    rw c.len.ensures
    (reads_behind (timed c.args.scope.now) c.loop-signals.left.now (drop i items) c.signals-item.result
    (drop (i + 1) items) (drop-item items i c.signals-item.result within c.signals-item.is)
    c.loop-signals.invariant.reads).within

pub check_signal-requires : goal.check_signal-requires
check_signal-requires c =
    let items = c.args.list.now in
    let i = c.loop-signals.signals-index in
    let within : i < length items = omega arith in
    let front = rw c.len.ensures at c.split_at.ensures.front in
    front
    ∙ (reads_behind (timed c.args.scope.now) c.loop-signals.left.now (drop i items) c.signals-item.result
    (drop (i + 1) items) (drop-item items i c.signals-item.result within c.signals-item.is)
    c.loop-signals.invariant.reads).here

pub loop-signals-preserved : goal.loop-signals-preserved
loop-signals-preserved c =
    let items = c.args.list.now in
    let i = c.loop-signals.signals-index in
    let within : i < length items = omega arith in
    let back = rw c.len.ensures at c.split_at.ensures.back in
    record {
      reads = back
          ∙ (reads_behind (timed c.args.scope.now) c.loop-signals.left.now (drop i items) c.signals-item.result
          (drop (i + 1) items) (drop-item items i c.signals-item.result within c.signals-item.is)
          c.loop-signals.invariant.reads).behind;
      none = first_more (signal_fault (timed c.args.scope.now) (pos c.args.period)) items i c.signals-item.result within
          c.signals-item.is c.loop-signals.invariant.none c.in-Ok.ensures;
    }
