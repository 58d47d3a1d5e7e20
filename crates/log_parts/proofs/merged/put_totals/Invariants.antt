use Rattle.std.proofs.Common.{◌≡◌, ◌≤◌, ◌-◌, take}
use Rattle.std.specs.List.{flat_map, range_with_len}
use Rattle.tester_types.specs.Outside.{gained}
use Rattle.datalog.specs.DatalogText.{total_line}
use Rattle.log_parts.specs.Dealt.{dies_of}
use Rattle.log_parts.proofs.merged.put_totals.Given as goal

abbrev pub invariant-loop-bin : goal.invariant-loop-bin
invariant-loop-bin g l = record {
  held : g.K.Sink.told l.sink ≡ gained (g.K.Sink.told l.fn.sink)
      (flat_map (λ bin. total_line bin (dies_of l.logs bin)) (take (l.bin - 1) (range_with_len 1 99)));
  count : g.K.Sink.faults l.fn.sink ≤ g.K.Sink.faults l.sink;
}
