use Rattle.std.proofs.Common.{◌≡◌, ◌≤◌, take, length, get_or}
use Rattle.std.specs.List.{flat_map, range_with_len}
use Rattle.tester_types.specs.Outside.{gained}
use Rattle.log_parts.specs.Dealt.{dealt_site}
use Rattle.log_parts.proofs.merged.put_sites.Given as goal

abbrev pub invariant-loop-rank : goal.invariant-loop-rank
invariant-loop-rank g l = record {
  held : g.K.Sink.told l.sink ≡ gained (g.K.Sink.told l.fn.sink)
      (flat_map (λ rank. dealt_site l.logs (get_or l.sites rank 0) rank) (take l.rank (range_with_len 0 (length l.sites))));
  count : g.K.Sink.faults l.fn.sink ≤ g.K.Sink.faults l.sink;
}
