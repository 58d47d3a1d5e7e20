use Rattle.std.proofs.Common.{◌≡◌, ◌++◌, ◌-◌, ◌≤◌}
use Rattle.std.specs.List.{flat_map, range_with_len}
use Rattle.drill_fine.specs.Texts.{register_line, net_head}
use Rattle.stil_tool.proofs.drill_netlist.net_text.Given as goal

abbrev pub invariant-loop-register : goal.invariant-loop-register
invariant-loop-register l = record {
  text : l.text.items ≡ net_head l.number ++ flat_map register_line (range_with_len 2 (l.register - 2));
  within : l.register - 2 ≤ l.number - 1;
}
