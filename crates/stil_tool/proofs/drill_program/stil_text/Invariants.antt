use Rattle.std.proofs.Common.{◌≡◌, ◌++◌}
use Rattle.std.specs.List.{flat_map, range_with_len}
use Rattle.drill_fine.specs.Texts.{vector_line, stil_head}
use Rattle.stil_tool.proofs.drill_program.stil_text.Given as goal

abbrev pub invariant-loop-place : goal.invariant-loop-place
invariant-loop-place l = l.text.items ≡ stil_head ++ flat_map (vector_line l.number) (range_with_len 0 l.place)
