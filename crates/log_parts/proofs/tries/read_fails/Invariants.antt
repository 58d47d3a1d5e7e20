use Rattle.std.proofs.Common.{List, ℕ, length}
use Rattle.std.specs.List.{flat_map}
use Rattle.part_lines.specs.Lines.{ended}
use Rattle.part_lines.specs.Reading.{HasRead}
use Rattle.log_parts.specs.Tries.{AreFails}
use Rattle.log_parts.proofs.tries.read_fails.Given as goal

abbrev pub invariant-loop : goal.invariant-loop
invariant-loop l = (fails : List (List ℕ)) × AreFails fails × HasRead l.fn.lines l.lines (flat_map ended fails)

abbrev pub decreases-loop : goal.decreases-loop
decreases-loop l = length l.lines.rest
