use Rattle.std.proofs.Common.{◌-◌}
use Rattle.part_lines.specs.Reading.{HasRead}
use Rattle.log_parts.specs.Step.{totals_from}
use Rattle.log_parts.proofs.end.read_totals.Given as goal

abbrev pub invariant-loop-bin : goal.invariant-loop-bin
invariant-loop-bin l = HasRead l.fn.lines l.lines (totals_from l.bins 1 (l.bin - 1))
