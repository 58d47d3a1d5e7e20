use Rattle.std.proofs.Common.{◌≡◌, List, drop}
use Rattle.tester_types.specs.declared.wave.Wave.{Wave}
use Rattle.packed_code.specs.Conditions.{has_waves}
use Rattle.page_code.specs.Index.{AreMarks}
use Rattle.page_code.proofs.wave_index.has_each_mark.Given as goal

-- whether the rest of the row has its waves is whether the whole has
abbrev pub invariant-loop-signal : goal.invariant-loop-signal
invariant-loop-signal l = (waves : List Wave) → AreMarks waves l.marks
    → has_waves waves l.signal (drop l.signal l.row) ≡ has_waves waves 0 l.row
