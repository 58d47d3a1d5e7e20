use Rattle.std.proofs.Common.{◌-◌, ◌≤◌, List, length, take}
use Rattle.grade_parts.specs.Log.{Stuck}
use Rattle.grade_parts.specs.Held.{lines_of, AreHeld}
use Rattle.grade_parts.specs.Step.{AreMore}
use Rattle.grade_parts.proofs.reading.fault_front.Given as goal

-- the lines up to here are those of faults that come next
abbrev pub invariant-loop-line : goal.invariant-loop-line
invariant-loop-line l = record {
  held : AreHeld (take l.end l.text) l.count l.found;
  known : (told : List Stuck) × AreMore l.fn.told (lines_of (take l.end l.text)) told l.told;
  within : l.end ≤ length l.text;
  few : l.count ≤ l.end;
  fewer : l.found ≤ l.end;
}

abbrev pub decreases-loop-line : goal.decreases-loop-line
decreases-loop-line l = length l.text - l.end
