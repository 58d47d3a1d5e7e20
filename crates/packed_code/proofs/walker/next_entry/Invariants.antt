use Rattle.packed_code.proofs.CourseLemmas.{IsWalked, still}
use Rattle.packed_code.proofs.walker.next_entry.Given as goal

abbrev pub invariant-loop-step : goal.invariant-loop-step
invariant-loop-step l = IsWalked l.code l.fn.course l.step l.course

abbrev pub decreases-loop-step : goal.decreases-loop-step
decreases-loop-step l = still l.code l.step l.course
