use Rattle.std.proofs.Common.{◌≡◌}
use Rattle.packed_code.proofs.CourseLemmas.{IsWalked, still}
use Rattle.pattern_mem.specs.Cursor.{instrs_of, IsPlaced, IsSameBut}
use Rattle.pattern_mem.proofs.cursor.Cursor.entry.Given as goal

abbrev pub invariant-loop-step : goal.invariant-loop-step
invariant-loop-step g l = record {
  walked : IsWalked (instrs_of l.mem.code l.fn.self.exec) l.fn.self.course l.step l.self.course;
  placed : IsPlaced l.mem.code l.self;
  same : IsSameBut l.fn.self l.self;
  pass : l.pass ≡ l.fn.pass;
}

abbrev pub decreases-loop-step : goal.decreases-loop-step
decreases-loop-step g l = still (instrs_of l.mem.code l.fn.self.exec) l.step l.self.course
