use Rattle.std.proofs.Common.{◌≡◌, length}
use Rattle.packed_code.specs.Cycles.{pages_of}
use Rattle.tests_code.proofs.memory_tests.two_frames_hold_the_pages_that_were_asked_for_last.Given as goal

abbrev pub invariant-loop-page : goal.invariant-loop-page
invariant-loop-page g l = l.pages ≡ length (pages_of l.pool.code)
