use Rattle.std.proofs.Common.{◌≡◌, drop}
use Rattle.std.specs.Prelude.{slice_get}
use Rattle.stil_ast.specs.Faults.CodeFaults.{have_waves}
use Rattle.cycle_comp.proofs.waves.have_waves.Given as goal

abbrev pub invariant-loop-signal : goal.invariant-loop-signal
invariant-loop-signal l =
    have_waves (slice_get l.tables l.table) l.signal (drop l.signal l.characters)
    ≡ have_waves (slice_get l.tables l.table) 0 l.characters
