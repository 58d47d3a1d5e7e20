use Rattle.std.proofs.Common.{◌≡◌, true, take}
use Rattle.std.specs.List.{list_all}
use Rattle.cycle_comp.specs.Known.{has_wave_at}
use Rattle.cycle_comp.proofs.state.State.changed_have_waves.Given as goal

abbrev pub invariant-loop-signal : goal.invariant-loop-signal
invariant-loop-signal l =
    list_all (has_wave_at l.tables l.table l.self.told.characters) (take l.signal-index l.self.changed) ≡ true
