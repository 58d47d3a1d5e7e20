-- What the loop over cycles wants of a try that runs: there is room for its next cycles, `can_play`.
use Rattle.std.proofs.Common.{◌≡◌, ℕ, ◌+◌, ◌≤◌, Bor, None, length, sym, subst, arith}
use Rattle.packed_code.specs.Program.{Program}
use Rattle.packed_code.specs.Cycles.{cycles_of}
use Rattle.edge_gen.specs.Held.{Held}
use Rattle.die_sim.specs.Socket.{Told}
use Rattle.cycle_run.specs.Step.{HoldsSchedules}
use Rattle.cycle_run.proofs.FitLemmas.{few_cycles}
use Rattle.cycle_run.specs.declared.setup.Setup.{Setup}
use Rattle.cycle_run.specs.declared.setup.Until.TheVariants as until
use Rattle.cycle_run.specs.Seat.{CanPlay}
use Rattle.site_run.specs.declared.run.Run.{Run}
use Rattle.site_run.specs.declared.station.Ground.{Ground}
use Rattle.site_run.specs.Station.{code_in, device_in}
use Rattle.site_run.specs.Seat.{IsRunOn}

-- what its cycles are played with
abbrev pub setup_on : Ground → Bor Program → Setup
setup_on ground code = record { code = code; image = ground.image; skews = ground.skews; until = until.End; lent = None }

pub can_play : (ground : Ground) (code : Bor Program) (schedules : Held) (told : Told) (run : Run) (cycles : ℕ)
    → code.now ≡ code_in ground → HoldsSchedules (code_in ground) ground.skews.now schedules
    → IsRunOn (code_in ground) (device_in ground) told run
    → run.done + cycles ≤ length (cycles_of (code_in ground) run.exec)
    → CanPlay (setup_on ground code) cycles schedules told run.at
can_play ground code schedules told run cycles is held r within =
    let program = r.cursor.placed.program in
    let few = few_cycles (code_in ground) run.exec program r.exec in
    let execs = program.few_execs in
    record {
      holds = subst (λ (p : Program). HoldsSchedules p ground.skews.now schedules) (sym is) held;
      room = r.room;
      between = record { loaded = r.loaded; state = r.state; keep = r.keep; found = r.found; seen = r.seen };
      early = omega (arith, r.time, r.number, r.exec, within, few, execs);
      few = omega (arith, r.number, r.exec, within, few, execs);
    }
