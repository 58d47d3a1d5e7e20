-- Where a try stands before an executive, and what its checker has counted there.
use Rattle.std.proofs.Common.{◌≡◌, ℕ, ◌+◌, ◌-◌, ◌*◌, ◌^◌, ◌<◌, ◌≤◌, List, [], ◌++◌, length, replicate, min, ap, ◌∙◌, arith}
use Rattle.std.proofs.lemmas.List.{append-nil, length-replicate}
use Rattle.tester_types.specs.declared.level.Drive.TheVariants as drive
use Rattle.tester_types.specs.declared.level.Level.TheVariants.{X}
use Rattle.tester_types.specs.declared.record.Fail.{Fail}
use Rattle.packed_code.specs.Conditions.{IsProgram}
use Rattle.edge_gen.specs.Held.{Held}
use Rattle.die_sim.specs.Die.{Device}
use Rattle.die_sim.specs.Socket.{Told, IsLoaded}
use Rattle.die_sim.specs.Stepped.{first_state}
use Rattle.die_sim.proofs.SteppedLemmas.{fresh_is_first}
use Rattle.strobe_check.specs.History as history
use Rattle.strobe_check.proofs.HistoryLemmas.{fails-none}
use Rattle.site_meaning.specs.Playing.{bound_of}
use Rattle.cycle_run.specs.declared.bench.Bench.{Bench}
use Rattle.cycle_run.specs.Cycle.{closed_with}
use Rattle.cycle_run.specs.Step.{HoldsSchedules}
use Rattle.cycle_run.specs.declared.setup.Setup.{Setup}
use Rattle.cycle_run.specs.declared.seat.Standing.{Standing}
use Rattle.cycle_run.specs.Setup.{code_in, device_in, IsSetUp}
use Rattle.cycle_run.specs.Seat.{CanPlay, IsBefore, StartsSo}
use Rattle.cycle_run.specs.SeatLaws.{can_less}

-- ---- room for more cycles

module _ (setup : Setup) (keep exec many : ℕ) (schedules : Held) (told : Told) (at : Standing) (within : exec < length (code_in setup).execs)
    (few : many ≤ 281474976710656) (before : IsBefore setup keep exec schedules told at) where
  -- the cycles of an executive can be played
  pub can_exec : CanPlay setup many schedules told at
  can_exec = can_less setup many _ schedules told at (omega (arith, within, few)) before.can

  -- behind them it stands before the next one
  pub before_next : (schedules' : Held) (told' : Told) (at' : Standing)
      → ((more : ℕ) → CanPlay setup (more + many) schedules told at → CanPlay setup more schedules' told' at')
      → history.HasSeen (closed_with (device_in setup) keep []) at'.bench.checker
      → IsBefore setup keep (exec + 1) schedules' told' at'
  before_next schedules' told' at' goes seen =
      let left = 281474976710656 * (length (code_in setup).execs - (exec + 1)) in
      record {
        can = goes left (can_less setup (left + many) _ schedules told at (omega (arith, within, few)) before.can);
        seen = seen;
      }

-- ---- the beginning of a try

pub starts : (setup : Setup) (keep : ℕ) (schedules : Held) (told : Told) (bench : Bench) → IsProgram (code_in setup) → IsSetUp setup
    → HoldsSchedules (code_in setup) setup.skews.now schedules → IsLoaded setup.image.now told
    → history.HasSeen (closed_with (device_in setup) keep []) bench.checker
    → bench.last.items ≡ replicate (length setup.image.now.binds) drive.Unknown
    → length bench.levels.items ≡ length setup.image.now.binds
    → StartsSo setup keep schedules told (record { number = 0; time = 0; bench = bench })
starts setup keep schedules told bench program set_up holds loaded seen last levels = record {
  before = record {
    can = record {
      holds = holds;
      room = record {
        last_count = ap (λ l. length l) last ∙ length-replicate (length setup.image.now.binds) drive.Unknown;
        levels_count = levels;
      };
      between = record {
        loaded = loaded.loaded;
        state = record {
          size = ap (λ l. length l) loaded.fresh.held ∙ length-replicate (length setup.image.now.circuit.net.drivers) X;
          settled = loaded.fresh.settled;
        };
        keep = keep;
        found = [];
        seen = seen;
      };
      early = let few = program.few_execs in omega (arith, few);
      few = let few = program.few_execs in omega (arith, few);
    };
    seen = seen;
  };
  going =
      let die_is : told.state ≡ first_state (device_in setup) = (fresh_is_first (device_in setup) told.state set_up.whole).0 loaded.fresh in
      λ i. record { die = die_is i; priors = last i; time = 0; number = 0 };
}

-- ---- what a checker has counted

-- all fails that were found, where no cycle is open
pub total_is : (device : Device) (keep : ℕ) (found : List Fail) (held : history.Held) (total : ℕ)
    → history.HasSeen (closed_with device keep found) held → history.Answers history.total_of held total
    → total ≡ min (length found) (2 ^ 64 - 1)
total_is device keep found held total seen answers =
    answers (closed_with device keep found) seen
    ∙ ap (λ (l : List Fail). min (length (found ++ l)) (2 ^ 64 - 1)) (fails-none (bound_of device))
    ∙ ap (λ (l : List Fail). min (length l) (2 ^ 64 - 1)) (append-nil found)
