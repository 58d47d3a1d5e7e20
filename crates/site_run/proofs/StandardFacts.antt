-- Known facts, computed from the definitions: what tries and polls of a small die put on a tape.
use Rattle.std.proofs.Common.{◌≡◌, ℕ, List, [], ◌∷◌, None, refl}
use Rattle.std.specs.Prelude.{codes}
use Rattle.tester_types.specs.declared.signal.Direction.TheVariants as direction
use Rattle.tester_types.specs.declared.level.Drive.TheVariants as drive
use Rattle.tester_types.specs.declared.wave.Push.TheVariants as push
use Rattle.tester_types.specs.declared.wave.Look.TheVariants as look
use Rattle.tester_types.specs.declared.wave.Act.TheVariants as act
use Rattle.tester_types.specs.declared.record.Trial.{Trial}
use Rattle.tester_types.specs.declared.record.Verdict.{Verdict}
use Rattle.tester_types.specs.declared.record.Verdict.TheVariants as verdict
use Rattle.packed_code.specs.declared.instr.Instr.TheVariants.{Run, Done}
use Rattle.packed_code.specs.Meaning.{bodies, repeated}
use Rattle.packed_code.specs.Program.{Program}
use Rattle.edge_gen.specs.Moments.{moments_of}
use Rattle.die_sim.specs.Socket.{Calls}
use Rattle.die_sim.specs.Stepped.{levels_through, captured_levels}
use Rattle.strobe_check.specs.Fails.{fails}
use Rattle.strobe_check.specs.Sensed.{is_sensed}
use Rattle.plan_rows.specs.declared.row.Row.{Row}
use Rattle.plan_rows.specs.declared.row.Row.TheVariants as row
use Rattle.site_meaning.specs.Playing.{after_moments, entries_in, moments_in, moments_played}
use Rattle.site_meaning.specs.Part.{Part, part_of, rows_for, circuits_for, skews_in, image_in, order_in}
use Rattle.site_meaning.specs.Trials.{played, after_cycles, fails_in, reached}
use Rattle.site_meaning.specs.Polls.{first_seat, with_word, next_exec, onward, arrived, next_cycles, next_played, after_batch, settled, run_batch, before_batch, with_trial, poll}
use Rattle.cycle_run.specs.Tape.{calls_in}
use Rattle.cycle_run.specs.Batch.{calls_of_cycles}
use Rattle.site_run.specs.Taped.{all_cycles, calls_of_try, calls_of, calls_of_batch, calls_of_next, calls_of_poll, calls_before, calls_until}
use Rattle.site_meaning.proofs.SampleDie.{inverter, wave}

-- ---- an inverter

-- Two executives of one cycle, and one without any between them: A is driven up by 1, and by P to its last Down or Up;
-- Y is looked at after 40 ns.
abbrev program : Program
program = record {
  signals = record { name = codes "A"; direction = direction.In } ∷ record { name = codes "Y"; direction = direction.Out } ∷ [];
  tables = record {
    name = codes "w";
    period = 100000000;
    waves = wave 0 49 0 (act.Push push.Up) ∷ wave 0 112 0 (act.Push push.Prior) ∷ wave 1 76 40000000 (act.Look look.Low) ∷ [];
  } ∷ [];
  rows = (49 ∷ 76 ∷ []) ∷ (112 ∷ 76 ∷ []) ∷ [];
  execs = record { name = []; chains = []; instrs = Run 0 0 0 1 ∷ Done ∷ [] } ∷ record { name = []; chains = []; instrs = Done ∷ [] }
      ∷ record { name = []; chains = []; instrs = Run 0 1 0 1 ∷ Done ∷ [] } ∷ [];
}

-- the part of a site with one die, in a lot of two tries, and these rows behind
abbrev part : List Row → Part
part more = part_of (record {
  rows = row.Lot (record { batch = 256; tries = 2; keep = 8 })
      ∷ row.Die (record { site = 0; name = codes "d0"; file = codes "f" }) ∷ more;
  program = program;
  circuits = inverter ∷ [];
}) 0

-- A goes up at 0, and stays so in the second cycle
abbrev first_call : Calls
first_call = (0, (0, drive.Up) ∷ []) ∷ []

abbrev both_calls : Calls
both_calls = (0, (0, drive.Up) ∷ []) ∷ (100000000, (0, drive.Up) ∷ []) ∷ []

-- ---- tries

-- executives follow one another, and cycles, times and the last Down or Up go on
whole_try : calls_of_try (part []) 0 1 2 ≡ both_calls
unfolding calls_of_try all_cycles calls_of_cycles calls_in rows_for circuits_for skews_in image_in after_moments moments_in bodies repeated moments_of levels_through captured_levels
whole_try = refl

one_cycle : calls_of_try (part []) 0 1 1 ≡ first_call
unfolding calls_of_try all_cycles calls_of_cycles calls_in rows_for circuits_for skews_in image_in after_moments moments_in bodies repeated moments_of levels_through captured_levels
one_cycle = refl

-- a try that was stopped, or failed, after so many cycles
abbrev ended_so : ℕ → ℕ → Verdict → Trial
ended_so number cycles how = record { number = number; cycles = cycles; fails = 0; kept = []; verdict = how }

-- one that failed in the first executive, and then one that passed
whole_record : calls_of (part []) (record { site = 0; die = 0; trials = ended_so 1 1 (verdict.Fail 0) ∷ ended_so 2 2 verdict.Pass ∷ [] })
    ≡ (0, (0, drive.Up) ∷ []) ∷ both_calls
unfolding calls_of_try all_cycles calls_of_cycles calls_in rows_for circuits_for skews_in image_in after_moments moments_in bodies repeated moments_of levels_through captured_levels
whole_record = refl

-- ---- polls

-- a batch of each executive
first_poll : calls_of_poll (part []) first_seat ≡ first_call
unfolding calls_of_poll calls_of_next calls_of_batch calls_of_cycles calls_in next_exec onward arrived next_cycles rows_for circuits_for skews_in image_in order_in after_moments moments_in bodies repeated moments_of levels_through captured_levels
first_poll = refl

second_poll : calls_of_poll (part []) (poll (part []) None first_seat) ≡ (100000000, (0, drive.Up) ∷ []) ∷ []
unfolding calls_of_poll calls_of_next calls_of_batch calls_of_cycles calls_in next_exec onward arrived next_cycles next_played after_batch settled run_batch before_batch with_trial poll played after_cycles fails_in reached rows_for circuits_for skews_in image_in order_in after_moments entries_in moments_in moments_played bodies repeated moments_of levels_through captured_levels fails is_sensed
second_poll = refl

-- a live stop and an order of the plan end the try before its batch
no_call_live : calls_of_poll (part []) (with_word first_seat 1) ≡ []
unfolding calls_of_poll calls_of_next calls_of_batch calls_of_cycles calls_in next_exec onward arrived next_cycles rows_for circuits_for skews_in image_in order_in after_moments moments_in bodies repeated moments_of levels_through captured_levels
no_call_live = refl

no_call_ordered : calls_of_poll (part (row.Stop (record { site = 0; die = 0; number = 1; batch = 0 }) ∷ [])) first_seat ≡ []
unfolding calls_of_poll calls_of_next calls_of_batch calls_of_cycles calls_in next_exec onward arrived next_cycles rows_for circuits_for skews_in image_in order_in after_moments moments_in bodies repeated moments_of levels_through captured_levels
no_call_ordered = refl

-- ---- a contact

-- at the second drive
before_contact : calls_before 100000000 both_calls ≡ first_call
before_contact = refl

until_contact : calls_until 100000000 both_calls ≡ both_calls
until_contact = refl
