-- Known facts, computed from the definitions: the tapes, the vars and the dumps of small dies.
use Rattle.std.proofs.Common.{◌≡◌, ℕ, pos, true, false, List, [], ◌∷◌, refl, ◌++◌}
use Rattle.std.specs.Prelude.{codes}
use Rattle.std.specs.Fmt.{digits}
use Rattle.text_bytes.specs.Bytes.{begins_name, is_word}
use Rattle.bench_net.specs.Circuit.{Circuit}
use Rattle.bench_net.specs.declared.gate.Driver.TheVariants as driver
use Rattle.tester_types.specs.declared.signal.Direction.TheVariants as direction
use Rattle.tester_types.specs.declared.level.Drive.TheVariants as drive
use Rattle.tester_types.specs.declared.wave.Push.TheVariants as push
use Rattle.tester_types.specs.declared.wave.Act.TheVariants as act
use Rattle.packed_code.specs.declared.instr.Instr.TheVariants.{Run, Done}
use Rattle.packed_code.specs.Meaning.{bodies, repeated}
use Rattle.packed_code.specs.Program.{Program}
use Rattle.edge_gen.specs.Moments.{moments_of}
use Rattle.die_sim.specs.Stepped.{levels_through, captured_levels}
use Rattle.strobe_check.specs.Fails.{fails}
use Rattle.strobe_check.specs.Sensed.{is_sensed}
use Rattle.plan_rows.specs.declared.row.Row.{Row}
use Rattle.plan_rows.specs.declared.row.Row.TheVariants as row
use Rattle.lot_plan.specs.Bound.{Bound}
use Rattle.site_meaning.specs.Playing.{after_moments, entries_in, moments_in, moments_played}
use Rattle.site_meaning.specs.Part.{rows_for, circuits_for, skews_in, image_in, order_in}
use Rattle.site_meaning.specs.Trials.{played, after_cycles, fails_in, pieces, tried, execs_of, batches_of, cycles_in, blamed, trial}
use Rattle.cycle_run.specs.Tape.{calls_in}
use Rattle.cycle_run.specs.Batch.{calls_of_cycles}
use Rattle.site_run.specs.Taped.{all_cycles, calls_of_try}
use Rattle.site_meaning.proofs.SampleDie.{inverter, program}
use Rattle.vcd_text.specs.Dump.{dump_of}
use Rattle.vcd_dump.specs.Taken.{tape_of, vars_of}

-- ---- an inverter, whose input goes down and then up

-- a plan of one die at site 0, with batches of so many cycles and these rows behind
abbrev plan : ℕ → List Row → Bound
plan batch more = record {
  rows = row.Lot (record { batch = batch; tries = 2; keep = 8 })
      ∷ row.Die (record { site = 0; name = codes "d0"; file = codes "f" }) ∷ more;
  program = program;
  circuits = inverter ∷ [];
}

tape : tape_of (plan 256 []) 0 ≡ (0, (0, drive.Down) ∷ []) ∷ (100000000, (0, drive.Up) ∷ []) ∷ []
unfolding tape_of trial order_in batches_of tried played pieces cycles_in fails_in blamed after_cycles after_moments entries_in moments_in moments_played rows_for circuits_for skews_in image_in calls_of_try all_cycles calls_of_cycles calls_in execs_of moments_of levels_through captured_levels fails is_sensed bodies repeated
tape = refl

vars : vars_of (plan 256 []) 0 ≡ (0, codes "A") ∷ []
unfolding vars_of begins_name is_word
vars = refl

-- as it is written
dump : dump_of (vars_of (plan 256 []) 0) (tape_of (plan 256 []) 0)
    ≡ codes "$timescale 1 fs $end\n$scope module die $end\n$var wire 1 ! A $end\n$upscope $end\n$enddefinitions $end\n#0\n0!\n#100000000\n1!\n"
unfolding digits begins_name is_word vars_of tape_of trial order_in batches_of tried played pieces cycles_in fails_in blamed after_cycles after_moments entries_in moments_in moments_played rows_for circuits_for skews_in image_in calls_of_try all_cycles calls_of_cycles calls_in execs_of moments_of levels_through captured_levels fails is_sensed bodies repeated
dump = refl

-- the plan's order ends the try before its second batch of one cycle
stopped : tape_of (plan 1 (row.Stop (record { site = 0; die = 0; number = 1; batch = 1 }) ∷ [])) 0 ≡ (0, (0, drive.Down) ∷ []) ∷ []
unfolding tape_of trial order_in batches_of tried played pieces cycles_in fails_in blamed after_cycles after_moments entries_in moments_in moments_played rows_for circuits_for skews_in image_in calls_of_try all_cycles calls_of_cycles calls_in execs_of moments_of levels_through captured_levels fails is_sensed bodies repeated
stopped = refl

-- ---- a flip-flop and its clock, both driven in each cycle

-- q keeps d at the clock
abbrev flip_flop : Circuit
flip_flop = record {
  net = record {
    names = codes "d" ∷ codes "q" ∷ [];
    drivers = driver.Input ∷ driver.Dff 0 ∷ [];
    outputs = false ∷ true ∷ [];
  };
  order = [];
  readers = [] ∷ [] ∷ [];
}

-- d and the clock go down at the start of a cycle by 0 and by C, and up by 1 and by C after 50 ns
abbrev clocked : Program
clocked = record {
  signals = record { name = codes "d"; direction = direction.In } ∷ record { name = codes "ck"; direction = direction.In }
      ∷ record { name = codes "q"; direction = direction.Out } ∷ [];
  tables = record {
    name = codes "w";
    period = 100000000;
    waves = record { signal = 0; character = 68; events = record { time = 0; act = act.Push push.Down } ∷ record { time = 50000000; act = act.Push push.Up } ∷ [] }
        ∷ record { signal = 1; character = 67; events = record { time = 0; act = act.Push push.Down } ∷ record { time = 50000000; act = act.Push push.Up } ∷ [] }
        ∷ [];
  } ∷ [];
  rows = (68 ∷ 67 ∷ 0 ∷ []) ∷ [];
  execs = record { name = []; chains = []; instrs = Run 0 0 0 2 ∷ Done ∷ [] } ∷ [];
}

-- a plan of it, with these rows behind
abbrev clocked_plan : List Row → Bound
clocked_plan more = record {
  rows = row.Lot (record { batch = 256; tries = 1; keep = 8 }) ∷ row.Clock (codes "ck")
      ∷ row.Die (record { site = 0; name = codes "d0"; file = codes "f" }) ∷ more;
  program = clocked;
  circuits = flip_flop ∷ [];
}

clocked_dump : dump_of (vars_of (clocked_plan []) 0) (tape_of (clocked_plan []) 0)
    ≡ codes "$timescale 1 fs $end\n$scope module die $end\n$var wire 1 ! d $end\n$var wire 1 \" ck $end\n"
    ++ codes "$upscope $end\n$enddefinitions $end\n"
    ++ codes "#0\n0!\n0\"\n#50000000\n1!\n1\"\n#100000000\n0!\n0\"\n#150000000\n1!\n1\"\n"
unfolding digits begins_name is_word vars_of tape_of trial order_in batches_of tried played pieces cycles_in fails_in blamed after_cycles after_moments entries_in moments_in moments_played rows_for circuits_for skews_in image_in calls_of_try all_cycles calls_of_cycles calls_in execs_of moments_of levels_through captured_levels fails is_sensed bodies repeated
clocked_dump = refl

-- a skew of the clock by one femtosecond
skewed_dump : dump_of (vars_of (clocked_plan (row.Skew (record { site = 0; signal = codes "ck"; skew = pos 1 }) ∷ [])) 0)
    (tape_of (clocked_plan (row.Skew (record { site = 0; signal = codes "ck"; skew = pos 1 }) ∷ [])) 0)
    ≡ codes "$timescale 1 fs $end\n$scope module die $end\n$var wire 1 ! d $end\n$var wire 1 \" ck $end\n"
    ++ codes "$upscope $end\n$enddefinitions $end\n"
    ++ codes "#0\n0!\n#1\n0\"\n#50000000\n1!\n"
    ++ codes "#50000001\n1\"\n#100000000\n0!\n#100000001\n0\"\n#150000000\n1!\n#150000001\n1\"\n"
unfolding digits begins_name is_word vars_of tape_of trial order_in batches_of tried played pieces cycles_in fails_in blamed after_cycles after_moments entries_in moments_in moments_played rows_for circuits_for skews_in image_in calls_of_try all_cycles calls_of_cycles calls_in execs_of moments_of levels_through captured_levels fails is_sensed bodies repeated
skewed_dump = refl
