-- Known facts, computed from the definitions: what small plans make of small dies, try by try and poll by poll.
use Rattle.std.proofs.Common.{◌≡◌, ℕ, pos, true, false, List, [], ◌∷◌, map, Option, Some, None, refl}
use Rattle.std.specs.Prelude.{codes}
use Rattle.bench_net.specs.Circuit.{Circuit}
use Rattle.bench_net.specs.declared.gate.Driver.TheVariants as driver
use Rattle.bench_net.specs.declared.gate.GateKind.TheVariants as gate
use Rattle.tester_types.specs.declared.level.Level.TheVariants as level
use Rattle.tester_types.specs.declared.signal.Direction.TheVariants as direction
use Rattle.tester_types.specs.declared.wave.Push.TheVariants as push
use Rattle.tester_types.specs.declared.wave.Look.{Look}
use Rattle.tester_types.specs.declared.wave.Look.TheVariants as look
use Rattle.tester_types.specs.declared.wave.Act.TheVariants as act
use Rattle.tester_types.specs.declared.wave.Wave.{Wave}
use Rattle.tester_types.specs.declared.record.By.TheVariants as by
use Rattle.tester_types.specs.declared.record.Fail.{Fail}
use Rattle.tester_types.specs.declared.record.Verdict.{Verdict}
use Rattle.tester_types.specs.declared.record.Verdict.TheVariants as verdict
use Rattle.tester_types.specs.declared.record.Trial.{Trial}
use Rattle.packed_code.specs.declared.instr.Instr.{Instr}
use Rattle.packed_code.specs.declared.instr.Instr.TheVariants.{Run, Done}
use Rattle.packed_code.specs.Meaning.{bodies, repeated}
use Rattle.packed_code.specs.Program.{Program}
use Rattle.edge_gen.specs.Moments.{moments_of}
use Rattle.die_sim.specs.Stepped.{levels_through, captured_levels}
use Rattle.strobe_check.specs.Fails.{fails}
use Rattle.strobe_check.specs.Sensed.{is_sensed}
use Rattle.plan_rows.specs.declared.row.Row.{Row}
use Rattle.plan_rows.specs.declared.row.Row.TheVariants as row
use Rattle.lot_plan.specs.Bound.{Bound}
use Rattle.site_meaning.specs.Playing.{after_moments, entries_in, moments_in, moments_played}
use Rattle.site_meaning.specs.Part.{Part, part_of, rows_for, circuits_for, skews_in, image_in, order_in}
use Rattle.site_meaning.specs.Trials.{played, after_cycles, fails_in, pieces, tried, execs_of, batches_of, cycles_in, blamed, reached, trial, uncut, live, touch}
use Rattle.site_meaning.specs.Records.{cut_at, tries_from, records}
use Rattle.site_meaning.specs.Counting.{batch_at, polls_in}
use Rattle.site_meaning.specs.Polls.{Seat, first_seat, with_word, with_none_waiting, next_exec, onward, arrived, next_cycles, next_played, after_batch, settled, run_batch, before_batch, with_trial, poll}
use Rattle.site_meaning.proofs.SampleDie.{inverter, wave, program}

-- ---- an inverter

-- a plan of a die at site 0, with a lot of these numbers and these rows behind
abbrev plan : ℕ → ℕ → List Row → Bound
plan batch tries more = record {
  rows = row.Lot (record { batch = batch; tries = tries; keep = 8 })
      ∷ row.Die (record { site = 0; name = codes "d0"; file = codes "f" }) ∷ more;
  program = program;
  circuits = inverter ∷ [];
}

-- the site's part
abbrev part : ℕ → ℕ → List Row → Part
part batch tries more = part_of (plan batch tries more) 0

-- a try that passed
abbrev passed : ℕ → ℕ → Trial
passed number cycles = record { number = number; cycles = cycles; fails = 0; kept = []; verdict = verdict.Pass }

-- ---- tries of one die

-- ---- tries of one die

-- ---- tries of one die

-- a good die passes
good_die : trial (part 256 1 []) 0 1 uncut ≡ passed 1 2
unfolding trial batches_of tried played after_cycles fails_in pieces execs_of cycles_in blamed reached rows_for circuits_for skews_in image_in order_in after_moments entries_in moments_in moments_played bodies repeated moments_of levels_through captured_levels fails is_sensed
good_die = refl

-- Y stuck at 0, in so many first tries or in all
abbrev stuck : Option ℕ → List Row
stuck tries = row.Fault (record { site = 0; die = 0; net = codes "Y"; value = false; tries = tries }) ∷ []

-- the look for H sees the 0
abbrev seen_low : ℕ → Fail
seen_low at = record { exec = 0; cycle = 0; at = at; signal = 1; want = look.High; seen = level.Zero; mark = 0 }

-- a try that failed once, at this instant
abbrev failed : ℕ → ℕ → Trial
failed number at = record { number = number; cycles = 2; fails = 1; kept = seen_low at ∷ []; verdict = verdict.Fail 0 }

stuck_die : trial (part 256 1 (stuck None)) 0 1 uncut ≡ failed 1 40000000
unfolding trial batches_of tried played after_cycles fails_in pieces execs_of cycles_in blamed reached rows_for circuits_for skews_in image_in order_in after_moments entries_in moments_in moments_played bodies repeated moments_of levels_through captured_levels fails is_sensed
stuck_die = refl

-- Y is looked at 10 ns later
skewed_look : trial (part 256 1 (row.Skew (record { site = 0; signal = codes "Y"; skew = pos 10000000 }) ∷ stuck None)) 0 1 uncut
    ≡ failed 1 50000000
unfolding trial batches_of tried played after_cycles fails_in pieces execs_of cycles_in blamed reached rows_for circuits_for skews_in image_in order_in after_moments entries_in moments_in moments_played bodies repeated moments_of levels_through captured_levels fails is_sensed
skewed_look = refl

-- of a lot that keeps no fail, its number is told all the same
none_kept : trial (record (part 256 1 (stuck None)) {
  rows = row.Lot (record { batch = 256; tries = 1; keep = 0 })
      ∷ row.Die (record { site = 0; name = codes "d0"; file = codes "f" }) ∷ stuck None;
}) 0 1 uncut
    ≡ record { number = 1; cycles = 2; fails = 1; kept = []; verdict = verdict.Fail 0 }
unfolding trial batches_of tried played after_cycles fails_in pieces execs_of cycles_in blamed reached rows_for circuits_for skews_in image_in order_in after_moments entries_in moments_in moments_played bodies repeated moments_of levels_through captured_levels fails is_sensed
none_kept = refl

-- ---- touchdowns

-- a fault of the first try alone: the die is tried again and passes
tried_again : records (part 256 2 (stuck (Some 1))) []
    ≡ record { site = 0; die = 0; trials = failed 1 40000000 ∷ passed 2 2 ∷ [] } ∷ []
unfolding trial batches_of tried played after_cycles fails_in pieces execs_of cycles_in blamed reached rows_for circuits_for skews_in image_in order_in after_moments entries_in moments_in moments_played bodies repeated moments_of levels_through captured_levels fails is_sensed cut_at tries_from
tried_again = refl

-- with one try it fails
not_tried_again : records (part 256 1 (stuck (Some 1))) []
    ≡ record { site = 0; die = 0; trials = failed 1 40000000 ∷ [] } ∷ []
unfolding trial batches_of tried played after_cycles fails_in pieces execs_of cycles_in blamed reached rows_for circuits_for skews_in image_in order_in after_moments entries_in moments_in moments_played bodies repeated moments_of levels_through captured_levels fails is_sensed cut_at tries_from
not_tried_again = refl

-- ---- stops

-- the plan stops a try of the die before this batch
abbrev order : ℕ → ℕ → Row
order number batch = row.Stop (record { site = 0; die = 0; number = number; batch = batch })

-- a try that was stopped
abbrev stopped_at : ℕ → Verdict → Trial
stopped_at cycles how = record { number = 1; cycles = cycles; fails = 0; kept = []; verdict = how }

-- before the second batch of one cycle
plan_stops : trial (part 1 1 (order 1 1 ∷ [])) 0 1 uncut ≡ stopped_at 1 (verdict.Stopped 1 by.Plan)
unfolding trial batches_of tried played after_cycles fails_in pieces execs_of cycles_in blamed reached rows_for circuits_for skews_in image_in order_in after_moments entries_in moments_in moments_played bodies repeated moments_of levels_through captured_levels fails is_sensed
plan_stops = refl

-- before the first
plan_stops_first : trial (part 1 1 (order 1 0 ∷ [])) 0 1 uncut ≡ stopped_at 0 (verdict.Stopped 0 by.Plan)
unfolding trial batches_of tried played after_cycles fails_in pieces execs_of cycles_in blamed reached rows_for circuits_for skews_in image_in order_in after_moments entries_in moments_in moments_played bodies repeated moments_of levels_through captured_levels fails is_sensed
plan_stops_first = refl

-- an order at a batch that isn't there, or of another try, changes nothing
no_such_batch : trial (part 1 1 (order 1 2 ∷ [])) 0 1 uncut ≡ passed 1 2
unfolding trial batches_of tried played after_cycles fails_in pieces execs_of cycles_in blamed reached rows_for circuits_for skews_in image_in order_in after_moments entries_in moments_in moments_played bodies repeated moments_of levels_through captured_levels fails is_sensed
no_such_batch = refl

other_try : trial (part 1 2 (order 2 0 ∷ [])) 0 1 uncut ≡ passed 1 2
unfolding trial batches_of tried played after_cycles fails_in pieces execs_of cycles_in blamed reached rows_for circuits_for skews_in image_in order_in after_moments entries_in moments_in moments_played bodies repeated moments_of levels_through captured_levels fails is_sensed
other_try = refl

-- a live stop before the same batch wins, and one before a later batch doesn't come to it
live_wins : trial (part 1 1 (order 1 1 ∷ [])) 0 1 (live 1 5) ≡ stopped_at 1 (verdict.Stopped 1 (by.Desk 5))
unfolding trial batches_of tried played after_cycles fails_in pieces execs_of cycles_in blamed reached rows_for circuits_for skews_in image_in order_in after_moments entries_in moments_in moments_played bodies repeated moments_of levels_through captured_levels fails is_sensed
live_wins = refl

plan_comes_first : trial (part 1 1 (order 1 0 ∷ [])) 0 1 (live 1 5) ≡ stopped_at 0 (verdict.Stopped 0 by.Plan)
unfolding trial batches_of tried played after_cycles fails_in pieces execs_of cycles_in blamed reached rows_for circuits_for skews_in image_in order_in after_moments entries_in moments_in moments_played bodies repeated moments_of levels_through captured_levels fails is_sensed
plan_comes_first = refl

-- a try that failed in its first batch is stopped before its second
stopped_with_fail : trial (part 1 1 (stuck None)) 0 1 (live 1 1)
    ≡ record { number = 1; cycles = 1; fails = 1; kept = seen_low 40000000 ∷ []; verdict = verdict.Stopped 1 (by.Desk 1) }
unfolding trial batches_of tried played after_cycles fails_in pieces execs_of cycles_in blamed reached rows_for circuits_for skews_in image_in order_in after_moments entries_in moments_in moments_played bodies repeated moments_of levels_through captured_levels fails is_sensed
stopped_with_fail = refl

-- ---- contacts

-- a try that lost its contact
abbrev lost : ℕ → ℕ → Trial
lost cycles at = stopped_at cycles (verdict.Contact at)

-- at the load, whatever order the plan has
lost_at_load : trial (part 1 1 (order 1 0 ∷ [])) 0 1 (touch 0) ≡ lost 0 0
unfolding trial batches_of tried played after_cycles fails_in pieces execs_of cycles_in blamed reached rows_for circuits_for skews_in image_in order_in after_moments entries_in moments_in moments_played bodies repeated moments_of levels_through captured_levels fails is_sensed
lost_at_load = refl

-- at the sense of the first cycle
lost_at_sense : trial (part 256 1 []) 0 1 (touch 40000000) ≡ lost 0 40000000
unfolding trial batches_of tried played after_cycles fails_in pieces execs_of cycles_in blamed reached rows_for circuits_for skews_in image_in order_in after_moments entries_in moments_in moments_played bodies repeated moments_of levels_through captured_levels fails is_sensed
lost_at_sense = refl

-- at the drive of the second
lost_at_drive : trial (part 256 1 []) 0 1 (touch 100000000) ≡ lost 1 100000000
unfolding trial batches_of tried played after_cycles fails_in pieces execs_of cycles_in blamed reached rows_for circuits_for skews_in image_in order_in after_moments entries_in moments_in moments_played bodies repeated moments_of levels_through captured_levels fails is_sensed
lost_at_drive = refl

-- between moments, and behind an order, it isn't reached
between_moments : trial (part 256 1 []) 0 1 (touch 50000000) ≡ passed 1 2
unfolding trial batches_of tried played after_cycles fails_in pieces execs_of cycles_in blamed reached rows_for circuits_for skews_in image_in order_in after_moments entries_in moments_in moments_played bodies repeated moments_of levels_through captured_levels fails is_sensed
between_moments = refl

behind_order : trial (part 1 1 (order 1 1 ∷ [])) 0 1 (touch 140000000) ≡ stopped_at 1 (verdict.Stopped 1 by.Plan)
unfolding trial batches_of tried played after_cycles fails_in pieces execs_of cycles_in blamed reached rows_for circuits_for skews_in image_in order_in after_moments entries_in moments_in moments_played bodies repeated moments_of levels_through captured_levels fails is_sensed
behind_order = refl

-- the fails of earlier moments count, those of this moment don't
lost_with_fail : trial (part 256 1 (stuck None)) 0 1 (touch 100000000)
    ≡ record { number = 1; cycles = 1; fails = 1; kept = seen_low 40000000 ∷ []; verdict = verdict.Contact 100000000 }
unfolding trial batches_of tried played after_cycles fails_in pieces execs_of cycles_in blamed reached rows_for circuits_for skews_in image_in order_in after_moments entries_in moments_in moments_played bodies repeated moments_of levels_through captured_levels fails is_sensed
lost_with_fail = refl

lost_before_fail : trial (part 256 1 (stuck None)) 0 1 (touch 40000000) ≡ lost 0 40000000
unfolding trial batches_of tried played after_cycles fails_in pieces execs_of cycles_in blamed reached rows_for circuits_for skews_in image_in order_in after_moments entries_in moments_in moments_played bodies repeated moments_of levels_through captured_levels fails is_sensed
lost_before_fail = refl

-- ---- polls

-- a site with word and number taken, behind so many dies, whose record waits
abbrev waiting : ℕ → ℕ → List Trial → Seat
waiting word taken trials = record {
  word = word;
  taken = taken;
  die = 1;
  trials = [];
  running = None;
  waiting = Some (record { site = 0; die = 0; trials = trials });
}

-- one poll runs the one batch, and ends the touchdown
one_poll : poll (part 256 1 []) None first_seat ≡ waiting 0 0 (passed 1 2 ∷ [])
unfolding next_exec onward arrived next_cycles next_played after_batch settled run_batch before_batch with_trial poll played after_cycles fails_in execs_of reached rows_for circuits_for skews_in image_in order_in after_moments entries_in moments_in moments_played bodies repeated moments_of levels_through captured_levels fails is_sensed
one_poll = refl

-- with batches of one cycle two polls do, and a third does nothing
two_polls : poll (part 1 1 []) None (poll (part 1 1 []) None first_seat) ≡ waiting 0 0 (passed 1 2 ∷ [])
unfolding next_exec onward arrived next_cycles next_played after_batch settled run_batch before_batch with_trial poll played after_cycles fails_in execs_of reached rows_for circuits_for skews_in image_in order_in after_moments entries_in moments_in moments_played bodies repeated moments_of levels_through captured_levels fails is_sensed
two_polls = refl

third_poll : poll (part 1 1 []) None (waiting 0 0 (passed 1 2 ∷ [])) ≡ waiting 0 0 (passed 1 2 ∷ [])
unfolding next_exec onward arrived next_cycles next_played after_batch settled run_batch before_batch with_trial poll played after_cycles fails_in execs_of reached rows_for circuits_for skews_in image_in order_in after_moments entries_in moments_in moments_played bodies repeated moments_of levels_through captured_levels fails is_sensed
third_poll = refl

-- a site whose dies are done does nothing
done_poll : poll (part 1 1 []) None (with_none_waiting (waiting 0 0 (passed 1 2 ∷ []))) ≡ with_none_waiting (waiting 0 0 (passed 1 2 ∷ []))
unfolding next_exec onward arrived next_cycles next_played after_batch settled run_batch before_batch with_trial poll played after_cycles fails_in execs_of reached rows_for circuits_for skews_in image_in order_in after_moments entries_in moments_in moments_played bodies repeated moments_of levels_through captured_levels fails is_sensed
done_poll = refl

-- a word is taken before a batch
live_poll : poll (part 1 1 []) None (with_word first_seat 1) ≡ waiting 1 1 (stopped_at 0 (verdict.Stopped 0 (by.Desk 1)) ∷ [])
unfolding next_exec onward arrived next_cycles next_played after_batch settled run_batch before_batch with_trial poll played after_cycles fails_in execs_of reached rows_for circuits_for skews_in image_in order_in after_moments entries_in moments_in moments_played bodies repeated moments_of levels_through captured_levels fails is_sensed
live_poll = refl

later_live_poll : poll (part 1 1 []) None (with_word (poll (part 1 1 []) None first_seat) 3)
    ≡ waiting 3 3 (stopped_at 1 (verdict.Stopped 1 (by.Desk 3)) ∷ [])
unfolding next_exec onward arrived next_cycles next_played after_batch settled run_batch before_batch with_trial poll played after_cycles fails_in execs_of reached rows_for circuits_for skews_in image_in order_in after_moments entries_in moments_in moments_played bodies repeated moments_of levels_through captured_levels fails is_sensed
later_live_poll = refl

-- the load fails, and the word isn't taken
load_poll : poll (part 1 1 []) (Some 0) (with_word first_seat 1) ≡ waiting 1 0 (lost 0 0 ∷ [])
unfolding next_exec onward arrived next_cycles next_played after_batch settled run_batch before_batch with_trial poll played after_cycles fails_in execs_of reached rows_for circuits_for skews_in image_in order_in after_moments entries_in moments_in moments_played bodies repeated moments_of levels_through captured_levels fails is_sensed
load_poll = refl

-- a contact of the second batch, which the first poll passes by
contact_poll : poll (part 1 1 []) (Some 140000000) (poll (part 1 1 []) (Some 140000000) first_seat)
    ≡ waiting 0 0 (lost 1 140000000 ∷ [])
unfolding next_exec onward arrived next_cycles next_played after_batch settled run_batch before_batch with_trial poll played after_cycles fails_in execs_of reached rows_for circuits_for skews_in image_in order_in after_moments entries_in moments_in moments_played bodies repeated moments_of levels_through captured_levels fails is_sensed
contact_poll = refl

-- the plan's order
plan_poll : poll (part 1 1 (order 1 1 ∷ [])) None (poll (part 1 1 (order 1 1 ∷ [])) None first_seat)
    ≡ waiting 0 0 (stopped_at 1 (verdict.Stopped 1 by.Plan) ∷ [])
unfolding next_exec onward arrived next_cycles next_played after_batch settled run_batch before_batch with_trial poll played after_cycles fails_in execs_of reached rows_for circuits_for skews_in image_in order_in after_moments entries_in moments_in moments_played bodies repeated moments_of levels_through captured_levels fails is_sensed
plan_poll = refl

-- a fail in the first of two tries: the next poll runs the second
again_poll : poll (part 256 2 (stuck (Some 1))) None (poll (part 256 2 (stuck (Some 1))) None first_seat)
    ≡ waiting 0 0 (failed 1 40000000 ∷ passed 2 2 ∷ [])
unfolding next_exec onward arrived next_cycles next_played after_batch settled run_batch before_batch with_trial poll played after_cycles fails_in execs_of reached rows_for circuits_for skews_in image_in order_in after_moments entries_in moments_in moments_played bodies repeated moments_of levels_through captured_levels fails is_sensed
again_poll = refl

-- ---- how many polls tries take

-- one a batch
polls_of_passed : polls_in (part 1 1 []) 0 (passed 1 2) ≡ 2
unfolding polls_in batch_at batches_of tried played after_cycles fails_in pieces execs_of cycles_in blamed reached rows_for circuits_for skews_in image_in order_in after_moments entries_in moments_in moments_played bodies repeated moments_of levels_through captured_levels fails is_sensed
polls_of_passed = refl

-- one more than the batch before which or in which the try ended
polls_of_stopped : polls_in (part 1 1 []) 0 (stopped_at 1 (verdict.Stopped 1 by.Plan)) ≡ 2
unfolding polls_in batch_at batches_of tried played after_cycles fails_in pieces execs_of cycles_in blamed reached rows_for circuits_for skews_in image_in order_in after_moments entries_in moments_in moments_played bodies repeated moments_of levels_through captured_levels fails is_sensed
polls_of_stopped = refl

polls_of_lost : polls_in (part 1 1 []) 0 (lost 1 140000000) ≡ 2
unfolding polls_in batch_at batches_of tried played after_cycles fails_in pieces execs_of cycles_in blamed reached rows_for circuits_for skews_in image_in order_in after_moments entries_in moments_in moments_played bodies repeated moments_of levels_through captured_levels fails is_sensed
polls_of_lost = refl

-- one for a load that failed
polls_of_unloaded : polls_in (part 1 1 []) 0 (lost 0 0) ≡ 1
unfolding polls_in batch_at batches_of tried played after_cycles fails_in pieces execs_of cycles_in blamed reached rows_for circuits_for skews_in image_in order_in after_moments entries_in moments_in moments_played bodies repeated moments_of levels_through captured_levels fails is_sensed
polls_of_unloaded = refl

-- ---- executives, one after another

-- the part of a plan of one die for a program and a circuit
abbrev part_for : Program → Circuit → ℕ → List Row → Part
part_for code circuit batch more = part_of (record (plan batch 1 more) { program = code; circuits = circuit ∷ [] }) 0

-- the same signals, table and rows, with these executives
abbrev with_execs : List (List Instr) → Program
with_execs lists = record program { execs = map (λ instrs. record { name = []; chains = []; instrs = instrs }) lists }

-- each vector is an executive of its own; between them stands one without cycles
abbrev three_execs : Program
three_execs = with_execs ((Run 0 0 0 1 ∷ Done ∷ []) ∷ (Done ∷ []) ∷ (Run 0 1 0 1 ∷ Done ∷ []) ∷ [])

-- cycles and times go on
whole_try : trial (part_for three_execs inverter 256 []) 0 1 uncut ≡ passed 1 2
unfolding trial batches_of tried played after_cycles fails_in pieces execs_of cycles_in blamed reached rows_for circuits_for skews_in image_in order_in after_moments entries_in moments_in moments_played bodies repeated moments_of levels_through captured_levels fails is_sensed
whole_try = refl

-- an executive without cycles has no batch
second_batch : trial (part_for three_execs inverter 256 (order 1 1 ∷ [])) 0 1 uncut ≡ stopped_at 1 (verdict.Stopped 1 by.Plan)
unfolding trial batches_of tried played after_cycles fails_in pieces execs_of cycles_in blamed reached rows_for circuits_for skews_in image_in order_in after_moments entries_in moments_in moments_played bodies repeated moments_of levels_through captured_levels fails is_sensed
second_batch = refl

-- the first executive with a fail is the last that runs
first_fails : trial (part_for three_execs inverter 256 (stuck None)) 0 1 uncut
    ≡ record { number = 1; cycles = 1; fails = 1; kept = seen_low 40000000 ∷ []; verdict = verdict.Fail 0 }
unfolding trial batches_of tried played after_cycles fails_in pieces execs_of cycles_in blamed reached rows_for circuits_for skews_in image_in order_in after_moments entries_in moments_in moments_played bodies repeated moments_of levels_through captured_levels fails is_sensed
first_fails = refl

-- Y stuck at 1 fails in the last
abbrev stuck_high : List Row
stuck_high = row.Fault (record { site = 0; die = 0; net = codes "Y"; value = true; tries = None }) ∷ []

last_fails : trial (part_for three_execs inverter 256 stuck_high) 0 1 uncut
    ≡ record {
      number = 1;
      cycles = 2;
      fails = 1;
      kept = record { exec = 2; cycle = 1; at = 140000000; signal = 1; want = look.Low; seen = level.One; mark = 0 } ∷ [];
      verdict = verdict.Fail 2;
    }
unfolding trial batches_of tried played after_cycles fails_in pieces execs_of cycles_in blamed reached rows_for circuits_for skews_in image_in order_in after_moments entries_in moments_in moments_played bodies repeated moments_of levels_through captured_levels fails is_sensed
last_fails = refl

-- a try without a batch passes, whatever stops the plan or the desk has for it
no_batch : trial (part_for (with_execs ((Done ∷ []) ∷ [])) inverter 256 (order 1 0 ∷ [])) 0 1 (live 0 1) ≡ passed 1 0
unfolding trial batches_of tried played after_cycles fails_in pieces execs_of cycles_in blamed reached rows_for circuits_for skews_in image_in order_in after_moments entries_in moments_in moments_played bodies repeated moments_of levels_through captured_levels fails is_sensed
no_batch = refl

no_batch_poll : poll (part_for (with_execs ((Done ∷ []) ∷ [])) inverter 256 (order 1 0 ∷ [])) None (with_word first_seat 1)
    ≡ waiting 1 0 (passed 1 0 ∷ [])
unfolding next_exec onward arrived next_cycles next_played after_batch settled run_batch before_batch with_trial poll played after_cycles fails_in execs_of reached rows_for circuits_for skews_in image_in order_in after_moments entries_in moments_in moments_played bodies repeated moments_of levels_through captured_levels fails is_sensed
no_batch_poll = refl

-- polls pass over it
exec_polls : poll (part_for three_execs inverter 256 []) None (poll (part_for three_execs inverter 256 []) None first_seat)
    ≡ waiting 0 0 (passed 1 2 ∷ [])
unfolding next_exec onward arrived next_cycles next_played after_batch settled run_batch before_batch with_trial poll played after_cycles fails_in execs_of reached rows_for circuits_for skews_in image_in order_in after_moments entries_in moments_in moments_played bodies repeated moments_of levels_through captured_levels fails is_sensed
exec_polls = refl

-- p gives A its last Down or Up, also that of an earlier executive; before any it is unknown
abbrev with_prior : List (List Instr) → Program
with_prior lists = record (with_execs lists) {
  tables = record {
    name = codes "w";
    period = 100000000;
    waves = wave 0 49 0 (act.Push push.Up) ∷ wave 0 112 0 (act.Push push.Prior)
        ∷ wave 1 72 40000000 (act.Look look.High) ∷ wave 1 76 40000000 (act.Look look.Low) ∷ [];
  } ∷ [];
  rows = (49 ∷ 76 ∷ []) ∷ (112 ∷ 76 ∷ []) ∷ [];
}

prior_is_up : trial (part_for (with_prior ((Run 0 0 0 1 ∷ Done ∷ []) ∷ (Run 0 1 0 1 ∷ Done ∷ []) ∷ [])) inverter 256 []) 0 1 uncut
    ≡ passed 1 2
unfolding trial batches_of tried played after_cycles fails_in pieces execs_of cycles_in blamed reached rows_for circuits_for skews_in image_in order_in after_moments entries_in moments_in moments_played bodies repeated moments_of levels_through captured_levels fails is_sensed
prior_is_up = refl

prior_is_unknown : trial (part_for (with_prior ((Run 0 1 0 1 ∷ Done ∷ []) ∷ [])) inverter 256 []) 0 1 uncut
    ≡ record {
      number = 1;
      cycles = 1;
      fails = 1;
      kept = record { exec = 0; cycle = 0; at = 40000000; signal = 1; want = look.Low; seen = level.X; mark = 0 } ∷ [];
      verdict = verdict.Fail 0;
    }
unfolding trial batches_of tried played after_cycles fails_in pieces execs_of cycles_in blamed reached rows_for circuits_for skews_in image_in order_in after_moments entries_in moments_in moments_played bodies repeated moments_of levels_through captured_levels fails is_sensed
prior_is_unknown = refl

-- one for a try without a batch
polls_of_none : polls_in (part_for (with_execs ((Done ∷ []) ∷ [])) inverter 256 []) 0 (passed 1 0) ≡ 1
unfolding polls_in batch_at batches_of tried played after_cycles fails_in pieces execs_of cycles_in blamed reached rows_for circuits_for skews_in image_in order_in after_moments entries_in moments_in moments_played bodies repeated moments_of levels_through captured_levels fails is_sensed
polls_of_none = refl

-- ---- windows

-- Y = BUFF(A)
abbrev buffer : Circuit
buffer = record {
  net = record {
    names = codes "A" ∷ codes "Y" ∷ [];
    drivers = driver.Input ∷ driver.Gate gate.Buf (0 ∷ []) ∷ [];
    outputs = false ∷ true ∷ [];
  };
  order = 1 ∷ [];
  readers = (1 ∷ []) ∷ [] ∷ [];
}

-- A falls at 30 ns; Y is looked at from 20 ns up to 60 ns, or at 20 ns alone
abbrev windows : Look → Program
windows what = record program {
  tables = record {
    name = codes "w";
    period = 100000000;
    waves = record {
      signal = 0;
      character = 114;
      events = record { time = 0; act = act.Push push.Up } ∷ record { time = 30000000; act = act.Push push.Down } ∷ [];
    }
        ∷ record {
          signal = 1;
          character = 119;
          events = record { time = 20000000; act = act.Look what } ∷ record { time = 60000000; act = act.Look look.Close } ∷ [];
        } ∷ [];
  } ∷ [];
  rows = (114 ∷ 119 ∷ []) ∷ [];
  execs = record { name = []; chains = []; instrs = Run 0 0 0 1 ∷ Done ∷ [] } ∷ [];
}

window_fails : trial (part_for (windows look.HighWindow) buffer 256 []) 0 1 uncut
    ≡ record {
      number = 1;
      cycles = 1;
      fails = 1;
      kept = record { exec = 0; cycle = 0; at = 30000000; signal = 1; want = look.HighWindow; seen = level.Zero; mark = 0 } ∷ [];
      verdict = verdict.Fail 0;
    }
unfolding trial batches_of tried played after_cycles fails_in pieces execs_of cycles_in blamed reached rows_for circuits_for skews_in image_in order_in after_moments entries_in moments_in moments_played bodies repeated moments_of levels_through captured_levels fails is_sensed
window_fails = refl

edge_passes : trial (part_for (windows look.High) buffer 256 []) 0 1 uncut ≡ passed 1 1
unfolding trial batches_of tried played after_cycles fails_in pieces execs_of cycles_in blamed reached rows_for circuits_for skews_in image_in order_in after_moments entries_in moments_in moments_played bodies repeated moments_of levels_through captured_levels fails is_sensed
edge_passes = refl

-- at 60 ns nothing is sensed, since the window has failed, and no contact can be lost
nothing_sensed : trial (part_for (windows look.HighWindow) buffer 256 []) 0 1 (touch 60000000)
    ≡ trial (part_for (windows look.HighWindow) buffer 256 []) 0 1 uncut
unfolding trial batches_of tried played after_cycles fails_in pieces execs_of cycles_in blamed reached rows_for circuits_for skews_in image_in order_in after_moments entries_in moments_in moments_played bodies repeated moments_of levels_through captured_levels fails is_sensed
nothing_sensed = refl

-- ---- a clock

-- q = DFF(d)
abbrev flip_flop : Circuit
flip_flop = record {
  net = record { names = codes "d" ∷ codes "q" ∷ []; drivers = driver.Input ∷ driver.Dff 0 ∷ []; outputs = false ∷ true ∷ [] };
  order = [];
  readers = [] ∷ [] ∷ [];
}

-- down at first, and up from 50 ns on
abbrev risen : ℕ → ℕ → Wave
risen signal character = record {
  signal = signal;
  character = character;
  events = record { time = 0; act = act.Push push.Down } ∷ record { time = 50000000; act = act.Push push.Up } ∷ [];
}

-- d and the clock rise together; q is looked at in the second cycle
abbrev clocked : Program
clocked = record {
  signals = record { name = codes "d"; direction = direction.In } ∷ record { name = codes "ck"; direction = direction.In }
      ∷ record { name = codes "q"; direction = direction.Out } ∷ [];
  tables = record {
    name = codes "w";
    period = 100000000;
    waves = risen 0 114 ∷ risen 1 80 ∷ wave 2 72 40000000 (act.Look look.High)
        ∷ wave 2 76 40000000 (act.Look look.Low) ∷ wave 2 88 40000000 (act.Look look.Close) ∷ [];
  } ∷ [];
  rows = (114 ∷ 80 ∷ 88 ∷ []) ∷ (114 ∷ 80 ∷ 76 ∷ []) ∷ [];
  execs = record { name = []; chains = []; instrs = Run 0 0 0 1 ∷ Run 0 1 0 1 ∷ Done ∷ [] } ∷ [];
}

-- the flip-flop takes what d was before the edge
takes_before : trial (part_for clocked flip_flop 256 (row.Clock (codes "ck") ∷ [])) 0 1 uncut ≡ passed 1 2
unfolding trial batches_of tried played after_cycles fails_in pieces execs_of cycles_in blamed reached rows_for circuits_for skews_in image_in order_in after_moments entries_in moments_in moments_played bodies repeated moments_of levels_through captured_levels fails is_sensed
takes_before = refl

-- a clock that comes later takes what d is
takes_behind : trial (part_for clocked flip_flop 256
    (row.Clock (codes "ck") ∷ row.Skew (record { site = 0; signal = codes "ck"; skew = pos 1 }) ∷ [])) 0 1 uncut
    ≡ record {
      number = 1;
      cycles = 2;
      fails = 1;
      kept = record { exec = 0; cycle = 1; at = 140000000; signal = 2; want = look.Low; seen = level.One; mark = 0 } ∷ [];
      verdict = verdict.Fail 0;
    }
unfolding trial batches_of tried played after_cycles fails_in pieces execs_of cycles_in blamed reached rows_for circuits_for skews_in image_in order_in after_moments entries_in moments_in moments_played bodies repeated moments_of levels_through captured_levels fails is_sensed
takes_behind = refl
