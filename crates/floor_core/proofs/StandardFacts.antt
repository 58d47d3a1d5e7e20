-- Known facts, computed from the definitions: how a book is filled, and eight events at two sites.
use Rattle.std.proofs.Common.{◌≡◌, ℕ, List, [], ◌∷◌, refl}
use Rattle.std.specs.Prelude.{codes}
use Rattle.tester_types.specs.Records.{SiteRecords}
use Rattle.tester_types.specs.declared.record.By.TheVariants as by
use Rattle.tester_types.specs.declared.record.Verdict.{Verdict}
use Rattle.tester_types.specs.declared.record.Verdict.TheVariants as verdict
use Rattle.tester_types.specs.declared.record.Record.{Record}
use Rattle.packed_code.specs.Meaning.{bodies, repeated}
use Rattle.edge_gen.specs.Moments.{moments_of}
use Rattle.die_sim.specs.Stepped.{levels_through, captured_levels}
use Rattle.strobe_check.specs.Fails.{fails}
use Rattle.strobe_check.specs.Sensed.{is_sensed}
use Rattle.plan_rows.specs.declared.row.Row.{Row}
use Rattle.plan_rows.specs.declared.row.Row.TheVariants as row
use Rattle.site_meaning.specs.Playing.{after_moments, entries_in, moments_in, moments_played}
use Rattle.site_meaning.specs.Part.{rows_for, circuits_for, skews_in, image_in, order_in}
use Rattle.site_meaning.specs.Trials.{played, after_cycles, fails_in, execs_of, reached}
use Rattle.site_meaning.specs.Polls.{next_exec, onward, arrived, next_cycles, next_played, after_batch, settled, run_batch, before_batch, with_trial, poll}
use Rattle.floor_core.specs.Book.{new_book, filed}
use Rattle.floor_core.specs.World.{World, Event, Ask, Poll, File, contact_at, after, alone, events_of}
use Rattle.site_meaning.proofs.SampleDie.{inverter, program}

-- ---- a book

-- the row of a die of a site
abbrev die : ℕ → List ℕ → Row
die site name = row.Die (record { site = site; name = name; file = codes "f" })

-- a record without tries
abbrev entry : ℕ → ℕ → Record
entry site number = record { site = site; die = number; trials = [] }

-- a site with these records and so many more places
abbrev site_of : List Record → ℕ → SiteRecords
site_of records spare = record { records = records; spare = spare }

-- a place for each die, and a site without dies has none
new_places : new_book (die 2 (codes "a") ∷ die 0 (codes "b") ∷ die 2 (codes "c") ∷ []) ≡ site_of [] 1 ∷ site_of [] 0 ∷ site_of [] 2 ∷ []
new_places = refl

-- a record goes behind the others of its site
filed_behind : filed (site_of [] 1 ∷ site_of (entry 1 0 ∷ []) 2 ∷ []) (entry 1 1) ≡ site_of [] 1 ∷ site_of (entry 1 0 ∷ entry 1 1 ∷ []) 1 ∷ []
filed_behind = refl

-- ---- two sites

-- batches of one cycle, one try, and an inverter at each of two sites
abbrev world : World
world = record {
  plan = record {
    rows = row.Lot (record { batch = 1; tries = 1; keep = 8 }) ∷ die 0 (codes "a") ∷ die 1 (codes "b") ∷ [];
    program = program;
    circuits = inverter ∷ [];
  };
  contacts = [];
}

-- seven events, and a poll of a site that is done
abbrev seven : List Event
seven = Poll 0 ∷ Ask 1 ∷ Poll 1 ∷ File 0 ∷ Poll 0 ∷ File 0 ∷ File 1 ∷ []

abbrev eight : List Event
eight = Poll 0 ∷ Ask 1 ∷ Poll 1 ∷ File 0 ∷ Poll 0 ∷ File 0 ∷ File 1 ∷ Poll 1 ∷ []

-- the record of a die with one try
abbrev told : ℕ → ℕ → Verdict → Record
told site cycles how = record {
  site = site;
  die = 0;
  trials = record { number = 1; cycles = cycles; fails = 0; kept = []; verdict = how } ∷ [];
}

-- the record of site 1, which was stopped before its first batch
abbrev stopped : Record
stopped = told 1 0 (verdict.Stopped 0 (by.Desk 1))

-- site 0 passes with two cycles, and site 1 is stopped; the first file of site 0 does nothing
eight_events : (after world eight).journal ≡ told 0 2 verdict.Pass ∷ stopped ∷ []
unfolding after contact_at next_exec onward arrived next_cycles next_played after_batch settled run_batch before_batch with_trial poll played after_cycles fails_in execs_of reached rows_for circuits_for skews_in image_in order_in after_moments entries_in moments_in moments_played bodies repeated moments_of levels_through captured_levels fails is_sensed
eight_events = refl

-- the last poll does nothing
last_poll : (after world eight).seats 1 ≡ (after world seven).seats 1
unfolding after contact_at next_exec onward arrived next_cycles next_played after_batch settled run_batch before_batch with_trial poll played after_cycles fails_in execs_of reached rows_for circuits_for skews_in image_in order_in after_moments entries_in moments_in moments_played bodies repeated moments_of levels_through captured_levels fails is_sensed
last_poll = refl

-- site 1 alone
site_1_alone : (after (alone 1 world) (events_of 1 eight)).journal ≡ stopped ∷ []
unfolding after contact_at next_exec onward arrived next_cycles next_played after_batch settled run_batch before_batch with_trial poll played after_cycles fails_in execs_of reached rows_for circuits_for skews_in image_in order_in after_moments entries_in moments_in moments_played bodies repeated moments_of levels_through captured_levels fails is_sensed
site_1_alone = refl

-- a contact of the world at the second look of site 0 alone
abbrev losing : World
losing = record { plan = world.plan; contacts = record { site = 0; die = 0; number = 1; at = 140000000 } ∷ [] }

lost_contact : (after losing eight).journal ≡ told 0 1 (verdict.Contact 140000000) ∷ stopped ∷ []
unfolding after contact_at next_exec onward arrived next_cycles next_played after_batch settled run_batch before_batch with_trial poll played after_cycles fails_in execs_of reached rows_for circuits_for skews_in image_in order_in after_moments entries_in moments_in moments_played bodies repeated moments_of levels_through captured_levels fails is_sensed
lost_contact = refl
