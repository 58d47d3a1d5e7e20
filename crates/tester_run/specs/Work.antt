-- What the work of a site leaves: its records, and what its socket and its seat of the board tell of them.
use Rattle.std.specs.Prelude.{◌≡◌, ◌≢◌, ℕ, ◌+◌, ◌-◌, ◌^◌, ◌<◌, ◌≤◌, min, Bool, true, false, List, length, sum_by}
use Rattle.std.specs.List.{count_by, flat_map, AllByRecursion}
use Rattle.tester_types.specs.Outside.{HasRisen}
use Rattle.tester_types.specs.declared.record.Verdict.{Verdict}
use Rattle.tester_types.specs.declared.record.Verdict.TheVariants as verdict
use Rattle.tester_types.specs.declared.record.Trial.{Trial}
use Rattle.tester_types.specs.declared.record.Record.{Record}
use Rattle.packed_code.specs.Program.{Program}
use Rattle.packed_code.specs.Cycles.{cycles_of}
use Rattle.die_sim.specs.Socket.{Told}
use Rattle.site_meaning.specs.Part.{Part, dies_in}
use Rattle.site_meaning.specs.Records.{Sound, AreInOrder, records, cuts_of}
use Rattle.site_meaning.specs.Polls.{live_numbers, Climbs}
use Rattle.site_meaning.specs.Counting.{polls_of}
use Rattle.cycle_run.specs.Tape.{with_calls}
use Rattle.site_run.specs.Taped.{calls_of}
use Rattle.stop_board.specs.Seats.{SiteFacts}

-- ---- records

-- The whole list of a site: a record of each planned die, in order, and each is sound. So they are the records that the
-- plan makes with the cuts that they tell.
pub record AreRecords (part : Part) (entries : List Record) : Type 0 where
  pub each : AllByRecursion (Sound part) entries
  pub order : AreInOrder 0 entries
  pub all : length entries ≡ dies_in part
  pub whole : entries ≡ records part (cuts_of entries)

-- ---- contacts

-- whether a try ended because contact was lost
abbrev pub is_contact : Verdict → Bool
is_contact verdict.Pass = false
is_contact (verdict.Fail exec) = false
is_contact (verdict.Stopped batch by) = false
is_contact (verdict.Contact at) = true

-- how many tries of a record did
abbrev pub contacts_of : Record → ℕ
contacts_of entry = count_by (λ (t : Trial). is_contact t.verdict) entry.trials

-- how many tries of these records did
abbrev pub contacts_in : List Record → ℕ
contacts_in entries = sum_by contacts_of entries

-- A count of faults has risen by so much at least. A count that is kept in 64 bits says nothing once it is full.
abbrev pub HasRisenBy : ℕ → ℕ → ℕ → Type 0
HasRisenBy least before now = min (before + least) (2 ^ 64 - 1) ≤ now

-- ---- live stops

-- some executive has a cycle
abbrev pub HasCycle : Program → Type 0
HasCycle code = (exec : ℕ) × (exec < length code.execs) × (0 < length (cycles_of code exec))

-- each try of a record was loaded
abbrev pub IsLoaded : Record → Type 0
IsLoaded entry = AllByRecursion (λ (t : Trial). t.verdict ≢ verdict.Contact 0) entry.trials

-- The live stops that records tell rise strictly from above 0 to a last one, which is no more than what the seat has
-- seen. It is that number where the seat had seen none before, each try was loaded, and some executive has a cycle.
pub record AreLives (code : Program) (before seen : ℕ) (entries : List Record) : Type 0 where
  pub last : ℕ
  pub rise : Climbs 0 (flat_map live_numbers entries) last
  pub within : last ≤ seen
  pub caught : before ≡ 0 → HasCycle code → AllByRecursion IsLoaded entries → last ≡ seen

-- ---- the work

-- A tape that a socket told before has since then the drive calls of these records, try after try, where no fault of
-- the socket was counted.
abbrev pub AreTaped : Part → List Record → Told → Told → Type 0
AreTaped part entries told told' =
    (HasRisen told.count told'.count → ⊥) → told'.tape ≡ with_calls told.tape (flat_map (calls_of part) entries)

-- What a site's work leaves, of its seat before and now, and of what its socket told before and tells now: all of its
-- records. They tell the live stops that the seat has seen, and no more contacts than the count of faults rose by. The
-- seat was polled once for each batch. A tape has the calls of the records.
pub record IsWork (part : Part) (before now : SiteFacts) (told told' : Told) (entries : List Record) : Type 0 where
  pub records_are : AreRecords part entries
  pub lives : AreLives part.code before.seen now.seen entries
  pub contacts : HasRisenBy (contacts_in entries) told.count told'.count
  pub polls : now.polls ≡ before.polls + sum_by (polls_of part) entries
  pub taped : AreTaped part entries told told'
