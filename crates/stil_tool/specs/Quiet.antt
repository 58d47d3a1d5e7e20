-- Runs of lots that neither live stops nor lost contacts cut, as it is seen from outside: by the stops that the desk
-- has said and by the faults that sockets have counted. What they print is one function of the bytes of their files.
use Rattle.std.specs.Prelude.{◌≡◌, ℕ, ◌<◌, ◌≤◌, List, length, slice_index_or}
use Rattle.tester_types.specs.Outside.{HasRisen, file_of}
use Rattle.plan_rows.specs.declared.row.Row.{Row}
use Rattle.plan_rows.specs.Rows.{dies_at}
use Rattle.die_sim.specs.Socket.{Told}
use Rattle.tool_inputs.specs.Inputs.{bound_of}
use Rattle.lot_laws.specs.Alone.{IsOneProgram, AreOneNets, AreUncut}
use Rattle.lot_laws.specs.Uncut.{uncut_text}
use Rattle.stil_tool.specs.Lot.{Floor}
use Rattle.stil_tool.specs.Alone.{LotRun, said, records_at}

-- At a site no stop was said between these floors, and no fault of its socket was counted: its count wasn't full, and
-- it didn't rise.
pub record IsQuietAt {S : Type 0} (tells : S → Told) (old new : Floor S) (site : ℕ) : Type 0 where
  pub stops : new.stops site ≤ old.stops site
  pub faults : (socket : S) → HasRisen (tells (slice_index_or old.sockets site socket)).count
      (tells (slice_index_or new.sockets site socket)).count → ⊥

-- so it is at each site that has dies in these rows
abbrev pub AreQuiet : {S : Type 0} → (S → Told) → Floor S → Floor S → List Row → Type 0
AreQuiet tells old new rows = (site : ℕ) → 0 < length (dies_at site rows) → IsQuietAt tells old new site

-- so it is between the floors of a run
abbrev pub IsQuiet : {S : Type 0} {tells : S → Told} → LotRun tells → Type 0
IsQuiet {tells = tells} run = AreQuiet tells run.old run.new (said run).rows

-- Neither a live stop nor a lost contact cuts a try at a site where no stop was said and no fault was counted.
abbrev pub QuietIsUncut : {S : Type 0} → (S → Told) → Type 0
QuietIsUncut tells =
    (run : LotRun tells) (site : ℕ) → IsQuietAt tells run.old run.new site → AreUncut (records_at run site)

-- A run none of whose tries is cut prints the text of its bound plan without cuts.
abbrev pub UncutText : {S : Type 0} → (S → Told) → Type 0
UncutText tells =
    (run : LotRun tells) → ((site : ℕ) → AreUncut (records_at run site)) → run.text ≡ uncut_text (bound_of (said run))

-- So does one in which no stop was said and no fault was counted.
abbrev pub QuietText : {S : Type 0} → (S → Told) → Type 0
QuietText tells = (run : LotRun tells) → IsQuiet run → run.text ≡ uncut_text (bound_of (said run))

-- Two runs of the same bytes in which no stop was said and no fault was counted print the same text.
abbrev pub OneQuietText : {S : Type 0} → (S → Told) → Type 0
OneQuietText tells =
    (run other : LotRun tells) → IsOneProgram run.files other.files run.program other.program
    → file_of run.files run.plan ≡ file_of other.files other.plan
    → ((site : ℕ) → AreOneNets run.files other.files (said run).rows site) → IsQuiet run → IsQuiet other
    → run.text ≡ other.text
