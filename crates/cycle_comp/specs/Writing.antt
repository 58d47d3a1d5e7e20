-- What the code computes on its way; no public clause cites it.
use Rattle.std.specs.Prelude.{◌≡◌, ℕ, zero, suc, ◌+◌, ◌^◌, ◌<◌, ◌≤◌, ◌⊎◌, Bool, false, List, [], ◌∷◌, ◌++◌, map, length, take, Option, Some, None, slice_get, slice_index_or, sum_by, if◌then◌else◌}
use Rattle.std.specs.List.{AllByRecursion}
use Rattle.text_bytes.specs.Limits.{most_cycles, deepest_loops}
use Rattle.tester_types.specs.declared.wave.Table.{Table}
use Rattle.stil_ast.specs.Meaning.State.{State}
use Rattle.stil_ast.specs.Data.Places.{Origin}
use Rattle.stil_ast.specs.Meaning.Running.{Made, Ran, still, then_run, outside}
use Rattle.stil_ast.specs.Meaning.Flat.{Flat, done, flat_run, measure}
use Rattle.stil_ast.specs.Meaning.ExecutiveData.{row_of, distinct_rows}
use Rattle.stil_ast.specs.Faults.CodeFaults.{have_waves}
use Rattle.stil_ast.specs.declared.fault.StilKind.{StilKind}
use Rattle.stil_ast.specs.declared.fault.StilKind.TheVariants.{NoTable, NoWave}
use Rattle.packed_code.specs.declared.instr.Entry.{Entry}
use Rattle.packed_code.specs.declared.instr.Instr.{Instr}
use Rattle.packed_code.specs.declared.instr.Instr.TheVariants.{Run, Loop, End}
use Rattle.packed_code.specs.Meaning.{on_top, bodies}
use Rattle.packed_code.specs.Whole.{IsRest}
use Rattle.cycle_comp.specs.Entries.{AreEntries}
use Rattle.cycle_comp.specs.declared.fault.VectorFault.{VectorFault}
use Rattle.answers.specs.declared.short.Short.TheVariants as errors
use Rattle.answers.specs.declared.short.Short.{Short}
use Rattle.cycle_comp.specs.declared.trouble.PlaceFault.{PlaceFault}

-- ---- instructions

-- instructions without an open loop run these cycles before whatever stands behind them
abbrev pub Puts : List Instr → List Entry → Type 0
Puts code cycles = (rest : List Instr) → bodies (code ++ rest) ≡ on_top cycles (bodies rest)

-- they may stand in front of whatever may stand there, as long as loops nest so deep; none of them may not stand
-- between a Loop and its End
abbrev pub Stands : ℕ → List Instr → Type 0
Stands nest code =
    (depth : ℕ) (begun : Bool) (rest : List Instr) → depth + nest ≤ deepest_loops →
    (begun ≡ false) ⊎ (0 < length code) → IsRest depth false rest → IsRest depth begun (code ++ rest)

-- the same Run once more
pub record IsOnceMore (entry : Entry) (last run : Instr) : Type 0 where
  pub times : ℕ
  pub was : last ≡ Run entry.table entry.row entry.mark times
  pub is : run ≡ Run entry.table entry.row entry.mark (times + 1)
  pub room : times + 1 < 2 ^ 32

-- one cycle more
pub record IsPut (entry : Entry) (old new : List Instr) : Type 0 where
  pub puts : (cycles : List Entry) → Puts old cycles → Puts new (cycles ++ entry ∷ [])
  pub stands : (nest : ℕ) → Stands nest old → Stands nest new
  pub size : length new ≤ length old + 1

-- a loop over a body
abbrev pub looped : ℕ → List Instr → List Instr
looped times body = Loop times ∷ (body ++ End ∷ [])

-- ---- vectors

-- a vector of a state, with its mark, whose V stands in this place
abbrev pub made_at : State → ℕ → Origin → Made
made_at s mark place =
    record { vector = record { table = s.table; characters = s.characters; mark = mark }; place = place }

-- so often one after another
unfoldable pub often : {A : Type 0} → ℕ → List A → List A
often zero items = []
often (suc n) items = items ++ often n items

-- why a vector with this table, or without one, can't run
abbrev pub kind_under : List Table → Made → Option ℕ → Option StilKind
kind_under tables m None = Some NoTable
kind_under tables m (Some table) =
    if have_waves (slice_get tables table) 0 m.vector.characters then None else Some NoWave

-- why a vector can't run
abbrev pub fault_kind : List Table → Made → Option StilKind
fault_kind tables m = kind_under tables m m.vector.table

-- all vectors can run
abbrev pub AreFine : List Table → List Made → Type 0
AreFine tables made = AllByRecursion (λ (m : Made). fault_kind tables m ≡ None) made

-- the first vector that can't run, by its place and kind
pub record IsFirst (tables : List Table) (made : List Made) (place : Origin) (kind : StilKind) : Type 0 where
  pub before : List Made
  pub at : Made
  pub after : List Made
  pub whole : made ≡ before ++ at ∷ after
  pub fine : AreFine tables before
  pub kind_is : fault_kind tables at ≡ Some kind
  pub place_is : at.place ≡ place

-- want of memory, or a vector that can't run, by its place
abbrev pub Trouble : Type 0
Trouble = Short PlaceFault

-- want of memory, or a vector that can't run, by its tree and its place
abbrev pub WriteError : Type 0
WriteError = Short VectorFault

-- why writing stopped
abbrev pub IsStopped : List Table → List Made → Trouble → Type 0
IsStopped tables made errors.NoMemory = Unit {0}
IsStopped tables made (errors.Fault at) = IsFirst tables made at.place at.kind

-- the same of the tree of a number
abbrev pub IsOfTree : ℕ → Trouble → WriteError → Type 0
IsOfTree tree errors.NoMemory e = e ≡ errors.NoMemory
IsOfTree tree (errors.Fault at) e = e ≡ errors.Fault (record { tree = tree; place = at.place; kind = at.kind })

-- ---- what was written

-- the row of a vector
abbrev pub row_in : Made → List ℕ
row_in m = row_of m.vector

-- Vectors were written behind instructions, with at most so many instructions more, and none where there is no vector;
-- what was written may stand as deep as that number allows, since each level of loops doubles it.
pub record Wrote (tables : List Table) (first : ℕ) (made : List Made) (size : ℕ) (old new : List Instr)
    (before after : List (List ℕ)) : Type 0 where
  pub fine : AreFine tables made
  pub entries : List Entry
  pub are : AreEntries first after (map (λ (m : Made). m.vector) made) entries
  pub rows : after ≡ distinct_rows before (map row_in made)
  pub puts : (cycles : List Entry) → Puts old cycles → Puts new (cycles ++ entries)
  pub stands : (nest : ℕ) → size + 2 ≤ 2 ^ suc nest → length made ≤ most_cycles → Stands nest old → Stands nest new
  pub short : length new ≤ length old + size
  pub silent : made ≡ [] → new ≡ old

-- a run was written, and this is the state behind it
pub record Walked (tables : List Table) (first : ℕ) (r : Ran State) (size : ℕ) (old new : List Instr)
    (before after : List (List ℕ)) (here : State) : Type 0 where
  pub wrote : Wrote tables first r.made size old new before after
  pub here_is : here ≡ r.here

-- ---- several trees

-- flat trees one after another: each begins with the state that the one before it left
abbrev pub flats_run : List Flat → State → Ran State
flats_run [] s = still s
flats_run (f ∷ flats) s = then_run (flat_run f (outside s).held s) (flats_run flats)

-- their measure
abbrev pub flats_measure : List Flat → ℕ
flats_measure flats = sum_by measure flats

-- the vectors of a tree from this state on
abbrev pub made_from : Flat → State → List Made
made_from f s = (flat_run f (outside s).held s).made

-- the first vector of several trees that can't run
pub record IsFirstIn (tables : List Table) (flats : List Flat) (s : State) (x : VectorFault) : Type 0 where
  pub there : x.tree < length flats
  pub fine : AreFine tables (flats_run (take x.tree flats) s).made
  pub first : IsFirst tables (made_from (slice_index_or flats x.tree done) (flats_run (take x.tree flats) s).here)
      x.place x.kind

-- why writing trees stopped
abbrev pub AreStopped : List Table → List Flat → State → WriteError → Type 0
AreStopped tables flats s errors.NoMemory = Unit {0}
AreStopped tables flats s (errors.Fault x) = IsFirstIn tables flats s x
