-- What the code computes on its way; no public clause cites it.
use Rattle.std.specs.Prelude.{◌≡◌, ℕ, ◌+◌, ◌*◌, ◌^◌, ◌<◌, ◌≤◌, true, List, [], ◌∷◌, ◌++◌, Option, None, map, length, sum_by, nat_le}
use Rattle.std.specs.List.{AllByRecursion, list_all}
use Rattle.text_bytes.specs.Limits.{most_measure, most_cycles, most_row_characters}
use Rattle.stil_ast.specs.Faults.Found.{fault_at, unless}
use Rattle.stil_ast.specs.Faults.BurstFaults.{exec_place}
use Rattle.stil_ast.specs.Meaning.State.{start_of}
use Rattle.stil_ast.specs.Meaning.ExecutiveData.{Executive, vectors_of, measure_of, rows_of, tables_of}
use Rattle.stil_ast.specs.Faults.CodeFaults.{trees_fault}
use Rattle.stil_ast.specs.declared.fault.StilFault.{StilFault}
use Rattle.stil_ast.specs.declared.fault.StilKind.TheVariants.{TooLarge, TooManyCycles}
use Rattle.scan_chain.specs.Short.{is_short}
use Rattle.packed_code.specs.declared.instr.Instr.{Instr}
use Rattle.packed_code.specs.declared.instr.Instr.TheVariants.{Run, Loop, End, Done}
use Rattle.packed_code.specs.Meaning.{Means}
use Rattle.packed_code.specs.Whole.{IsWhole}
use Rattle.packed_code.specs.Program.{Exec}
use Rattle.cycle_comp.specs.Entries.{AreEntries}
use Rattle.cycle_comp.specs.Compiled.{chain_of, least_of}
use Rattle.cycle_comp.specs.Depth.{depth_of, NestWithin}
use Rattle.cycle_comp.specs.declared.building.Building.{Building}

-- a Run names one of so many tables, and its mark is a number of 32 bits
abbrev pub IsInside : ℕ → Instr → Type 0
IsInside tables (Run table row mark times) = (table < tables) × (mark < 2 ^ 32)
IsInside tables (Loop times) = Unit {0}
IsInside tables End = Unit {0}
IsInside tables Done = Unit {0}

-- what is made of an executive whose first table has this number, over these rows
pub record IsMade (signals first : ℕ) (rows : List (List ℕ)) (e : Executive) (made : Exec) : Type 0 where
  pub name : made.name ≡ e.name
  pub chains : made.chains ≡ map chain_of e.chains
  pub fine : trees_fault e.tables e.trees (start_of signals) ≡ None
  pub entries : AreEntries first rows (vectors_of signals e) (Means made.instrs)
  pub size : length made.instrs ≤ measure_of e + 1
  pub least : length made.instrs ≤ least_of signals e + 1
  pub nest : NestWithin (depth_of e) 0 made.instrs
  pub few : length made.instrs ≤ 4194305
  pub whole : IsWhole made.instrs
  pub inside : AllByRecursion (IsInside (first + length e.tables)) made.instrs

-- the same of executives one by one
abbrev pub AreMade : ℕ → ℕ → List (List ℕ) → List Executive → List Exec → Type 0
AreMade signals first rows [] [] = Unit {0}
AreMade signals first rows (e ∷ executives) (m ∷ made) =
    IsMade signals first rows e m × AreMade signals (first + length e.tables) rows executives made
AreMade signals first rows _ _ = ⊥

-- what was made of executives so far
pub record IsBuilt (signals : ℕ) (before : List Executive) (b : Building) : Type 0 where
  pub tables : b.tables.items ≡ tables_of before
  pub rows : b.rows ≡ rows_of signals before
  pub measure : b.measure ≡ sum_by measure_of before
  pub few : sum_by measure_of before ≤ most_measure
  pub row_count : length b.rows < 2 ^ 32
  pub few_rows : length b.rows * signals ≤ most_row_characters
  pub execs : AreMade signals 0 b.rows before b.execs.items

-- the fault of an executive's measure, behind others with so great a one, or of its number of cycles
abbrev pub size_fault : ℕ → ℕ → Executive → Option StilFault
size_fault before signals e =
    unless (nat_le (before + measure_of e) most_measure) (fault_at (exec_place e.name e.line) TooLarge)
    (unless (nat_le (length (vectors_of signals e)) most_cycles)
    (fault_at (exec_place e.name e.line) TooManyCycles) None)

-- the fault of rows
abbrev pub rows_fault : ℕ → List (List ℕ) → Executive → Option StilFault
rows_fault signals rows e =
    unless (nat_le (length rows * signals) most_row_characters) (fault_at (exec_place e.name e.line) TooLarge) None

-- what an executive has that the code numbers: few tables, short chains
pub record IsFit (e : Executive) : Type 0 where
  pub chains : list_all is_short e.chains ≡ true

-- an executive's own measure is that of all so far, and it has not too many cycles
pub record IsSized (before signals : ℕ) (e : Executive) (measure : ℕ) : Type 0 where
  pub is : measure ≡ before + measure_of e
  pub few : measure ≤ most_measure
  pub cycles : length (vectors_of signals e) ≤ most_cycles

-- an executive with these instructions was put behind others
pub record HasPut (e : Executive) (instrs : List Instr) (old new : Building) : Type 0 where
  pub tables : new.tables.items ≡ old.tables.items ++ e.tables
  pub rows : new.rows ≡ old.rows
  pub measure : new.measure ≡ old.measure
  pub execs : new.execs.items
      ≡ old.execs.items ++ record { name = e.name; chains = map chain_of e.chains; instrs = instrs } ∷ []
  pub inside : AllByRecursion (IsInside (length old.tables.items + length e.tables)) instrs
