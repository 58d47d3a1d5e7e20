-- What is written of the flat trees of an executive, and how the fault of a vector is told.
use Rattle.std.specs.Prelude.{◌≡◌, ℕ, ◌+◌, ◌≤◌, List, map, length, Some, slice_get}
use Rattle.text_bytes.specs.Limits.{most_measure, most_cycles}
use Rattle.stil_ast.specs.Meaning.State.{start_of}
use Rattle.stil_ast.specs.Meaning.Running.{Made}
use Rattle.stil_ast.specs.Meaning.Flat.{Flat}
use Rattle.stil_ast.specs.Meaning.ExecutiveData.{Tree, trees_run, measure_in, least_in, row_of, distinct_rows}
use Rattle.stil_ast.specs.Faults.Found.{fault_in}
use Rattle.stil_ast.specs.Faults.CodeFaults.{trees_fault}
use Rattle.tester_types.specs.declared.wave.Table.{Table}
use Rattle.stil_ast.specs.declared.fault.StilFault.{StilFault}
use Rattle.packed_code.specs.declared.instr.Instr.{Instr}
use Rattle.packed_code.specs.Meaning.{Means}
use Rattle.packed_code.specs.Whole.{IsWhole}
use Rattle.cycle_comp.specs.Entries.{AreEntries}
use Rattle.cycle_comp.specs.Depth.{depth_in, NestWithin}
use Rattle.cycle_comp.specs.declared.fault.VectorFault.{VectorFault}
use Rattle.cycle_comp.specs.Writing.{WriteError}
use Rattle.answers.specs.declared.short.Short.TheVariants as errors

-- the flat trees of an executive
abbrev pub flats_of : List Tree → List Flat
flats_of trees = map (λ (t : Tree). t.flat) trees

-- the vectors that trees run over so many signals, each with the place of its V
abbrev pub made_in : ℕ → List Tree → List Made
made_in signals trees = (trees_run trees (start_of signals)).made

-- no row stands twice in a list of rows
abbrev pub HasEachOnce : List (List ℕ) → Type 0
HasEachOnce rows =
    (i j : ℕ) (row : List ℕ) → slice_get rows i ≡ Some row → slice_get rows j ≡ Some row → i ≡ j

-- These instructions are those of trees: their cycles run the trees' vectors, one by one; the rows are those before and
-- the vectors' own, each once. No loop is unrolled, since the number of instructions doesn't depend on how often loops
-- run. Where none of the rows before stands twice, a Loop whose passes make equal vectors stands once, no Loop has a
-- single pass, and Loops nest no deeper than in the trees.
pub record IsWritten (first signals : ℕ) (trees : List Tree) (code : List Instr) (before rows : List (List ℕ))
    : Type 0 where
  pub entries : AreEntries first rows (map (λ (m : Made). m.vector) (made_in signals trees)) (Means code)
  pub distinct : rows ≡ distinct_rows before (map (λ (m : Made). row_of m.vector) (made_in signals trees))
  pub size : length code ≤ measure_in trees + 1
  pub least : HasEachOnce before → length code ≤ least_in trees (start_of signals) + 1
  pub nest : HasEachOnce before → NestWithin (depth_in trees) 0 code
  pub whole : measure_in trees ≤ most_measure → length (made_in signals trees) ≤ most_cycles → IsWhole code

-- the fault of a vector, told with the names of the blocks of its tree
pub record IsTold (trees : List Tree) (x : VectorFault) (fault : StilFault) : Type 0 where
  pub tree : Tree
  pub at : slice_get trees x.tree ≡ Some tree
  pub told : fault ≡ fault_in tree.titles x.place x.kind

-- the first fault of trees, and how it is told
pub record IsFirstFault (tables : List Table) (signals : ℕ) (trees : List Tree) (x : VectorFault) : Type 0 where
  pub fault : StilFault
  pub first : trees_fault tables trees (start_of signals) ≡ Some fault
  pub told : IsTold trees x fault

-- an error of the first fault of trees, or want of memory
abbrev pub IsFaulty : List Table → ℕ → List Tree → WriteError → Type 0
IsFaulty tables signals trees errors.NoMemory = Unit {0}
IsFaulty tables signals trees (errors.Fault x) = IsFirstFault tables signals trees x

-- an error of this fault, or want of memory
abbrev pub IsRefusal : List Tree → StilFault → WriteError → Type 0
IsRefusal trees fault errors.NoMemory = Unit {0}
IsRefusal trees fault (errors.Fault x) = IsTold trees x fault
