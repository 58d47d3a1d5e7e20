-- The first fault of executives as they are compiled: the measure, the number of cycles, vectors, rows.
use Rattle.std.specs.Prelude.{ℕ, ◌+◌, ◌*◌, ◌==◌, ◌&&◌, Bool, true, false, List, [], ◌∷◌, ◌++◌, Option, Some, None, length, nat_le, slice_get, sum_by}
use Rattle.std.specs.List.{list_any}
use Rattle.text_bytes.specs.Limits.{most_measure, most_cycles, most_row_characters}
use Rattle.stil_ast.specs.Meaning.State.{State, start_of}
use Rattle.stil_ast.specs.Data.Places.{Titles}
use Rattle.stil_ast.specs.Meaning.Running.{Made}
use Rattle.stil_ast.specs.Faults.Found.{fault_at, fault_in, unless, or_else, first_in}
use Rattle.stil_ast.specs.Meaning.Signals.{names_of}
use Rattle.stil_ast.specs.Meaning.Times.{Times}
use Rattle.stil_ast.specs.Faults.BurstFaults.{exec_place}
use Rattle.stil_ast.specs.Meaning.ExecutiveData.{Tree, Executive, tree_run, vectors_of, measure_of, rows_of}
use Rattle.stil_ast.specs.Meaning.Executive.{executives_of}
use Rattle.stil_ast.specs.declared.blocks.Blocks.{Blocks}
use Rattle.stil_ast.specs.declared.fault.StilFault.{StilFault}
use Rattle.stil_ast.specs.declared.fault.StilKind.TheVariants.{NoTable, NoWave, TooLarge, TooManyCycles}
use Rattle.tester_types.specs.declared.wave.Wave.{Wave}
use Rattle.tester_types.specs.declared.wave.Table.{Table}

-- whether a table defines a signal's character
abbrev pub is_defined : Option Table → ℕ → ℕ → Bool
is_defined None signal character = false
is_defined (Some t) signal character = list_any (λ (w : Wave). w.signal == signal && w.character == character) t.waves

-- whether a table defines a signal's character, if it has one
abbrev pub has_wave : Option Table → ℕ → Option ℕ → Bool
has_wave table signal None = true
has_wave table signal (Some c) = is_defined table signal c

-- the same for the signals from this number on
abbrev pub have_waves : Option Table → ℕ → List (Option ℕ) → Bool
have_waves table signal [] = true
have_waves table signal (c ∷ characters) = has_wave table signal c && have_waves table (signal + 1) characters

-- a vector without a table, or with a character that its table doesn't define
abbrev pub made_fault : List Table → Titles → Made → Option ℕ → Option StilFault
made_fault tables titles m None = Some (fault_in titles m.place NoTable)
made_fault tables titles m (Some table) =
    unless (have_waves (slice_get tables table) 0 m.vector.characters) (fault_in titles m.place NoWave) None

-- the fault of a vector
abbrev pub vector_fault : List Table → Titles → Made → Option StilFault
vector_fault tables titles m = made_fault tables titles m m.vector.table

-- the first faulty vector of flat trees one after another
abbrev pub trees_fault : List Table → List Tree → State → Option StilFault
trees_fault tables [] s = None
trees_fault tables (t ∷ trees) s =
    or_else (first_in (vector_fault tables t.titles) (tree_run t s).made) (trees_fault tables trees (tree_run t s).here)

-- one executive over so many signals, behind others
abbrev pub compile_fault : ℕ → List Executive → Executive → Option StilFault
compile_fault signals before e =
    unless (nat_le (sum_by measure_of (before ++ (e ∷ []))) most_measure) (fault_at (exec_place e.name e.line) TooLarge)
    (unless (nat_le (length (vectors_of signals e)) most_cycles) (fault_at (exec_place e.name e.line) TooManyCycles)
    (or_else (trees_fault e.tables e.trees (start_of signals))
    (unless (nat_le (length (rows_of signals (before ++ (e ∷ []))) * signals) most_row_characters)
    (fault_at (exec_place e.name e.line) TooLarge) None)))

-- executives in order, behind others
abbrev pub compile_faults : ℕ → List Executive → List Executive → Option StilFault
compile_faults signals before [] = None
compile_faults signals before (e ∷ rest) =
    or_else (compile_fault signals before e) (compile_faults signals (before ++ (e ∷ [])) rest)

-- the first fault of the sixth pass
abbrev pub sixth_fault : {V : Type 0} → Times V → Blocks → Option StilFault
sixth_fault times blocks = compile_faults (length (names_of blocks).signals) [] (executives_of times blocks)
