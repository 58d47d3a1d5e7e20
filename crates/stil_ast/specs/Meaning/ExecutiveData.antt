-- Executives as plain data, what they run, and the rows and tables of the code of several (IEEE 1450-1999, clause 16).
use Rattle.std.specs.Prelude.{◌≡◌, ℕ, ◌+◌, List, [], ◌∷◌, ◌++◌, Option, Some, None, map, flat_map, length, slice_get, sum_by, unwrap_or, if◌then◌else◌}
use Rattle.stil_ast.specs.Meaning.State.{State, Vector, start_of}
use Rattle.stil_ast.specs.Data.Places.{Titles}
use Rattle.stil_ast.specs.Meaning.Cycles.{Dated, dated}
use Rattle.stil_ast.specs.Meaning.Running.{Ran, Made, still, then_run, outside}
use Rattle.stil_ast.specs.Meaning.Flat.{Flat, flat_run, measure}
use Rattle.stil_ast.specs.Meaning.Least.{least_written}
use Rattle.stil_ast.specs.Meaning.Chains.{Chain}
use Rattle.stil_ast.specs.Data.Texts.{has_name}
use Rattle.tester_types.specs.declared.wave.Table.{Table}

-- the flat tree of a pattern, and the names of the blocks in which its bodies stand
pub record Tree : Type 0 where
  pub titles : Titles
  pub flat : Flat

-- an executive: its name and line, its tables, its chains, and the flat trees of its patterns in running order
pub record Executive : Type 0 where
  pub name : List ℕ
  pub line : ℕ
  pub tables : List Table
  pub chains : List Chain
  pub trees : List Tree

-- what a pattern's flat tree does; nothing is held outside of a save
abbrev pub tree_run : Tree → State → Ran State
tree_run t s = flat_run t.flat (outside s).held s

-- flat trees one after another: each begins with the state that the one before it left
abbrev pub trees_run : List Tree → State → Ran State
trees_run [] s = still s
trees_run (t ∷ trees) s = then_run (tree_run t s) (trees_run trees)

-- the vectors of an executive over so many signals, from the start
abbrev pub vectors_of : ℕ → Executive → List Vector
vectors_of signals e = map (λ (m : Made). m.vector) (trees_run e.trees (start_of signals)).made

-- the period of a table that may be missing
abbrev pub period_at : Option Table → ℕ
period_at None = 0
period_at (Some t) = t.period

-- the table of a number
abbrev pub table_at : List Table → Option ℕ → Option Table
table_at tables None = None
table_at tables (Some table) = slice_get tables table

-- the period of a vector
abbrev pub vector_period : List Table → Vector → ℕ
vector_period tables v = period_at (table_at tables v.table)

-- its cycles, each with its start
abbrev pub cycles_of : ℕ → Executive → List Dated
cycles_of signals e = dated (vector_period e.tables) (vectors_of signals e)

-- the measure of flat trees
abbrev pub measure_in : List Tree → ℕ
measure_in trees = sum_by (λ (t : Tree). measure t.flat) trees

-- the measure of an executive: that of its flat trees
abbrev pub measure_of : Executive → ℕ
measure_of e = measure_in e.trees

-- how few instructions keep the loops of flat trees one after another, from a state
abbrev pub least_in : List Tree → State → ℕ
least_in [] s = 0
least_in (t ∷ trees) s = least_written t.flat (outside s).held s + least_in trees (tree_run t s).here

-- a row of bytes: the character of each signal, 0 for none
abbrev pub row_of : Vector → List ℕ
row_of v = map (λ (c : Option ℕ). unwrap_or c 0) v.characters

-- rows, each once, behind those that are there
abbrev pub distinct_rows : List (List ℕ) → List (List ℕ) → List (List ℕ)
distinct_rows before [] = before
distinct_rows before (row ∷ rows) =
    distinct_rows (if has_name before row then before else before ++ (row ∷ [])) rows

-- the rows of the code of executives, in the order of their first vectors
abbrev pub rows_of : ℕ → List Executive → List (List ℕ)
rows_of signals executives =
    distinct_rows [] (flat_map (λ (e : Executive). map row_of (vectors_of signals e)) executives)

-- the tables of the code of executives: those of one after those of another
abbrev pub tables_of : List Executive → List Table
tables_of executives = flat_map (λ (e : Executive). e.tables) executives

-- the number in the code of a table of an executive, behind these others
abbrev pub code_table : List Executive → ℕ → ℕ
code_table before table = length (tables_of before) + table

-- two flat trees that are as good as each other: whatever is held, they do the same and take as few instructions; and
-- they have one measure
pub record IsSameFlat (a b : Flat) : Type 0 where
  pub runs : (base s : State) → flat_run a base s ≡ flat_run b base s
  pub measure : measure a ≡ measure b
  pub least : (base s : State) → least_written a base s ≡ least_written b base s

-- the same of trees one by one, in blocks of the same names
abbrev pub AreSameTrees : List Tree → List Tree → Type 0
AreSameTrees [] [] = Unit {0}
AreSameTrees (a ∷ trees) (b ∷ more) = (a.titles ≡ b.titles) × IsSameFlat a.flat b.flat × AreSameTrees trees more
AreSameTrees _ _ = ⊥
