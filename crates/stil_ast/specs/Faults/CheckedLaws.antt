-- What holds of statements whose check finds no fault. The check is on names; runs and flat trees are on numbers.
use Rattle.std.specs.Prelude.{◌≡◌, ℕ, ◌<◌, ◌≤◌, true, List, ◌∷◌, ◌++◌, map, length, slice_index_or}
use Rattle.text_bytes.specs.Limits.{most_walked}
use Rattle.stil_ast.specs.Data.Written.{Written}
use Rattle.stil_ast.specs.Meaning.State.{State}
use Rattle.stil_ast.specs.Data.Places.{of_pattern}
use Rattle.stil_ast.specs.Meaning.Arguments.{argument_of}
use Rattle.stil_ast.specs.Meaning.Dealing.{mark_of}
use Rattle.stil_ast.specs.Meaning.Running.{Here, run, outside}
use Rattle.stil_ast.specs.Meaning.Flat.{flat_run}
use Rattle.stil_ast.specs.Meaning.Flattening.{flat_of}
use Rattle.stil_ast.specs.Meaning.Resolved.{Scope, resolved, setting_of}
use Rattle.stil_ast.specs.Meaning.Signals.{names_of}
use Rattle.stil_ast.specs.Meaning.Bursts.{Played, played}
use Rattle.stil_ast.specs.Meaning.ExecutiveData.{Tree, Executive, trees_run, vectors_of, measure_in, least_in, tables_of, code_table, AreSameTrees}
use Rattle.stil_ast.specs.Meaning.Executive.{Part, part_of, up_to_stop, parts, tree_of, run_parts, exec_vectors}
use Rattle.stil_ast.specs.Meaning.Laws.{is_steady_pattern, with_state}
use Rattle.stil_ast.specs.Faults.AssignmentFaults.{Walked, fine, Standing, check_assigns}
use Rattle.stil_ast.specs.Faults.PatternFaults.{check_pattern, check_calls}
use Rattle.stil_ast.specs.Faults.ExecutiveFaults.{check_patterns}
use Rattle.stil_ast.specs.Faults.CodeFaults.{trees_fault}
use Rattle.stil_ast.specs.declared.body.Assignment.{Assignment}
use Rattle.stil_ast.specs.declared.executive.ExecDecl.{ExecDecl}
use Rattle.stil_ast.specs.declared.blocks.Blocks.{Blocks}
use Rattle.tester_types.specs.declared.wave.Table.{Table}

-- in a pattern without a fault no `#` and no Shift stands in a Loop, nor in the bodies that run in it
abbrev pub CheckedIsSteady : Type 0
CheckedIsSteady =
    (scope : Scope) (scan_outs : List ℕ) (body : Written) (count : ℕ) (w : Walked) →
    check_pattern scope body count ≡ fine w →
    is_steady_pattern (setting_of scope scan_outs) (resolved scope of_pattern body) ≡ true

-- the flat tree of a pattern without a fault has the pattern's run
abbrev pub CheckedTreeAgrees : Type 0
CheckedTreeAgrees =
    (scope : Scope) (scan_outs : List ℕ) (body : Written) (count : ℕ) (w : Walked) (s : State) →
    check_pattern scope body count ≡ fine w →
    flat_run (flat_of (setting_of scope scan_outs) (resolved scope of_pattern body)) (outside s).held s
    ≡ with_state (run (setting_of scope scan_outs) (resolved scope of_pattern body) (outside s))

-- the patterns of an executive up to the first with a Stop
abbrev pub parts_of : Blocks → ExecDecl → List Played → List Part
parts_of blocks e patterns = up_to_stop (map (part_of blocks e) patterns)

-- the flat trees of an executive without a fault have its run, one after another
abbrev pub TreesAgree : Type 0
TreesAgree =
    (blocks : Blocks) (e : ExecDecl) (patterns : List Played) (count : ℕ) (w : Walked) (h : Here) →
    check_patterns blocks e patterns count ≡ fine w →
    trees_run (map tree_of (parts_of blocks e patterns)) h.state ≡ with_state (run_parts (parts_of blocks e patterns) h)

-- plain data with these flat trees have the vectors of the executive, where it has no fault
abbrev pub VectorsAgree : Type 0
VectorsAgree =
    (blocks : Blocks) (e : ExecDecl) (count : ℕ) (w : Walked) (x : Executive) →
    check_patterns blocks e (played blocks e) count ≡ fine w → x.trees ≡ map tree_of (parts blocks e) →
    vectors_of (length (names_of blocks).signals) x ≡ exec_vectors blocks e

-- no more characters of an argument were taken than statements and signals were walked
abbrev pub IsConsumedWithin : Walked → Type 0
IsConsumedWithin w = (signal : ℕ) → (argument_of w.args signal).taken ≤ w.count

-- a check goes from one such point to the next, and back from each body, within the limit on what is walked; so a mark
-- is at most what was walked
pub record Walks (w v : Walked) : Type 0 where
  pub grows : w.count ≤ v.count
  pub limit : w.count ≤ most_walked → v.count ≤ most_walked
  pub consumed : IsConsumedWithin w → IsConsumedWithin v

-- so do the assignments of a statement, and its mark then is at most what was walked
abbrev pub MarkIsWalked : Type 0
MarkIsWalked =
    (scope : Scope) (s : Standing) (assigns : List Assignment) (w v : Walked) (outs taking : List ℕ) →
    check_assigns scope s assigns w ≡ fine v → Walks w v × (IsConsumedWithin w → mark_of outs taking v.args ≤ v.count)

-- and so do bodies as a whole
abbrev pub ConsumedIsWalked : Type 0
ConsumedIsWalked =
    (scope : Scope) (depth : ℕ) (s : Standing) (body : Written) (w v : Walked) →
    check_calls scope depth s body w ≡ fine v → Walks w v

-- flat trees that are as good do the same one after another: vectors, states, the first fault, the measure, and how few
-- instructions take them
abbrev pub SameTreesServe : Type 0
SameTreesServe = (tables : List Table) (trees more : List Tree) (s : State) → AreSameTrees trees more →
    (trees_run trees s ≡ trees_run more s) × (trees_fault tables trees s ≡ trees_fault tables more s)
    × (measure_in trees ≡ measure_in more) × (least_in trees s ≡ least_in more s)

-- the table of an executive's vector is found in the code under its number there
abbrev pub TablesAreNumbered : Type 0
TablesAreNumbered =
    (before after : List Executive) (e : Executive) (table : ℕ) (d : Table) → table < length e.tables →
    slice_index_or (tables_of (before ++ (e ∷ after))) (code_table before table) d ≡ slice_index_or e.tables table d
