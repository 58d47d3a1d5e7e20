-- The flat trees of an executive have its run one after another; trees that are as good give the same.
use Rattle.std.proofs.Common.{◌≡◌, ℕ, ◌+◌, ◌<◌, Bool, true, false, List, [], ◌∷◌, ◌++◌, None, refl, ap, sym, ◌∙◌, length, map, sum_by, get_or, slice_index_or}
use Rattle.std.proofs.lemmas.List.{get_or-append-add}
use Rattle.std.proofs.Math.ListN.{get_or-append}
use Rattle.std.proofs.lemmas.List.Sums.{sum_by-cons}
use Rattle.std.proofs.lemmas.Grind.{flat_map-append}
use Rattle.stil_ast.specs.Meaning.State.{State, start_of}
use Rattle.stil_ast.specs.Data.Places.{of_pattern, Titles}
use Rattle.stil_ast.specs.Meaning.Flat.{measure}
use Rattle.stil_ast.specs.Meaning.Least.{least_written}
use Rattle.stil_ast.specs.Meaning.Running.{Ran, Made, Here, behind, then_run, run, outside, stops}
use Rattle.stil_ast.specs.Meaning.Bursts.{Played, played, exec_scans}
use Rattle.stil_ast.specs.Meaning.Chains.{scan_outs, chains_named, chains_fault}
use Rattle.stil_ast.specs.Meaning.Times.{Times}
use Rattle.stil_ast.specs.Meaning.Variables.{picked, variables_fault}
use Rattle.stil_ast.specs.Faults.BurstFaults.{exec_names_fault}
use Rattle.stil_ast.specs.Faults.TableFaults.{tables_fault}
use Rattle.stil_ast.specs.Meaning.Signals.{names_of}
use Rattle.stil_ast.specs.Meaning.Resolved.{resolved}
use Rattle.stil_ast.specs.Meaning.ExecutiveData.{Tree, Executive, tree_run, trees_run, vectors_of, measure_in, least_in, tables_of, code_table, AreSameTrees}
use Rattle.stil_ast.specs.Meaning.Executive.{Part, scope_of, part_of, cut_behind, parts, tree_of, run_parts, exec_vectors, chain_list}
use Rattle.stil_ast.specs.Meaning.Laws.{with_state}
use Rattle.stil_ast.specs.Faults.AssignmentFaults.{Walked, Checked, fine, refused}
use Rattle.stil_ast.specs.Faults.PatternFaults.{check_pattern}
use Rattle.stil_ast.specs.Faults.ExecutiveFaults.{behind_pattern, check_patterns, timed_of, exec_waves, exec_walked, checked_fault, exec_fault}
use Rattle.stil_ast.specs.Faults.Found.{or_else, first_in}
use Rattle.stil_ast.specs.Faults.CodeFaults.{vector_fault, trees_fault}
use Rattle.stil_ast.specs.Faults.CheckedLaws.{parts_of}
use Rattle.stil_ast.specs.declared.executive.ExecDecl.{ExecDecl}
use Rattle.stil_ast.specs.declared.blocks.Blocks.{Blocks}
use Rattle.tester_types.specs.declared.wave.Table.{Table}
use Rattle.stil_ast.proofs.FoundLemmas.{or_else-none}
use Rattle.stil_ast.proofs.SteadyLemmas.{checked_tree_agrees}

-- parts of which each one's tree has its run
abbrev TreesFit : List Part → Type 0
TreesFit parts = (h : Here) → trees_run (map tree_of parts) h.state ≡ with_state (run_parts parts h)

-- a pattern in front of others
trees_front : (p : Part) (parts : List Part)
    → ((s : State) → tree_run (tree_of p) s ≡ with_state (run p.setting p.statements (outside s)))
    → TreesFit parts → TreesFit (p ∷ parts)
trees_front p parts first later h =
    let r = run p.setting p.statements (outside h.state) in
    ap (λ (x : Ran State). then_run x (trees_run (map tree_of parts))) (first h.state)
    ∙ ap (behind r.made) (later r.here)

-- the same up to a Stop
trees_cut : (b : Bool) (p : Part) (parts : List Part) (c : Checked) (next : ℕ → Checked) (w : Walked)
    → behind_pattern b c next ≡ fine w
    → ((v : Walked) → c ≡ fine v → (s : State) → tree_run (tree_of p) s ≡ with_state (run p.setting p.statements (outside s)))
    → ((v : Walked) → next v.count ≡ fine w → TreesFit parts)
    → TreesFit (cut_behind b p parts)
trees_cut b p parts (refused fault) next w e first later = cc
trees_cut true p parts (fine v) next w e first later = trees_front p [] (first v refl) (λ h. refl)
trees_cut false p parts (fine v) next w e first later = trees_front p parts (first v refl) (later v e)

pub trees_agree : (blocks : Blocks) (e : ExecDecl) (patterns : List Played) (count : ℕ) (w : Walked) (h : Here)
    → check_patterns blocks e patterns count ≡ fine w
    → trees_run (map tree_of (parts_of blocks e patterns)) h.state
    ≡ with_state (run_parts (parts_of blocks e patterns) h)
trees_agree blocks e [] count w h checked = refl
trees_agree blocks e (p ∷ patterns) count w h checked =
    let scope = scope_of blocks e p in
    let outs = scan_outs (names_of blocks) (chain_list blocks e) in
    trees_cut (stops (resolved scope of_pattern p.pattern.body)) (part_of blocks e p) (parts_of blocks e patterns)
    (check_pattern scope p.pattern.body count) (check_patterns blocks e patterns) w checked
    (λ v found s. checked_tree_agrees scope outs p.pattern.body count v s found)
    (λ v found now. trees_agree blocks e patterns v.count w now found)
    h

pub vectors_agree : (blocks : Blocks) (e : ExecDecl) (count : ℕ) (w : Walked) (x : Executive)
    → check_patterns blocks e (played blocks e) count ≡ fine w → x.trees ≡ map tree_of (parts blocks e)
    → vectors_of (length (names_of blocks).signals) x ≡ exec_vectors blocks e
vectors_agree blocks e count w x checked trees =
    let begin = start_of (length (names_of blocks).signals) in
    let vectors = λ (r : Ran State). map (λ (m : Made). m.vector) r.made in
    ap (λ (all : List Tree). vectors (trees_run all begin)) trees
    ∙ ap vectors (trees_agree blocks e (played blocks e) count w (outside begin) checked)

checked-none : (c : Checked) → checked_fault c ≡ None → (w : Walked) × (c ≡ fine w)
checked-none (fine w) e = (w, refl)
checked-none (refused fault) e = cc

-- the patterns of an executive without a fault are checked without one
pub patterns_fine : {V : Type 0} (times : Times V) (blocks : Blocks) (before : List ExecDecl) (e : ExecDecl)
    → exec_fault times blocks before e ≡ None
    → (w : Walked) × (check_patterns blocks e (played blocks e) (sum_by (exec_walked blocks) before) ≡ fine w)
patterns_fine times blocks before e none =
    let one = or_else-none (exec_names_fault blocks e) _ none in
    let two = or_else-none (variables_fault times (picked blocks e)) _ one.1 in
    let three = or_else-none (tables_fault (timed_of times blocks e) (sum_by (exec_waves blocks) before)) _ two.1 in
    let four = or_else-none (chains_fault (names_of blocks) (exec_scans blocks e) (chains_named blocks.scans (exec_scans blocks e))) _ three.1 in
    checked-none (check_patterns blocks e (played blocks e) (sum_by (exec_walked blocks) before)) four.1

pub same_trees_serve : (tables : List Table) (trees more : List Tree) (s : State) → AreSameTrees trees more
    → (trees_run trees s ≡ trees_run more s) × (trees_fault tables trees s ≡ trees_fault tables more s)
    × (measure_in trees ≡ measure_in more) × (least_in trees s ≡ least_in more s)
same_trees_serve tables [] [] s are = (refl, refl, refl, refl)
same_trees_serve tables [] (b ∷ more) s are = absurd are
same_trees_serve tables (a ∷ trees) [] s are = absurd are
same_trees_serve tables (a ∷ trees) (b ∷ more) s are =
    let first = are.1.runs (outside s).held s in
    let now = tree_run b s in
    let later = same_trees_serve tables trees more now.here are.2 in
    let fault_behind = λ (titles : Titles) (r : Ran State). or_else (first_in (vector_fault tables titles) r.made) (trees_fault tables trees r.here) in (
      ap (λ (r : Ran State). then_run r (trees_run trees)) first ∙ ap (behind now.made) later.0,
      ap (fault_behind a.titles) first
          ∙ (ap (λ (titles : Titles). fault_behind titles now) are.0
          ∙ ap (or_else (first_in (vector_fault tables b.titles) now.made)) later.1),
      sum_by-cons (λ (t : Tree). measure t.flat) a trees
          ∙ (ap (λ (n : ℕ). n + measure_in trees) are.1.measure
          ∙ (ap (λ (n : ℕ). measure b.flat + n) later.2 ∙ sym (sum_by-cons (λ (t : Tree). measure t.flat) b more))),
      ap (λ (n : ℕ). n + least_in trees (tree_run a s).here) (are.1.least (outside s).held s)
          ∙ (ap (λ (r : Ran State). least_written b.flat (outside s).held s + least_in trees r.here) first
          ∙ ap (λ (n : ℕ). least_written b.flat (outside s).held s + n) later.3),
    )

pub tables_are_numbered : (before after : List Executive) (e : Executive) (table : ℕ) (d : Table)
    → table < length e.tables
    → slice_index_or (tables_of (before ++ (e ∷ after))) (code_table before table) d ≡ slice_index_or e.tables table d
tables_are_numbered before after e table d within =
    ap (λ (all : List Table). get_or all (code_table before table) d) (flat_map-append (λ (e : Executive). e.tables) before (e ∷ after))
    ∙ (get_or-append-add (tables_of before) (e.tables ++ tables_of after) table d
    ∙ get_or-append e.tables (tables_of after) d table within)
