-- The fault that is looked for in flat trees is that of what the patterns run to.
use Rattle.std.proofs.Common.{◌≡◌, ℕ, Bool, true, false, List, [], ◌∷◌, None, refl, ap, ◌∙◌, length, map, sum_by}
use Rattle.tester_types.specs.declared.wave.Table.{Table}
use Rattle.stil_ast.specs.Data.Places.{of_pattern}
use Rattle.stil_ast.specs.Meaning.State.{State, start_of}
use Rattle.stil_ast.specs.Meaning.Running.{Ran, Here, run, outside, stops}
use Rattle.stil_ast.specs.Meaning.Bursts.{Played, played}
use Rattle.stil_ast.specs.Meaning.Chains.{scan_outs}
use Rattle.stil_ast.specs.Meaning.Signals.{names_of}
use Rattle.stil_ast.specs.Meaning.Resolved.{resolved}
use Rattle.stil_ast.specs.Meaning.ExecutiveData.{tree_run}
use Rattle.stil_ast.specs.Meaning.Executive.{Part, scope_of, part_of, cut_behind, parts, tree_of, chain_list, table_list, executive_of}
use Rattle.stil_ast.specs.Meaning.Laws.{with_state}
use Rattle.stil_ast.specs.Meaning.Times.{Times}
use Rattle.stil_ast.specs.Faults.AssignmentFaults.{Walked, Checked, fine, refused}
use Rattle.stil_ast.specs.Faults.PatternFaults.{check_pattern}
use Rattle.stil_ast.specs.Faults.ExecutiveFaults.{behind_pattern, check_patterns, exec_walked, exec_fault}
use Rattle.stil_ast.specs.Faults.Found.{or_else, first_in}
use Rattle.stil_ast.specs.Faults.CodeFaults.{vector_fault, trees_fault}
use Rattle.stil_ast.specs.Faults.CheckedLaws.{parts_of}
use Rattle.stil_ast.specs.declared.executive.ExecDecl.{ExecDecl}
use Rattle.stil_ast.specs.declared.blocks.Blocks.{Blocks}
use Rattle.stil_ast.proofs.SteadyLemmas.{checked_tree_agrees}
use Rattle.stil_ast.proofs.TreeLemmas.{patterns_fine}
use Rattle.stil_program.specs.Runs.{runs_fault}

-- the trees of parts have the fault of the parts' runs
abbrev FaultsFit : List Table → List Part → Type 0
FaultsFit tables parts = (h : Here) → trees_fault tables (map tree_of parts) h.state ≡ runs_fault tables parts h

-- a pattern in front of others
fault_front : (tables : List Table) (p : Part) (parts : List Part)
    → ((s : State) → tree_run (tree_of p) s ≡ with_state (run p.setting p.statements (outside s)))
    → FaultsFit tables parts → FaultsFit tables (p ∷ parts)
fault_front tables p parts first later h =
    let r = run p.setting p.statements (outside h.state) in
    ap (λ (x : Ran State). or_else (first_in (vector_fault tables p.titles) x.made) (trees_fault tables (map tree_of parts) x.here)) (first h.state)
    ∙ ap (or_else (first_in (vector_fault tables p.titles) r.made)) (later r.here)

-- the same up to a Stop
fault_cut : (tables : List Table) (b : Bool) (p : Part) (parts : List Part) (c : Checked) (next : ℕ → Checked) (w : Walked)
    → behind_pattern b c next ≡ fine w
    → ((v : Walked) → c ≡ fine v → (s : State) → tree_run (tree_of p) s ≡ with_state (run p.setting p.statements (outside s)))
    → ((v : Walked) → next v.count ≡ fine w → FaultsFit tables parts)
    → FaultsFit tables (cut_behind b p parts)
fault_cut tables b p parts (refused fault) next w e first later = cc
fault_cut tables true p parts (fine v) next w e first later = fault_front tables p [] (first v refl) (λ h. refl)
fault_cut tables false p parts (fine v) next w e first later = fault_front tables p parts (first v refl) (later v e)

faults_fit : (tables : List Table) (blocks : Blocks) (e : ExecDecl) (patterns : List Played) (count : ℕ) (w : Walked) (h : Here)
    → check_patterns blocks e patterns count ≡ fine w
    → trees_fault tables (map tree_of (parts_of blocks e patterns)) h.state ≡ runs_fault tables (parts_of blocks e patterns) h
faults_fit tables blocks e [] count w h checked = refl
faults_fit tables blocks e (p ∷ patterns) count w h checked =
    let scope = scope_of blocks e p in
    let outs = scan_outs (names_of blocks) (chain_list blocks e) in
    fault_cut tables (stops (resolved scope of_pattern p.pattern.body)) (part_of blocks e p) (parts_of blocks e patterns)
    (check_pattern scope p.pattern.body count) (check_patterns blocks e patterns) w checked
    (λ v found s. checked_tree_agrees scope outs p.pattern.body count v s found)
    (λ v found now. faults_fit tables blocks e patterns v.count w now found)
    h

-- of an executive without a fault in the fifth pass
pub sixth_is_of_runs : {V : Type 0} (times : Times V) (blocks : Blocks) (before : List ExecDecl) (e : ExecDecl)
    → exec_fault times blocks before e ≡ None
    → trees_fault (table_list times blocks e) (executive_of times blocks e).trees (start_of (length (names_of blocks).signals))
    ≡ runs_fault (table_list times blocks e) (parts blocks e) (outside (start_of (length (names_of blocks).signals)))
sixth_is_of_runs times blocks before e none =
    let checked = patterns_fine times blocks before e none in
    faults_fit (table_list times blocks e) blocks e (played blocks e) (sum_by (exec_walked blocks) before) checked.0
    (outside (start_of (length (names_of blocks).signals))) checked.1
