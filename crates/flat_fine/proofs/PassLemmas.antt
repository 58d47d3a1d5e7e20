-- The executives of a flat text have no fault but that something is too large, which nothing is where their numbers fit.
use Rattle.std.proofs.Common.{◌≡◌, ℕ, ◌+◌, ◌*◌, ◌<◌, ◌≤◌, List, [], ◌∷◌, ◌++◌, length, length-append, Some, None, refl, sym, ap, subst, ◌∙◌, arith}
use Rattle.std.specs.Prelude.{sum_by, slice_get}
use Rattle.std.proofs.lemmas.List.Sums.{sum_by-cons, sum_by_push}
use Rattle.std.specs.List.{AllByRecursion, AllZip}
use Rattle.text_bytes.specs.Limits.{deepest_calls, deepest_loops, most_walked, most_waves}
use Rattle.packed_code.specs.declared.instr.Instr.TheVariants.{Done}
use Rattle.packed_code.specs.Program.{Program}
use Rattle.packed_code.specs.Conditions.{IsProgram}
use Rattle.stil_ast.specs.Data.Places.{of_pattern}
use Rattle.stil_ast.specs.Data.Written.{Written}
use Rattle.stil_ast.specs.Meaning.Signals.{names_of}
use Rattle.stil_ast.specs.Meaning.Variables.{Variable, picked, variables_fault}
use Rattle.stil_ast.specs.Meaning.Chains.{chains_named, chains_fault}
use Rattle.stil_ast.specs.Meaning.Bursts.{Played, played, exec_scans}
use Rattle.stil_ast.specs.Meaning.Resolved.{resolved}
use Rattle.stil_ast.specs.Meaning.Running.{stops}
use Rattle.stil_ast.specs.Meaning.Executive.{scope_of}
use Rattle.stil_ast.specs.Faults.Found.{or_else}
use Rattle.stil_ast.specs.Faults.BurstFaults.{exec_names_fault}
use Rattle.stil_ast.specs.Faults.TableFaults.{tables_fault}
use Rattle.stil_ast.specs.Faults.PatternFaults.{on_top, check_pattern}
use Rattle.stil_ast.specs.Faults.ExecutiveFaults.{timed_of, exec_waves, check_patterns, checked_fault, exec_walked, exec_fault, execs_fault, fifth_fault}
use Rattle.stil_ast.specs.declared.variable.SpecBlock.{SpecBlock}
use Rattle.stil_ast.specs.declared.scan.ScanBlock.{ScanBlock}
use Rattle.stil_ast.specs.declared.blocks.Blocks.{Blocks}
use Rattle.stil_ast.specs.declared.executive.ExecDecl.{ExecDecl}
use Rattle.stil_ast.specs.declared.fault.StilFault.{StilFault}
use Rattle.stil_ast.specs.declared.fault.StilKind.TheVariants.{TooLarge}
use Rattle.time_expr.specs.TimesOf.{times_of}
use Rattle.packed_code.specs.Cycles.{exec_of}
use Rattle.flat_parts.specs.FlatText.{executives}
use Rattle.flat_parts.specs.Nests.{instrs_in}
use Rattle.flat_parts.specs.FlatBlocks.{IsExecDecl, AreFlatBlocks}
use Rattle.flat_fine.specs.Fits.{HasRoom, walk_of, AreFew}
use Rattle.flat_fine.proofs.NumberLemmas.{times_suc}
use Rattle.flat_fine.proofs.ListLemmas.{at_range, zip_at}
use Rattle.flat_fine.proofs.SignalLemmas.{names_are}
use Rattle.flat_fine.proofs.FaultLemmas.{IsLarge, large_none, large_or, large_is, large_checked, none_where_fit, walked_few, Passes, passes_more, passes_pattern}
use Rattle.flat_fine.proofs.LookupLemmas.{IsFlatExec, flat_exec, as_played, played_is, names_known}
use Rattle.flat_fine.proofs.PatternLemmas.{cost_few, RunFits, RunsFit, nest_fits, IsRunKnown, nest_passes}
use Rattle.flat_fine.proofs.ScopeLemmas.{scope, runs_known}
use Rattle.flat_fine.proofs.TimingLemmas.{tables_large}

module _ (code : Program) (blocks : Blocks) (exec : ℕ) (e : ExecDecl) (program : IsProgram code) (flat : AreFlatBlocks code blocks)
    (less : exec < length code.execs) (is : IsFlatExec code blocks exec e) (Fit : Type 0)
    (shallow : Fit → HasRoom deepest_loops is.pattern_is.nest) where
  -- its pattern
  pattern_passes : (count most : ℕ) → count + walk_of code exec ≤ most → (Fit → most ≤ most_walked)
      → Passes Fit most (check_pattern (scope code blocks exec e program flat less is) is.pattern.body count)
  pattern_passes count most low few =
      let s = scope code blocks exec e program flat less is in
      let nest = is.pattern_is.nest in
      let fits : RunsFit (IsRunKnown s code) nest =
      nest_fits (IsRunKnown s code) nest (Done ∷ [])
      (subst (AllByRecursion (RunFits (IsRunKnown s code))) is.pattern_is.instrs (runs_known code blocks exec e program flat less is)) in
      let each = 4 + length code.signals in
      let whole : length (exec_of code exec).instrs ≡ length (instrs_in nest) + 1 =
      ap length is.pattern_is.instrs ∙ length-append (instrs_in nest) (Done ∷ []) in
      let walk : walk_of code exec ≡ length (instrs_in nest) * each + each =
      ap (λ (n : ℕ). n * each) whole ∙ times_suc (length (instrs_in nest)) each in
      let within = cost_few (length code.signals) nest in
      subst (λ (body : Written). Passes Fit most (check_pattern s body count)) (sym is.pattern_is.body)
      (nest_passes s code program (names_are code blocks flat) deepest_calls Fit nest on_top deepest_loops most
      (record { args = []; hashes = []; count = count }) (record { no_shift = refl; none_runs = refl }) refl
      (λ fit. omega arith) shallow (omega (arith, low, walk, within)) few fits)

  patterns_pass : (count : ℕ) → (Fit → count + walk_of code exec ≤ most_walked)
      → Passes Fit (count + walk_of code exec) (check_patterns blocks e (played blocks e) count)
  patterns_pass count few =
      let p = as_played code blocks exec e is in
      let most = count + walk_of code exec in
      subst (λ (ps : List Played). Passes Fit most (check_patterns blocks e ps count)) (sym (played_is code blocks exec e is))
      (passes_pattern Fit most most (stops (resolved (scope_of blocks e p) of_pattern is.pattern.body))
      (check_pattern (scope_of blocks e p) is.pattern.body count) (check_patterns blocks e []) (omega arith)
      (pattern_passes count most (omega arith) few) (λ n low. low))

  -- no variables
  variables_fine : variables_fault times_of (picked blocks e) ≡ None
  variables_fine = ap (λ (vs : List Variable). variables_fault times_of vs) none_picked
    where
      none_picked : picked blocks e ≡ []
      none_picked = ap (λ (specs : List SpecBlock). picked (record blocks { specs = specs }) e) flat.specs

  -- no chains
  chains_fine : chains_fault (names_of blocks) (exec_scans blocks e) (chains_named blocks.scans (exec_scans blocks e)) ≡ None
  chains_fine =
      ap (λ (scans : List ScanBlock). chains_fault (names_of blocks) (exec_scans blocks e)
      (chains_named scans (exec_scans blocks e))) flat.scans

  -- one executive, behind others
  pub exec_large : (before : List ExecDecl) → (Fit → sum_by (exec_walked blocks) before + walk_of code exec ≤ most_walked)
      → (Fit → sum_by (exec_waves blocks) before + exec_waves blocks e ≤ most_waves)
      → IsLarge Fit (exec_fault times_of blocks before e)
  exec_large before walks waves =
      let tables = tables_fault (timed_of times_of blocks e) (sum_by (exec_waves blocks) before) in
      let checked = check_patterns blocks e (played blocks e) (sum_by (exec_walked blocks) before) in
      let chains = chains_fault (names_of blocks) (exec_scans blocks e) (chains_named blocks.scans (exec_scans blocks e)) in
      large_or Fit (exec_names_fault blocks e)
      (or_else (variables_fault times_of (picked blocks e)) (or_else tables (or_else chains (checked_fault checked))))
      (large_none Fit (exec_names_fault blocks e) (names_known code blocks exec e is))
      (large_or Fit (variables_fault times_of (picked blocks e)) (or_else tables (or_else chains (checked_fault checked)))
      (large_none Fit (variables_fault times_of (picked blocks e)) variables_fine)
      (large_or Fit tables (or_else chains (checked_fault checked))
      (tables_large code blocks exec e (sum_by (exec_waves blocks) before) program flat less is Fit waves)
      (large_or Fit chains (checked_fault checked) (large_none Fit chains chains_fine)
      (large_checked Fit (sum_by (exec_walked blocks) before + walk_of code exec) checked
      (patterns_pass (sum_by (exec_walked blocks) before) walks)))))

-- an executive of a number: what it walks, and what faults it may have
record IsBound (code : Program) (blocks : Blocks) (Fit : Type 0) (exec : ℕ) (e : ExecDecl) : Type 0 where
  walked : exec_walked blocks e ≤ walk_of code exec
  large : (before : List ExecDecl) → (Fit → sum_by (exec_walked blocks) before + walk_of code exec ≤ most_walked)
      → (Fit → sum_by (exec_waves blocks) before + exec_waves blocks e ≤ most_waves)
      → IsLarge Fit (exec_fault times_of blocks before e)

-- executives behind others, which have walked no more than this
execs_large : (code : Program) (blocks : Blocks) (Fit : Type 0) (before rest : List ExecDecl) (numbers : List ℕ) (spent : ℕ)
    → sum_by (exec_walked blocks) before ≤ spent → (Fit → spent + sum_by (walk_of code) numbers ≤ most_walked)
    → (Fit → sum_by (exec_waves blocks) before + sum_by (exec_waves blocks) rest ≤ most_waves)
    → AllZip (IsBound code blocks Fit) numbers rest → IsLarge Fit (execs_fault times_of blocks before rest)
execs_large code blocks Fit before [] [] spent low walks waves all = tt
execs_large code blocks Fit before [] (n ∷ numbers) spent low walks waves all = absurd all
execs_large code blocks Fit before (e ∷ rest) [] spent low walks waves all = absurd all
execs_large code blocks Fit before (e ∷ rest) (n ∷ numbers) spent low walks waves all =
    let own = sum_by-cons (walk_of code) n numbers in
    let own_waves = sum_by-cons (exec_waves blocks) e rest in
    let more_walked = sum_by_push (exec_walked blocks) before e in
    let more_waves = sum_by_push (exec_waves blocks) before e in
    let few = all.0.walked in
    large_or Fit (exec_fault times_of blocks before e) (execs_fault times_of blocks (before ++ (e ∷ [])) rest)
    (all.0.large before
    (λ fit. let w = walks fit in omega (arith, w, low, own))
    (λ fit. let w = waves fit in omega (arith, w, own_waves)))
    (execs_large code blocks Fit (before ++ (e ∷ [])) rest numbers (spent + walk_of code n)
    (omega (arith, low, more_walked, few))
    (λ fit. let w = walks fit in omega (arith, w, own))
    (λ fit. let w = waves fit in omega (arith, w, own_waves, more_waves)) all.1)

-- all executives
module _ (code : Program) (blocks : Blocks) (program : IsProgram code) (flat : AreFlatBlocks code blocks) (Fit : Type 0)
    (fits : Fit → AreFew code blocks) where
  bound : (exec n : ℕ) (e : ExecDecl) → slice_get (executives code) n ≡ Some exec → slice_get blocks.executives n ≡ Some e
      → IsBound code blocks Fit exec e
  bound exec n e there at =
      let r = at_range (length code.execs) n exec there in
      let own = flat_exec code blocks n e program flat at in
      subst (λ (m : ℕ). IsBound code blocks Fit m e) (sym r.0) (record {
        walked = walked_few ⊥ (walk_of code n) (check_patterns blocks e (played blocks e) 0)
            (passes_more ⊥ (0 + walk_of code n) (walk_of code n) (check_patterns blocks e (played blocks e) 0) (omega arith)
            (patterns_pass code blocks n e program flat r.1 own ⊥ (λ f. absurd f) 0 (λ f. absurd f)));
        large = exec_large code blocks n e program flat r.1 own Fit
            (λ fit. (fits fit).shallow n own.pattern_is.nest r.1 own.pattern_is.instrs);
      })

  pub executives_large : IsLarge Fit (fifth_fault times_of blocks)
  executives_large =
      execs_large code blocks Fit [] blocks.executives (executives code) 0 (omega arith)
      (λ fit. let w = (fits fit).walked in omega (arith, w)) (λ fit. let w = (fits fit).waves in omega (arith, w))
      (zip_at (IsExecDecl code) (IsBound code blocks Fit) (executives code) blocks.executives flat.executives
      (λ n exec e there at. bound exec n e there at))

-- so what fault they have says that something is too large
pub executives_fine : (code : Program) (blocks : Blocks) (fault : StilFault) → IsProgram code → AreFlatBlocks code blocks
    → fifth_fault times_of blocks ≡ Some fault → fault.kind ≡ TooLarge
executives_fine code blocks fault program flat at =
    large_is ⊥ (fifth_fault times_of blocks) fault (executives_large code blocks program flat ⊥ (λ f. absurd f)) at

-- and they have none where nothing is
pub few_are_fine : (code : Program) (blocks : Blocks) → IsProgram code → AreFlatBlocks code blocks → AreFew code blocks
    → fifth_fault times_of blocks ≡ None
few_are_fine code blocks program flat few =
    none_where_fit (AreFew code blocks) (fifth_fault times_of blocks) few
    (executives_large code blocks program flat (AreFew code blocks) (λ f. f))
