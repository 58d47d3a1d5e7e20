-- Executives one after another.
use Rattle.std.proofs.Common.{◌≡◌, ℕ, ◌+◌, ◌-◌, ◌^◌, ◌≤◌, List, [], ◌∷◌, ◌++◌, Option, Some, None, refl, sym, ap, ◌∙◌, subst, map, length, take, drop, arith, inl, inr, ◌⊎◌}
use Rattle.std.specs.Prelude.{Result, Ok, Err, IfErr, MatchResult, slice_get, sum_by, min}
use Rattle.std.proofs.Math.Nat.{min-eq_left}
use Rattle.std.proofs.Math.Seq.{take-length, drop-length}
use Rattle.text_bytes.specs.Limits.{most_waves}
use Rattle.stil_ast.specs.Faults.ExecutiveFaults.{exec_waves, exec_walked, execs_fault, checked_fault, fifth_fault}
use Rattle.answers.specs.Answers.{Blames, Finds}
use Rattle.stil_ast.specs.Faults.Found.{or_else}
use Rattle.stil_ast.specs.Meaning.Bursts.{played}
use Rattle.stil_ast.specs.Meaning.Cycles.{dated}
use Rattle.stil_ast.specs.Meaning.Executive.{parts, tree_of, exec_vectors, table_list}
use Rattle.stil_ast.specs.Meaning.ExecutiveData.{Tree, Executive, vectors_of, vector_period}
use Rattle.stil_ast.specs.Meaning.Running.{Ran, Made, outside}
use Rattle.stil_ast.specs.Meaning.Signals.{names_of}
use Rattle.stil_ast.specs.Meaning.State.{State, start_of}
use Rattle.stil_ast.specs.declared.blocks.Blocks.{Blocks}
use Rattle.stil_ast.specs.declared.executive.ExecDecl.{ExecDecl}
use Rattle.stil_ast.specs.declared.fault.StilFault.{StilFault}
use Rattle.stil_ast.specs.Data.Refusal.{StilRefusal}
use Rattle.answers.specs.declared.short.Short.TheVariants as refusal
use Rattle.stil_ast.proofs.TreeLemmas.{trees_agree, same_trees_serve}
use Rattle.tester_types.specs.declared.wave.Table.{Table}
use Rattle.time_expr.specs.TimesOf.{times_of}
use Rattle.wave_tables.proofs.TakenLemmas.{front_found, drop_found}
use Rattle.burst_exec.specs.Carried.{drafted, HasRun}
use Rattle.burst_exec.specs.Executives.{IsExecutive, AreExecutives, AreAllOf, IsExecFault}
use Rattle.burst_exec.specs.Gathered.{text_fault, rest_fault, IsTaken, IsGathering}
use Rattle.burst_exec.specs.Patterns.{ArePlayed, played_fault}
use Rattle.burst_exec.specs.Staged.{staged_fault, patterns_fault, whole_fault, order_of, tables_of, waves_of, chains_of, IsStageOf}
use Rattle.burst_exec.specs.declared.progress.Progress.{Progress}
use Rattle.burst_exec.specs.declared.staging.Stage.{Stage}
use Rattle.burst_exec.specs.declared.trees.Draft.{Draft}
use Rattle.burst_exec.proofs.CountLemmas.{walked_behind}
use Rattle.burst_exec.proofs.ListLemmas.{sum_next}
use Rattle.burst_exec.proofs.StagedLemmas.{whole_is, few_here}

-- one executive more
executives-push : (blocks : Blocks) (execs : List ExecDecl) (found : List Executive) (e : ExecDecl) (x : Executive)
    → AreExecutives blocks execs found → IsExecutive blocks e x → AreExecutives blocks (execs ++ e ∷ []) (found ++ x ∷ [])
executives-push blocks [] [] e x are is = (is, tt)
executives-push blocks [] (y ∷ found) e x are is = absurd are
executives-push blocks (d ∷ execs) [] e x are is = absurd are
executives-push blocks (d ∷ execs) (y ∷ found) e x are is = (are.0, executives-push blocks execs found e x are.1 is)

module _ (blocks : Blocks) (e : ExecDecl) where
  -- the trees make the vectors and the cycles
  executive_is : (before after : ℕ) (x : Executive) → ArePlayed blocks e (order_of blocks e) before x.trees after
      → x.name ≡ e.name → x.line ≡ e.line → x.tables ≡ tables_of blocks e → x.chains ≡ chains_of blocks e
      → IsExecutive blocks e x
  unfolding order_of tables_of chains_of
  executive_is before after x h name line tables chains =
      let begin = start_of (length (names_of blocks).signals) in
      let vectors = λ (r : Ran State). map (λ (m : Made). m.vector) r.made in
      let all : List Tree = map tree_of (parts blocks e) in
      let same : vectors_of (length (names_of blocks).signals) x ≡ exec_vectors blocks e =
      ap vectors (same_trees_serve x.tables x.trees all begin h.same).0
      ∙ ap vectors (trees_agree blocks e (played blocks e) before h.left (outside begin) h.checked) in record {
        name_is = name;
        line_is = line;
        tables_are = tables;
        chains_are = chains;
        trees_are = h.same;
        vectors_are = same;
        cycles_are =
            ap (λ (ts : List Table). dated (vector_period ts) (vectors_of (length (names_of blocks).signals) x)) tables
            ∙ ap (dated (vector_period (table_list times_of blocks e))) same;
      }

  -- how much it walks
  walked_more : (before after : ℕ) (trees : List Tree) → ArePlayed blocks e (order_of blocks e) before trees after
      → after ≡ before + exec_walked blocks e
  unfolding order_of
  walked_more before after trees h = h.counted ∙ walked_behind blocks e (played blocks e) before h.left h.checked

  -- it has no fault
  whole_none : (waves before after : ℕ) (trees : List Tree) → staged_fault blocks waves e ≡ None
      → ArePlayed blocks e (order_of blocks e) before trees after → whole_fault blocks waves before e ≡ None
  unfolding order_of whole_fault patterns_fault
  whole_none waves before after trees none h = rw none (ap checked_fault h.checked)

  -- how many waves there are then
  waves_more : (waves after : ℕ) → waves ≤ most_waves → staged_fault blocks waves e ≡ None
      → after ≡ min (waves + waves_of blocks e) (2 ^ 32 - 1) → after ≡ waves + exec_waves blocks e
  unfolding waves_of
  waves_more waves after few none is =
      let within = few_here blocks waves e few none in
      is ∙ min-eq_left (let h = within in omega (arith, h))

  -- the fault of an executive behind others
  fault_here : (before rest : List ExecDecl) (o : Option StilFault)
      → whole_fault blocks (sum_by (exec_waves blocks) before) (sum_by (exec_walked blocks) before) e ≡ o
      → rest_fault blocks before (e ∷ rest) ≡ or_else o (rest_fault blocks (before ++ (e ∷ [])) rest)
  unfolding rest_fault
  fault_here before rest o h =
      ap (λ (first : Option StilFault). or_else first (execs_fault times_of blocks (before ++ (e ∷ [])) rest)) (whole_is blocks before e ∙ h)

module _ (blocks : Blocks) where
  pub starts : (now : Progress) → now.waves ≡ 0 → now.walked ≡ 0 → IsGathering blocks 0 now []
  unfolding rest_fault text_fault
  starts now waves walked = record {
    faults = refl;
    waves_are = waves;
    few = rw waves (omega arith);
    walked_is = walked;
    made = tt;
  }

  -- the fault of all from an executive on
  at_next : (n : ℕ) (e : ExecDecl) (now : Progress) (found : List Executive) (o : Option StilFault)
      → slice_get blocks.executives n ≡ Some e → IsGathering blocks n now found
      → whole_fault blocks now.waves now.walked e ≡ o
      → or_else o (rest_fault blocks (take (n + 1) blocks.executives) (drop (n + 1) blocks.executives)) ≡ text_fault blocks
  at_next n e now found o at h is =
      let before = take n blocks.executives in
      let rest = drop (n + 1) blocks.executives in
      let whole : whole_fault blocks (sum_by (exec_waves blocks) before) (sum_by (exec_walked blocks) before) e ≡ o =
      ap (λ (k : ℕ). whole_fault blocks k (sum_by (exec_walked blocks) before) e) (sym h.waves_are)
      ∙ ap (λ (k : ℕ). whole_fault blocks now.waves k e) (sym h.walked_is)
      ∙ is in
      ap (λ (all : List ExecDecl). or_else o (rest_fault blocks all rest)) (front_found blocks.executives n e at)
      ∙ sym (fault_here blocks e before rest o whole)
      ∙ ap (rest_fault blocks before) (sym (drop_found blocks.executives n e at))
      ∙ h.faults

  pub goes_on : (n : ℕ) (e : ExecDecl) (before now : Progress) (found : List Executive) (x : Executive)
      → slice_get blocks.executives n ≡ Some e → IsGathering blocks n before found → IsTaken blocks e before now x
      → IsGathering blocks (n + 1) now (found ++ x ∷ [])
  goes_on n e before now found x at h taken =
      let waves = waves_more blocks e before.waves now.waves h.few taken.no_fault taken.waves_are in
      let walked = walked_more blocks e before.walked now.walked x.trees taken.played in record {
        faults =
            at_next n e before found None at h
            (whole_none blocks e before.waves before.walked now.walked x.trees taken.no_fault taken.played);
        waves_are = waves
            ∙ ap (λ (k : ℕ). k + exec_waves blocks e) h.waves_are
            ∙ sym (sum_next (exec_waves blocks) blocks.executives n e at);
        few = rw waves (few_here blocks before.waves e h.few taken.no_fault);
        walked_is = walked
            ∙ ap (λ (k : ℕ). k + exec_walked blocks e) h.walked_is
            ∙ sym (sum_next (exec_walked blocks) blocks.executives n e at);
        made =
            subst (λ (all : List ExecDecl). AreExecutives blocks all (found ++ x ∷ [])) (sym (front_found blocks.executives n e at))
            (executives-push blocks (take n blocks.executives) found e x h.made
            (executive_is blocks e before.walked now.walked x taken.played taken.name_is taken.line_is taken.tables_are taken.chains_are));
      }

  pub is_refused : (n : ℕ) (e : ExecDecl) (before : Progress) (found : List Executive) (r : StilRefusal)
      → slice_get blocks.executives n ≡ Some e → IsGathering blocks n before found
      → Blames (whole_fault blocks before.waves before.walked e) r → Blames (text_fault blocks) r
  is_refused n e before found r at h is = λ f same. sym (at_next n e before found (Some f) at h (is f same))

  pub is_done : (n : ℕ) (now : Progress) (found : List Executive) → n ≡ length blocks.executives
      → IsGathering blocks n now found → (text_fault blocks ≡ None) × AreAllOf blocks found
  unfolding rest_fault
  is_done n now found end h =
      let none : drop n blocks.executives ≡ [] = ap (λ (k : ℕ). drop k blocks.executives) end ∙ drop-length blocks.executives in
      let all : take n blocks.executives ≡ blocks.executives = ap (λ (k : ℕ). take k blocks.executives) end ∙ take-length blocks.executives in (
        sym h.faults ∙ ap (execs_fault times_of blocks (take n blocks.executives)) none,
        subst (λ (execs : List ExecDecl). AreExecutives blocks execs found) all h.made,
      )

module _ (blocks : Blocks) (e : ExecDecl) (before : Progress) where
  -- refused before its patterns
  pub for_stage : (r : StilRefusal) → Blames (staged_fault blocks before.waves e) r
      → Blames (whole_fault blocks before.waves before.walked e) r
  unfolding whole_fault
  for_stage r h = λ f same. rw (h f same) refl

  -- refused for its patterns
  pub for_patterns : (r : StilRefusal) → staged_fault blocks before.waves e ≡ None
      → Blames (played_fault blocks e (order_of blocks e) before.walked) r
      → Blames (whole_fault blocks before.waves before.walked e) r
  unfolding whole_fault patterns_fault played_fault order_of
  for_patterns r none h = λ f same. rw none (h f same)

  -- taken, unless memory is short
  pub taken_found : (begin now : Progress) (stage : Stage) (d : Draft) (decl : ExecDecl) (r : Result Executive StilRefusal)
      → decl ≡ e → (staged_fault blocks before.waves e ≡ None) × IsStageOf blocks before.waves e stage
      → HasRun blocks e (order_of blocks e) begin now d → begin.waves ≡ stage.waves → begin.walked ≡ before.walked
      → MatchResult r (λ x. x ≡ record {
        name = decl.name;
        line = decl.line;
        tables = stage.tables;
        chains = stage.chains;
        trees = drafted d;
      }) (λ r. r ≡ refusal.NoMemory)
      → Finds (whole_fault blocks before.waves before.walked e) (IsTaken blocks e before now) r
  taken_found begin now stage d decl (Ok x) same staged run waves walked kept =
      let played = subst (λ (k : ℕ). ArePlayed blocks e (order_of blocks e) k (drafted d) now.walked) walked run.played in (
        whole_none blocks e before.waves before.walked now.walked (drafted d) staged.0 played,
        record {
          no_fault = staged.0;
          played =
              subst (λ (ts : List Tree). ArePlayed blocks e (order_of blocks e) before.walked ts now.walked)
              (sym (ap (λ (y : Executive). y.trees) kept)) played;
          waves_are = run.waves_are ∙ waves ∙ staged.1.waves_are;
          name_is = ap (λ (y : Executive). y.name) kept ∙ ap (λ (y : ExecDecl). y.name) same;
          line_is = ap (λ (y : Executive). y.line) kept ∙ ap (λ (y : ExecDecl). y.line) same;
          tables_are = ap (λ (y : Executive). y.tables) kept ∙ staged.1.tables_are;
          chains_are = ap (λ (y : Executive). y.chains) kept ∙ staged.1.chains_are;
        },
      )
  taken_found begin now stage d decl (Err r) same staged run waves walked memory = λ f told.
      let short : r ≡ refusal.NoMemory = memory in cc

-- the fault of all is that of the fifth pass
pub of_text : (blocks : Blocks) (r : Result (List Executive) StilRefusal) → Finds (text_fault blocks) (AreAllOf blocks) r
    → Finds (fifth_fault times_of blocks) (AreAllOf blocks) r
unfolding text_fault
of_text blocks r h = h

pub is_exec_fault : (blocks : Blocks) (r : Result (List Executive) StilRefusal)
    → Finds (fifth_fault times_of blocks) (AreAllOf blocks) r
    → IfErr r (λ r. (r ≡ refusal.NoMemory) ⊎ IsExecFault blocks r)
is_exec_fault blocks (Ok execs) h = tt
is_exec_fault blocks (Err refusal.NoMemory) h = inl refl
is_exec_fault blocks (Err (refusal.Fault f)) h = inr (record { fault = f; is = refl; first = h f refl })
