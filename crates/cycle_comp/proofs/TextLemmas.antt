-- What is known of executives of a text that has no fault before it is compiled.
use Rattle.std.proofs.Common.{◌≡◌, ℕ, suc, ◌+◌, ◌≤◌, ◌&&◌, Bool, true, false, List, [], ◌∷◌, ◌++◌, length, map, None, refl, sym, ap, subst, ◌∙◌, arith, if◌then◌else◌}
use Rattle.std.specs.Prelude.{sum_by}
use Rattle.std.specs.List.{list_all, enumerate_from, AllByRecursion}
use Rattle.std.proofs.lemmas.Bool.{and_parts}
use Rattle.std.proofs.lemmas.List.Sums.{sum_by-append, sum_by-cons}
use Rattle.text_bytes.specs.Limits.{most_waves}
use Rattle.tester_types.specs.declared.wave.Table.{Table}
use Rattle.stil_ast.specs.Data.BlockForms.{is_table_decl, is_timing_block, is_chain_decl, is_scan_block, is_exec_decl}
use Rattle.stil_ast.specs.Data.Forms.{is_optional_name, is_absent_or, is_named, is_optionally_named, is_line}
use Rattle.stil_ast.specs.Data.OneText.{AreOfOneText}
use Rattle.stil_ast.specs.Data.Texts.{same, name_or_none}
use Rattle.stil_ast.specs.Faults.BurstFaults.{exec_names_fault}
use Rattle.stil_ast.specs.Faults.ExecutiveFaults.{timed_of, exec_waves, exec_fault, execs_fault}
use Rattle.stil_ast.specs.Faults.TableFaults.{tables_fault}
use Rattle.stil_ast.specs.Meaning.Bursts.{exec_scans}
use Rattle.stil_ast.specs.Meaning.Chains.{Chain, chains_named, chains_fault}
use Rattle.stil_ast.specs.Meaning.Executive.{exec_tables, timing_place, executive_of}
use Rattle.stil_ast.specs.Meaning.ExecutiveData.{Executive, tables_of}
use Rattle.stil_ast.specs.Meaning.Signals.{names_of}
use Rattle.stil_ast.specs.Meaning.Tables.{tables_named, waveforms, made_table}
use Rattle.stil_ast.specs.Meaning.Variables.{picked, variables_fault}
use Rattle.stil_ast.specs.declared.blocks.Blocks.{Blocks}
use Rattle.stil_ast.specs.declared.executive.ExecDecl.{ExecDecl}
use Rattle.stil_ast.specs.declared.scan.ChainDecl.{ChainDecl}
use Rattle.stil_ast.specs.declared.scan.ScanBlock.{ScanBlock}
use Rattle.stil_ast.specs.declared.timing.TableDecl.{TableDecl}
use Rattle.stil_ast.specs.declared.timing.TimingBlock.{TimingBlock}
use Rattle.stil_ast.proofs.FoundLemmas.{or_else-none}
use Rattle.time_expr.specs.TimesOf.{times_of}
use Rattle.scan_chain.specs.Short.{is_short}
use Rattle.scan_chain.proofs.ShortLemmas.{chains-are_short}
use Rattle.wave_tables.specs.Waves.{AreInOrder}
use Rattle.wave_tables.proofs.CountLemmas.{waves_counted}
use Rattle.wave_tables.proofs.OrderLemmas.{waves_in_order}
use Rattle.burst_exec.proofs.WaveLemmas.{few_waves}
use Rattle.packed_code.specs.Conditions.{IsText, wave_count}
use Rattle.packed_code.proofs.Lists.{all_passing}
use Rattle.burst_exec.specs.Executives.{IsExecutive, AreExecutives}
use Rattle.cycle_comp.proofs.EachLemmas.{all_map, all_flat_map, passing_all}
use Rattle.cycle_comp.proofs.NameLemmas.{title_is}
use Rattle.cycle_comp.proofs.TableLemmas.{IsGoodTable, good_tables}
use Rattle.cycle_comp.proofs.ChainLemmas.{IsGoodChain, chains_are, chains_few}
use Rattle.cycle_comp.proofs.ProgramLemmas.{IsGoodExec}

module _ (blocks : Blocks) (one : AreOfOneText blocks) where
  -- the tables of a name are in their form
  tables_form : (name : List ℕ) → AllByRecursion (λ (d : TableDecl). is_table_decl d ≡ true) (tables_named blocks.timings name)
  tables_form name =
      all_flat_map (λ (t : TimingBlock). if same t.name name then t.tables else []) (λ (t : TimingBlock). is_timing_block t ≡ true)
      (λ (d : TableDecl). is_table_decl d ≡ true) (λ t form. kept t form (same t.name name)) blocks.timings
      (all_passing is_timing_block blocks.timings one.each_timing)
    where
      kept : (t : TimingBlock) → is_timing_block t ≡ true → (b : Bool)
          → AllByRecursion (λ (d : TableDecl). is_table_decl d ≡ true) (if b then t.tables else [])
      kept t form true =
          all_passing is_table_decl t.tables
          (and_parts (is_optional_name t.name) (list_all is_table_decl t.tables) form).1
      kept t form false = tt

  -- and so are the chains
  chains_form : (name : List ℕ) → AllByRecursion (λ (d : ChainDecl). is_chain_decl d ≡ true) (chains_named blocks.scans name)
  chains_form name =
      all_flat_map (λ (s : ScanBlock). if same s.name name then s.chains else []) (λ (s : ScanBlock). is_scan_block s ≡ true)
      (λ (d : ChainDecl). is_chain_decl d ≡ true) (λ s form. kept s form (same s.name name)) blocks.scans
      (all_passing is_scan_block blocks.scans one.each_scan_block)
    where
      kept : (s : ScanBlock) → is_scan_block s ≡ true → (b : Bool)
          → AllByRecursion (λ (d : ChainDecl). is_chain_decl d ≡ true) (if b then s.chains else [])
      kept s form true =
          all_passing is_chain_decl s.chains
          (and_parts (is_optional_name s.name) (list_all is_chain_decl s.chains) form).1
      kept s form false = tt

  -- what an executive's form says of its name
  name_form : (d : ExecDecl) → is_exec_decl d ≡ true → is_optional_name d.name ≡ true
  name_form d form =
      let line = and_parts (is_optional_name d.name && list_all is_named d.categories && is_absent_or is_named d.selector
      && is_absent_or is_optionally_named d.timing && is_named d.burst) (is_line d.line) form in
      let burst = and_parts (is_optional_name d.name && list_all is_named d.categories && is_absent_or is_named d.selector
      && is_absent_or is_optionally_named d.timing) (is_named d.burst) line.0 in
      let timing = and_parts (is_optional_name d.name && list_all is_named d.categories && is_absent_or is_named d.selector)
      (is_absent_or is_optionally_named d.timing) burst.0 in
      let selector = and_parts (is_optional_name d.name && list_all is_named d.categories) (is_absent_or is_named d.selector)
      timing.0 in
      (and_parts (is_optional_name d.name) (list_all is_named d.categories) selector.0).0

  -- the faults that an executive hasn't
  pub record HasNone (waves : ℕ) (d : ExecDecl) : Type 0 where
    pub tables : tables_fault (timed_of times_of blocks d) waves ≡ None
    pub chains : chains_fault (names_of blocks) (exec_scans blocks d) (chains_named blocks.scans (exec_scans blocks d)) ≡ None

  has_none : (before : List ExecDecl) (d : ExecDecl) → exec_fault times_of blocks before d ≡ None
      → HasNone (sum_by (exec_waves blocks) before) d
  has_none before d none =
      let first = or_else-none (exec_names_fault blocks d) _ none in
      let second = or_else-none (variables_fault times_of (picked blocks d)) _ first.1 in
      let third = or_else-none (tables_fault (timed_of times_of blocks d) (sum_by (exec_waves blocks) before)) _ second.1 in
      let fourth = or_else-none
      (chains_fault (names_of blocks) (exec_scans blocks d) (chains_named blocks.scans (exec_scans blocks d))) _ third.1 in
      record { tables = third.0; chains = fourth.0 }

  -- how many tables are made
  made_count : (f : ℕ × TableDecl → Table) (n : ℕ) (ds : List TableDecl) → length (map f (enumerate_from n ds)) ≡ length ds
  made_count f n [] = refl
  made_count f n (d ∷ ds) = ap suc (made_count f (n + 1) ds)

  -- such an executive
  good_exec : (waves : ℕ) (d : ExecDecl) → is_exec_decl d ≡ true → HasNone waves d
      → IsGoodExec (length (names_of blocks).signals) (executive_of times_of blocks d)
  good_exec waves d form none =
      let names = names_of blocks in
      let decls : List TableDecl = exec_tables blocks d in
      let chains : List ChainDecl = chains_named blocks.scans (exec_scans blocks d) in
      record {
        name = title_is d.name (name_form d form);
        tables = good_tables (timed_of times_of blocks d) waves none.tables (tables_form (name_or_none d.timing));
        ordered =
            all_map (made_table (timed_of times_of blocks d).times (timed_of times_of blocks d).vars names
            (timing_place d) decls) (λ (p : ℕ × TableDecl). Unit {0}) (λ (t : Table). AreInOrder t.waves)
            (λ p _. waves_in_order (timed_of times_of blocks d) (waveforms names decls p.0) (length names.signals))
            (enumerate_from 0 decls) (nothing 0 decls);
        few_tables = omega (
          arith,
          made_count (made_table (timed_of times_of blocks d).times (timed_of times_of blocks d).vars names
              (timing_place d) decls) 0 decls,
          one.table_count (name_or_none d.timing),
        );
        chains =
            chains_are names (exec_scans blocks d) chains
            (passing_all is_chain_decl chains (chains_form (exec_scans blocks d))) none.chains;
        short = chains-are_short blocks d one;
        few_chains = omega (arith, chains_few names chains, one.chain_count (exec_scans blocks d));
      }
    where
      nothing : (n : ℕ) (ds : List TableDecl) → AllByRecursion (λ (p : ℕ × TableDecl). Unit {0}) (enumerate_from n ds)
      nothing n [] = tt
      nothing n (d ∷ ds) = (tt, nothing (n + 1) ds)

  -- the same of what was made of it
  good_made : (n : ℕ) (d : ExecDecl) (x : Executive) → IsGoodExec n (executive_of times_of blocks d) → IsExecutive blocks d x
      → IsGoodExec n x
  good_made n d x good is = record {
    name = subst IsText (sym is.name_is) good.name;
    tables = subst (λ (ts : List Table). AllByRecursion (IsGoodTable n) ts) (sym is.tables_are) good.tables;
    ordered = subst (λ (ts : List Table). AllByRecursion (λ (t : Table). AreInOrder t.waves) ts) (sym is.tables_are) good.ordered;
    few_tables = subst (λ (ts : List Table). length ts ≤ 64) (sym is.tables_are) good.few_tables;
    chains = subst (λ (cs : List Chain). AllByRecursion (IsGoodChain n) cs) (sym is.chains_are) good.chains;
    short = ap (list_all is_short) is.chains_are ∙ good.short;
    few_chains = subst (λ (cs : List Chain). length cs ≤ 256) (sym is.chains_are) good.few_chains;
  }

  -- all executives of the text
  pub good_execs : (before decls : List ExecDecl) (executives : List Executive)
      → execs_fault times_of blocks before decls ≡ None → list_all is_exec_decl decls ≡ true
      → AreExecutives blocks decls executives
      → AllByRecursion (IsGoodExec (length (names_of blocks).signals)) executives
  good_execs before [] [] none forms are = tt
  good_execs before [] (e ∷ es) none forms are = absurd are
  good_execs before (d ∷ decls) [] none forms are = absurd are
  good_execs before (d ∷ decls) (e ∷ es) none forms are =
      let p = or_else-none (exec_fault times_of blocks before d) (execs_fault times_of blocks (before ++ d ∷ []) decls) none in
      let f = and_parts (is_exec_decl d) (list_all is_exec_decl decls) forms in (
        good_made (length (names_of blocks).signals) d e
            (good_exec (sum_by (exec_waves blocks) before) d f.0 (has_none before d p.0)) are.0,
        good_execs (before ++ d ∷ []) decls es p.1 f.1 are.1,
      )

  -- ---- waves, all together

  pub few_of_all : (before decls : List ExecDecl) (executives : List Executive)
      → execs_fault times_of blocks before decls ≡ None → AreExecutives blocks decls executives
      → sum_by (exec_waves blocks) before ≤ most_waves
      → sum_by (exec_waves blocks) before + wave_count (tables_of executives) ≤ most_waves
  few_of_all before [] [] none are few = omega (arith, few)
  few_of_all before [] (e ∷ es) none are few = absurd are
  few_of_all before (d ∷ decls) [] none are few = absurd are
  few_of_all before (d ∷ decls) (e ∷ es) none are few =
      let p = or_else-none (exec_fault times_of blocks before d) (execs_fault times_of blocks (before ++ d ∷ []) decls) none in
      let none_here = has_none before d p.0 in
      let count : List Table → ℕ = λ (ts : List Table). wave_count ts in
      let more : sum_by (exec_waves blocks) (before ++ d ∷ []) ≡ sum_by (exec_waves blocks) before + exec_waves blocks d =
      let alone : sum_by (exec_waves blocks) (d ∷ []) ≡ exec_waves blocks d = omega (arith, sum_by-cons (exec_waves blocks) d []) in
      omega (arith, sum_by-append (exec_waves blocks) before (d ∷ []), alone) in
      let here : sum_by (exec_waves blocks) before + exec_waves blocks d ≤ most_waves =
      few_waves (timed_of times_of blocks d) (sum_by (exec_waves blocks) before) few none_here.tables in
      let rest = few_of_all (before ++ d ∷ []) decls es p.1 are.1 (omega (arith, more, here)) in
      let own : wave_count e.tables ≡ exec_waves blocks d = ap count are.0.tables_are ∙ waves_counted blocks d in
      let split : wave_count (tables_of (e ∷ es)) ≡ wave_count e.tables + wave_count (tables_of es) =
      sum_by-append (λ (t : Table). length t.waves) e.tables (tables_of es) in
      omega (arith, rest, more, own, split)
