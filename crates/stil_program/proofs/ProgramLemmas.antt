-- The code of blocks has their executives, each with its name, chains, tables and cycles, and with few instructions.
use Rattle.std.proofs.Common.{◌≡◌, ℕ, suc, ◌+◌, ◌^◌, ◌<◌, ◌≤◌, List, ◌∷◌, ◌++◌, Some, length, map, take, drop, sym, ap, subst, ◌∙◌, arith}
use Rattle.std.specs.Prelude.{slice_get}
use Rattle.std.specs.List.{AllByRecursion, flat_map, enumerate_from}
use Rattle.std.proofs.lemmas.List.{length-map, take-append-drop}
use Rattle.std.proofs.lemmas.List.FromFn.{length-enumerate_from}
use Rattle.std.proofs.lemmas.Option.{slice_get_within}
use Rattle.std.proofs.lemmas.List.{length-take-le}
use Rattle.tester_types.specs.declared.wave.Table.{Table}
use Rattle.tester_types.specs.declared.cycle.Cycle.{Cycle}
use Rattle.stil_ast.specs.Faults.FrontFaults.{cycle_count}
use Rattle.stil_ast.specs.Meaning.Cycles.{Dated, dated, starts_at}
use Rattle.stil_ast.specs.Meaning.Executive.{table_list, chain_list, cycles, exec_vectors, executive_of}
use Rattle.stil_ast.specs.Meaning.ExecutiveData.{tables_of, vector_period, measure_of}
use Rattle.stil_ast.specs.Meaning.Signals.{names_of}
use Rattle.stil_ast.specs.Meaning.State.{Vector}
use Rattle.stil_ast.specs.declared.blocks.Blocks.{Blocks}
use Rattle.stil_ast.specs.declared.executive.ExecDecl.{ExecDecl}
use Rattle.packed_code.specs.Meaning.{Means}
use Rattle.packed_code.specs.Program.{Program}
use Rattle.packed_code.specs.Cycles.{exec_of, cycles_of}
use Rattle.time_expr.specs.TimesOf.{times_of}
use Rattle.wave_tables.proofs.TakenLemmas.{drop_found}
use Rattle.burst_exec.specs.Executives.{AreExecutives}
use Rattle.cycle_comp.specs.Compiled.{chain_of, least_of, read_cycle, read_cycles, IsExecOf}
use Rattle.cycle_comp.specs.Depth.{depth_of, NestWithin}
use Rattle.cycle_comp.proofs.DepthLemmas.{depth_in-few, nest-more}
use Rattle.stil_program.specs.Program.{IsBlocksCode, CodeIsShallow}
use Rattle.stil_program.proofs.ExecLemmas.{as_many, tables_are as tables_of_all, cut_of, least_same, measure_same}
use Rattle.packed_code.proofs.WalkLemmas.{length-timed}

-- what an executive of the code has, where the tables of the code from number `first` on are its own
pub record HasExec (blocks : Blocks) (code : Program) (first number : ℕ) (d : ExecDecl) : Type 0 where
  pub name_is : (exec_of code number).name ≡ d.name
  pub chains_are : (exec_of code number).chains ≡ map chain_of (chain_list blocks d)
  pub cycles_are : read_cycles first code number ≡ cycles times_of blocks d
  pub count_is : length (Means (exec_of code number).instrs) ≡ cycle_count blocks d
  pub inside : AllByRecursion (λ (c : Cycle). (first ≤ c.table) × (c.table < first + length (table_list times_of blocks d)))
      (cycles_of code number)
  pub least : length (exec_of code number).instrs
      ≤ least_of (length (names_of blocks).signals) (executive_of times_of blocks d) + 1
  pub nest : (most : ℕ) → measure_of (executive_of times_of blocks d) + 2 < 2 ^ suc (suc most)
      → NestWithin most 0 (exec_of code number).instrs

-- as many cycles as vectors
dated_length : (period : Vector → ℕ) (vectors : List Vector) → length (dated period vectors) ≡ length vectors
dated_length period vectors =
    let made : ℕ × Vector → Dated =
    λ v. record { number = v.0; start = starts_at period vectors v.0; vector = v.1 } in
    length-map (enumerate_from 0 vectors) made ∙ length-enumerate_from 0 vectors

-- a list at a place
pub at_place : {A : Type 0} (xs : List A) (n : ℕ) (x : A) → slice_get xs n ≡ Some x → xs ≡ take n xs ++ x ∷ drop (n + 1) xs
at_place {A} xs n x at =
    sym (take-append-drop n xs) ∙ ap (λ (l : List A). take n xs ++ l) (drop_found xs n x at)

module _ (blocks : Blocks) (code : Program) (is : IsBlocksCode blocks code) where
  -- there are as many executives
  pub execs_are : length code.execs ≡ length blocks.executives
  execs_are = is.code_is.count ∙ as_many blocks blocks.executives is.executives is.are

  -- the tables are those of the executives, one after another
  pub tables_are : code.tables ≡ flat_map (table_list times_of blocks) blocks.executives
  tables_are = is.code_is.tables ∙ tables_of_all blocks blocks.executives is.executives is.are

  -- an executive behind others
  pub exec_behind : (before after : List ExecDecl) (d : ExecDecl) → blocks.executives ≡ before ++ d ∷ after
      → HasExec blocks code (length (flat_map (table_list times_of blocks) before)) (length before) d
  exec_behind before after d cut =
      let all = subst (λ (ds : List ExecDecl). AreExecutives blocks ds is.executives) cut is.are in
      let h = cut_of blocks before after d is.executives all in
      let its : IsExecOf (length (names_of blocks).signals) (length (tables_of h.front)) h.here code (length h.front) =
      is.code_is.each h.front h.back h.here h.cut in
      let moved : IsExecOf (length (names_of blocks).signals) (length (flat_map (table_list times_of blocks) before)) h.here code
      (length before) =
      subst (λ (n : ℕ). IsExecOf (length (names_of blocks).signals) (length (flat_map (table_list times_of blocks) before)) h.here
      code n) (as_many blocks before h.front h.are)
      (subst (λ (ts : List Table). IsExecOf (length (names_of blocks).signals) (length ts) h.here code (length h.front))
      (tables_of_all blocks before h.front h.are) its) in
      let first = length (flat_map (table_list times_of blocks) before) in
      let number = length before in
      let read : read_cycles first code number ≡ cycles times_of blocks d = moved.cycles ∙ h.is.cycles_are in
      let long : length (read_cycles first code number) ≡ length (Means (exec_of code number).instrs) =
      length-map (enumerate_from 0 (cycles_of code number)) (read_cycle first code.rows)
      ∙ (length-enumerate_from 0 (cycles_of code number) ∙ length-timed code.tables 0 (Means (exec_of code number).instrs)) in
      record {
        name_is = moved.name ∙ h.is.name_is;
        chains_are = moved.chains ∙ ap (map chain_of) h.is.chains_are;
        cycles_are = read;
        inside =
            subst (λ (ts : List Table). AllByRecursion (λ (c : Cycle). (first ≤ c.table) × (c.table < first + length ts))
            (cycles_of code number)) h.is.tables_are moved.inside;
        count_is =
            sym long ∙ (ap length read
            ∙ dated_length (vector_period (table_list times_of blocks d)) (exec_vectors blocks d));
        least =
            subst (λ (n : ℕ). length (exec_of code number).instrs ≤ n + 1)
            (least_same blocks d h.here h.is (length (names_of blocks).signals)) moved.least;
        nest = λ most few.
            nest-more (depth_of h.here) most 0 (exec_of code number).instrs
            (depth_in-few h.here.trees most (omega (arith, few, measure_same blocks d h.here h.is))) moved.nest;
      }

  -- the executive of a number
  pub exec_at : (n : ℕ) (d : ExecDecl) → slice_get blocks.executives n ≡ Some d
      → HasExec blocks code (length (flat_map (table_list times_of blocks) (take n blocks.executives))) n d
  exec_at n d at =
      let within = slice_get_within blocks.executives n d at in
      subst (λ (k : ℕ). HasExec blocks code (length (flat_map (table_list times_of blocks) (take n blocks.executives))) k d)
      (length-take-le n blocks.executives (omega (arith, within)))
      (exec_behind (take n blocks.executives) (drop (n + 1) blocks.executives) d (at_place blocks.executives n d at))

-- its instructions are few for the trees of the text
pub code_keeps_loops : (blocks : Blocks) (code : Program) (number : ℕ) (e : ExecDecl) → IsBlocksCode blocks code
    → slice_get blocks.executives number ≡ Some e
    → length (exec_of code number).instrs ≤ least_of (length (names_of blocks).signals) (executive_of times_of blocks e) + 1
code_keeps_loops blocks code number e is at = (exec_at blocks code is number e at).least

-- its loops nest no deeper than the measure of the text's trees allows
pub code_is_shallow : CodeIsShallow
code_is_shallow blocks code number e most is at few = (exec_at blocks code is number e at).nest most few
