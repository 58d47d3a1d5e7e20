-- What is made of the executives of a text meets the conditions on a code, and is their code.
use Rattle.std.proofs.Common.{◌≡◌, ℕ, ◌+◌, ◌<◌, ◌≤◌, true, List, [], ◌∷◌, ◌++◌, length, map, Option, Some, None, refl, sym, ap, subst, ◌∙◌, append_assoc, arith}
use Rattle.std.specs.Prelude.{slice_get, unwrap_or}
use Rattle.std.specs.List.{flat_map, list_all, enumerate_from, AllByRecursion}
use Rattle.std.specs.Option.{option_map_or}
use Rattle.std.proofs.lemmas.List.{length-map, length-append, append-nil}
use Rattle.std.proofs.lemmas.Option.{get_or_from_slice_get, slice_get_within}
use Rattle.std.proofs.lemmas.Grind.{flat_map-append}
use Rattle.text_bytes.proofs.ListLemmas.{all_append, all_got, all_from}
use Rattle.tester_types.specs.declared.wave.Wave.{Wave}
use Rattle.tester_types.specs.declared.wave.Table.{Table}
use Rattle.stil_ast.specs.Meaning.State.{Vector}
use Rattle.stil_ast.specs.Meaning.ExecutiveData.{Executive, vectors_of, measure_of, tables_of, row_of}
use Rattle.scan_chain.specs.Short.{is_short}
use Rattle.tester_types.specs.declared.cycle.Cycle.{Cycle}
use Rattle.packed_code.specs.declared.instr.Entry.{Entry}
use Rattle.packed_code.specs.declared.instr.Instr.{Instr}
use Rattle.packed_code.specs.declared.instr.Instr.TheVariants.{Run, Loop, End, Done}
use Rattle.packed_code.specs.Meaning.{Means}
use Rattle.packed_code.specs.declared.parts.CodeChain.{CodeChain}
use Rattle.packed_code.specs.Program.{Exec, Program}
use Rattle.packed_code.specs.Cycles.{timed, period_of, exec_of}
use Rattle.packed_code.specs.Conditions.{IsText, IsChain, IsInstr, IsExec, has_waves, waves_of, characters_of}
use Rattle.packed_code.proofs.Lists.{all_each}
use Rattle.wave_tables.specs.Waves.{AreInOrder}
use Rattle.cycle_comp.specs.Entries.{IsEntry}
use Rattle.cycle_comp.specs.Compiled.{chain_of, least_of, read_cycle, IsExecOf}
use Rattle.cycle_comp.specs.Depth.{depth_of, NestWithin}
use Rattle.cycle_comp.specs.Working.{IsInside, IsMade, AreMade}
use Rattle.cycle_comp.proofs.EachLemmas.{all_map, all_cut, all_both}
use Rattle.cycle_comp.proofs.TableLemmas.{IsGoodTable}
use Rattle.cycle_comp.proofs.ChainLemmas.{IsGoodChain, code_chains}
use Rattle.cycle_comp.proofs.RowLemmas.{IsGoodRow}
use Rattle.cycle_comp.proofs.VectorLemmas.{IsRunnable, vectors_runnable, waves_in, row_has, HasGoodWaves, characters_are, row_places}
use Rattle.cycle_comp.proofs.InstrLemmas.{Runs, each_run, runs_back, entries_all, vectors_back}
use Rattle.cycle_comp.proofs.CycleLemmas.{IsRead, read_all}
use Rattle.packed_code.proofs.PageLemmas.{slice_get_left, slice_get_right}

-- an executive without a fault before it is compiled
pub record IsGoodExec (signals : ℕ) (e : Executive) : Type 0 where
  pub name : IsText e.name
  pub tables : AllByRecursion (IsGoodTable signals) e.tables
  pub ordered : AllByRecursion (λ (t : Table). AreInOrder t.waves) e.tables
  pub few_tables : length e.tables ≤ 64
  pub chains : AllByRecursion (IsGoodChain signals) e.chains
  pub short : list_all is_short e.chains ≡ true
  pub few_chains : length e.chains ≤ 256

-- the tables of one executive more
pub tables_push : (before : List Executive) (e : Executive) → tables_of (before ++ e ∷ []) ≡ tables_of before ++ e.tables
tables_push before e =
    flat_map-append (λ (e : Executive). e.tables) before (e ∷ [])
    ∙ ap (λ (ts : List Table). tables_of before ++ ts) (append-nil e.tables)

tables_cut : (before : List Executive) (e : Executive) (after : List Executive) (t : ℕ) → t < length e.tables
    → slice_get (tables_of (before ++ e ∷ after)) (length (tables_of before) + t) ≡ slice_get e.tables t
tables_cut before e after t low =
    ap (λ (ts : List Table). slice_get ts (length (tables_of before) + t))
    (flat_map-append (λ (e : Executive). e.tables) before (e ∷ after))
    ∙ slice_get_right (tables_of before) (e.tables ++ tables_of after) t
    ∙ slice_get_left e.tables (tables_of after) t low

module _ (signals : ℕ) (tables : List Table) (rows : List (List ℕ)) where
  module _ (first : ℕ) (e : Executive) (m : Exec) (made : IsMade signals first rows e m) (good : IsGoodExec signals e)
      (room : first + length e.tables ≤ 65535) (within : first + length e.tables ≤ length tables)
      (stands : (t : ℕ) → t < length e.tables → slice_get tables (first + t) ≡ slice_get e.tables t) where
    -- what is known of each vector of the executive
    pub record IsHere (v : Vector) : Type 0 where
      pub runs : IsRunnable e.tables signals v
      pub low : runs.table < length e.tables

    -- the tables that are run are there
    low_of : (v : Vector) (entry : Entry) → IsRunnable e.tables signals v → entry.table < first + length e.tables
        → IsEntry first rows v entry → IsHere v
    low_of v entry runs below is = record { runs = runs; low = omega (arith, room, below, is.table runs.table runs.table_is) }

    pub here : AllByRecursion IsHere (vectors_of signals e)
    here =
        vectors_back first rows (IsRunnable e.tables signals) (λ (entry : Entry). entry.table < first + length e.tables)
        IsHere (λ v entry. low_of v entry) (vectors_of signals e) (Means m.instrs) made.entries
        (vectors_runnable signals e made.fine)
        (runs_back (λ (entry : Entry). entry.table < first + length e.tables) m.instrs
        (all_from (IsInside (first + length e.tables)) (Runs (λ (entry : Entry). entry.table < first + length e.tables))
        only_table m.instrs made.inside))
      where
        only_table : (i : Instr) → IsInside (first + length e.tables) i
            → Runs (λ (entry : Entry). entry.table < first + length e.tables) i
        only_table (Run table row mark times) is = is.0
        only_table (Loop times) is = tt
        only_table End is = tt
        only_table Done is = tt

    -- the waves of a table of the executive
    good_waves : (t : ℕ) (o : Option Table) → slice_get e.tables t ≡ o → HasGoodWaves signals o
    good_waves t None at = tt
    good_waves t (Some table) at = (all_got (IsGoodTable signals) e.tables t table good.tables at).waves

    read_one : (v : Vector) → IsHere v → IsRead first e.tables tables v
    read_one v is = record {
      table = is.runs.table;
      table_is = is.runs.table_is;
      room = omega (arith, room, is.low);
      stands = stands is.runs.table is.low;
      characters =
          characters_are signals (slice_get e.tables is.runs.table) 0 v.characters
          (good_waves is.runs.table (slice_get e.tables is.runs.table) refl) is.runs.waves;
    }

    -- its vectors can be read again
    pub read : AllByRecursion (IsRead first e.tables tables) (vectors_of signals e)
    read = all_from IsHere (IsRead first e.tables tables) read_one (vectors_of signals e) here

    -- what a code wants of a cycle
    abbrev IsWanted : Entry → Type 0
    IsWanted entry =
        (entry.row < length rows) × (has_waves (waves_of tables entry.table) 0 (characters_of rows entry.row) ≡ true)

    wanted : (v : Vector) (entry : Entry) → IsHere v → IsEntry first rows v entry → IsWanted entry
    wanted v entry is run =
        let table : entry.table ≡ first + is.runs.table =
        omega (arith, run.table is.runs.table is.runs.table_is, room, is.low) in
        let row : characters_of rows entry.row ≡ row_of v = get_or_from_slice_get rows entry.row (row_of v) [] run.row in
        let waves : waves_of tables entry.table ≡ waves_in (slice_get e.tables is.runs.table) =
        ap (waves_of tables) table
        ∙ ap (λ (o : Option Table). option_map_or (λ (t : Table). t.waves) o []) (stands is.runs.table is.low)
        ∙ of_table (slice_get e.tables is.runs.table) in (
          slice_get_within rows entry.row (row_of v) run.row,
          ap (λ (ws : List Wave). has_waves ws 0 (characters_of rows entry.row)) waves
              ∙ ap (has_waves (waves_in (slice_get e.tables is.runs.table)) 0) row
              ∙ row_has (slice_get e.tables is.runs.table) 0 v.characters is.runs.waves,
        )
      where
        of_table : (o : Option Table) → option_map_or (λ (t : Table). t.waves) o [] ≡ waves_in o
        of_table None = refl
        of_table (Some t) = refl

    -- what it runs names its own tables
    pub owned : AllByRecursion (λ (entry : Entry). (first ≤ entry.table) × (entry.table < first + length e.tables)) (Means m.instrs)
    owned =
        entries_all first rows IsHere (λ (entry : Entry). (first ≤ entry.table) × (entry.table < first + length e.tables))
        (λ v entry is run.
        let table : entry.table ≡ first + is.runs.table = omega (arith, run.table is.runs.table is.runs.table_is, room, is.low) in
        (omega (arith, table), omega (arith, table, is.low)))
        (vectors_of signals e) (Means m.instrs) made.entries here

    -- its instructions
    instrs_are : AllByRecursion (IsInstr tables rows) m.instrs
    instrs_are =
        all_from (λ (i : Instr). Runs IsWanted i × IsInside (first + length e.tables) i) (IsInstr tables rows) one m.instrs
        (all_both (Runs IsWanted) (IsInside (first + length e.tables)) m.instrs
        (each_run IsWanted m.instrs made.whole
        (entries_all first rows IsHere IsWanted (λ v entry. wanted v entry) (vectors_of signals e) (Means m.instrs)
        made.entries here)) made.inside)
      where
        one : (i : Instr) → Runs IsWanted i × IsInside (first + length e.tables) i → IsInstr tables rows i
        one (Run table row mark times) is = (omega (arith, is.1.0, within), is.0.0, is.1.1, is.0.1)
        one (Loop times) is = tt
        one End is = tt
        one Done is = tt

    -- all conditions on it
    pub exec_is : IsExec signals tables rows m
    exec_is =
        record {
          name = subst IsText (sym made.name) good.name;
          few_chains =
              let count : length m.chains ≡ length e.chains = ap length made.chains ∙ length-map e.chains chain_of in
              omega (arith, count, good.few_chains);
          chains =
              all_each (IsChain signals) [] m.chains
              (subst (λ (cs : List CodeChain). AllByRecursion (IsChain signals) cs) (sym made.chains)
              (code_chains signals e.chains good.chains good.short));
          few_instrs = made.few;
          instrs = all_each (IsInstr tables rows) [] m.instrs instrs_are;
          whole = made.whole;
        }

    -- a row of one of its vectors
    row_good : (v : Vector) → IsHere v → IsGoodRow signals (row_of v)
    row_good v is = record {
      places = length-map v.characters (λ (c : Option ℕ). unwrap_or c 0) ∙ is.runs.long;
      characters =
          row_places v.characters
          (characters_are signals (slice_get e.tables is.runs.table) 0 v.characters
          (good_waves is.runs.table (slice_get e.tables is.runs.table) refl) is.runs.waves);
    }

    pub rows_good : AllByRecursion (IsGoodRow signals) (map row_of (vectors_of signals e))
    rows_good = all_map row_of IsHere (IsGoodRow signals) row_good (vectors_of signals e) here

-- ---- executives one after another

-- all executives meet the conditions
pub execs_are : (signals : ℕ) (tables : List Table) (rows : List (List ℕ)) (before rest : List Executive) (made : List Exec)
    → AreMade signals (length (tables_of before)) rows rest made → AllByRecursion (IsGoodExec signals) rest
    → tables ≡ tables_of (before ++ rest) → length tables ≤ 65535
    → AllByRecursion (IsExec signals tables rows) made × AllByRecursion (IsGoodRow signals)
    (flat_map (λ (e : Executive). map row_of (vectors_of signals e)) rest)
execs_are signals tables rows before [] [] are good is room = (tt, tt)
execs_are signals tables rows before [] (m ∷ made) are good is room = absurd are
execs_are signals tables rows before (e ∷ rest) [] are good is room = absurd are
execs_are signals tables rows before (e ∷ rest) (m ∷ made) are good is room =
    let first : ℕ = length (tables_of before) in
    let push : length (tables_of (before ++ e ∷ [])) ≡ first + length e.tables =
    ap length (tables_push before e) ∙ length-append (tables_of before) e.tables in
    let later : before ++ e ∷ rest ≡ (before ++ e ∷ []) ++ rest = sym (append_assoc before (e ∷ []) rest) in
    let whole : tables ≡ tables_of ((before ++ e ∷ []) ++ rest) = is ∙ ap tables_of later in
    let within : first + length e.tables ≤ length tables =
    omega (
      arith,
      push,
      ap length whole,
      ap length (flat_map-append (λ (e : Executive). e.tables) (before ++ e ∷ []) rest),
      length-append (tables_of (before ++ e ∷ [])) (tables_of rest),
    ) in
    let stands : (t : ℕ) → t < length e.tables → slice_get tables (first + t) ≡ slice_get e.tables t =
    λ t low. ap (λ (ts : List Table). slice_get ts (first + t)) is ∙ tables_cut before e rest t low in
    let small : first + length e.tables ≤ 65535 = omega (arith, within, room) in
    let more = execs_are signals tables rows (before ++ e ∷ []) rest made
    (subst (λ (n : ℕ). AreMade signals n rows rest made) (sym push) are.1) good.1 whole room in (
      (exec_is signals tables rows first e m are.0 good.0 small within stands, more.0),
      all_append (IsGoodRow signals) (map row_of (vectors_of signals e))
          (flat_map (λ (e : Executive). map row_of (vectors_of signals e)) rest)
          (rows_good signals tables rows first e m are.0 good.0 small within stands) more.1,
    )

-- what was made of the executive at a cut
pub made_cut : (signals first : ℕ) (rows : List (List ℕ)) (before after : List Executive) (e : Executive) (made : List Exec)
    → AreMade signals first rows (before ++ e ∷ after) made
    → (m : Exec) × (slice_get made (length before) ≡ Some m) × IsMade signals (first + length (tables_of before)) rows e m
made_cut signals first rows [] after e [] are = absurd are
made_cut signals first rows [] after e (m ∷ made) are =
    let same : first + 0 ≡ first = omega arith in
    (m, refl, subst (λ (n : ℕ). IsMade signals n rows e m) (sym same) are.0)
made_cut signals first rows (b ∷ before) after e [] are = absurd are
made_cut signals first rows (b ∷ before) after e (m ∷ made) are =
    let rest = made_cut signals (first + length b.tables) rows before after e made are.1 in
    let size : length (tables_of (b ∷ before)) ≡ length b.tables + length (tables_of before) =
    length-append b.tables (tables_of before) in
    let same : first + length b.tables + length (tables_of before) ≡ first + length (tables_of (b ∷ before)) =
    omega (arith, size) in
    (rest.0, rest.1, subst (λ (n : ℕ). IsMade signals n rows e rest.0) same rest.2)

-- what is so of the tables of entries is so of those of their cycles
timed_all : (P : ℕ → Type 0) (tables : List Table) (start : ℕ) (entries : List Entry) → AllByRecursion (λ (entry : Entry). P entry.table) entries
    → AllByRecursion (λ (cycle : Cycle). P cycle.table) (timed tables start entries)
timed_all P tables start [] all = tt
timed_all P tables start (entry ∷ entries) all = (all.0, timed_all P tables (start + period_of tables entry.table) entries all.1)

-- the executive under its number is that of the text
pub exec_at : (signals : ℕ) (code : Program) (executives before after : List Executive) (e : Executive)
    → AreMade signals 0 code.rows executives code.execs → AllByRecursion (IsGoodExec signals) executives
    → code.tables ≡ tables_of executives → length code.tables ≤ 65535
    → executives ≡ before ++ e ∷ after → IsExecOf signals (length (tables_of before)) e code (length before)
exec_at signals code executives before after e are good tables room is =
    let cut = made_cut signals 0 code.rows before after e code.execs
    (subst (λ (es : List Executive). AreMade signals 0 code.rows es code.execs) is are) in
    let m : Exec = cut.0 in
    let zeroed : 0 + length (tables_of before) ≡ length (tables_of before) = omega arith in
    let made : IsMade signals (length (tables_of before)) code.rows e m =
    subst (λ (n : ℕ). IsMade signals n code.rows e m) zeroed cut.2 in
    let found : exec_of code (length before) ≡ m =
    get_or_from_slice_get code.execs (length before) m (record { name = []; chains = []; instrs = [] }) cut.1 in
    let first : ℕ = length (tables_of before) in
    let its : code.tables ≡ tables_of (before ++ e ∷ after) = tables ∙ ap tables_of is in
    let push : length (tables_of (before ++ e ∷ [])) ≡ first + length e.tables =
    ap length (tables_push before e) ∙ length-append (tables_of before) e.tables in
    let later : before ++ e ∷ after ≡ (before ++ e ∷ []) ++ after = sym (append_assoc before (e ∷ []) after) in
    let within : first + length e.tables ≤ length code.tables =
    omega (
      arith,
      push,
      ap length (its ∙ ap tables_of later),
      ap length (flat_map-append (λ (e : Executive). e.tables) (before ++ e ∷ []) after),
      length-append (tables_of (before ++ e ∷ [])) (tables_of after),
    ) in
    let stands : (t : ℕ) → t < length e.tables → slice_get code.tables (first + t) ≡ slice_get e.tables t =
    λ t low. ap (λ (ts : List Table). slice_get ts (first + t)) its ∙ tables_cut before e after t low in
    let own : IsGoodExec signals e = all_cut (IsGoodExec signals) executives before after e good is in
    record {
      name = ap (λ (x : Exec). x.name) found ∙ made.name;
      chains = ap (λ (x : Exec). x.chains) found ∙ made.chains;
      cycles =
          ap (λ (x : Exec). map (read_cycle first code.rows) (enumerate_from 0 (timed code.tables 0 (Means x.instrs)))) found
          ∙ read_all first e.tables code.tables code.rows (vectors_of signals e) (Means m.instrs) made.entries
          (read signals code.tables code.rows first e m made own (omega (arith, within, room)) within stands);
      inside =
          subst (λ (x : Exec). AllByRecursion (λ (cycle : Cycle). (first ≤ cycle.table) × (cycle.table < first + length e.tables))
          (timed code.tables 0 (Means x.instrs))) (sym found)
          (timed_all (λ (t : ℕ). (first ≤ t) × (t < first + length e.tables)) code.tables 0 (Means m.instrs)
          (owned signals code.tables code.rows first e m made own (omega (arith, within, room)) within stands));
      size = subst (λ (x : Exec). length x.instrs ≤ measure_of e + 1) (sym found) made.size;
      least = subst (λ (x : Exec). length x.instrs ≤ least_of signals e + 1) (sym found) made.least;
      nest = subst (λ (x : Exec). NestWithin (depth_of e) 0 x.instrs) (sym found) made.nest;
    }
