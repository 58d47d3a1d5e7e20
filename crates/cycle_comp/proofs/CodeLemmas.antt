-- The code of the executives of a text: it meets all conditions, and is theirs.
use Rattle.std.proofs.Common.{◌≡◌, ℕ, suc, ◌+◌, ◌*◌, ◌-◌, ◌^◌, ◌<◌, ◌≤◌, ◌==◌, true, List, [], ◌∷◌, ◌++◌, length, map, get_or, Option, refl, sym, ap, subst, ◌∙◌, append_assoc, arith, inl, inr, ◌⊎◌}
use Rattle.std.specs.Prelude.{nat_lt}
use Rattle.std.specs.List.{flat_map, All, AllByRecursion}
use Rattle.std.proofs.lemmas.List.Elements.{All-from_recursion}
use Rattle.std.specs.Option.{option_map_or}
use Rattle.std.proofs.lemmas.Bool.{cases_lt, and_from, or_left, or_right, lt-ltb, eq-eqb}
use Rattle.std.proofs.lemmas.List.{length-map, length-append}
use Rattle.std.proofs.lemmas.List.Sums.{sum_by-append, sum_by-cons}
use Rattle.text_bytes.specs.Limits.{most_waves}
use Rattle.text_bytes.proofs.ListLemmas.{all_from}
use Rattle.tester_types.specs.Waves.{key_in}
use Rattle.tester_types.specs.declared.wave.Wave.{Wave}
use Rattle.tester_types.specs.declared.wave.Table.{Table}
use Rattle.stil_ast.specs.Meaning.ExecutiveData.{Executive, tables_of, rows_of, row_of, vectors_of}
use Rattle.stil_ast.specs.Meaning.Signals.{Names, Signal, names_of}
use Rattle.stil_ast.specs.Faults.SignalFaults.{signals_fault}
use Rattle.stil_ast.specs.declared.blocks.Blocks.{Blocks}
use Rattle.stil_ast.specs.declared.executive.ExecDecl.{ExecDecl}
use Rattle.stil_ast.proofs.FoundLemmas.{or_else-none}
use Rattle.burst_exec.specs.Executives.{AreExecutives}
use Rattle.signal_groups.specs.Table.{Table as SignalNames, table_of}
use Rattle.signal_groups.proofs.BegunLemmas.{signals_few}
use Rattle.wave_tables.specs.Waves.{AreInOrder}
use Rattle.packed_code.specs.declared.parts.CodeSignal.{CodeSignal}
use Rattle.packed_code.specs.Program.{Exec, code_of}
use Rattle.packed_code.specs.Conditions.{EachBehind, last_of, is_behind, wave_count, IsSignal, IsWave, IsTable, IsRow, IsExec, IsProgram}
use Rattle.packed_code.proofs.Lists.{all_each, last_of_push}
use Rattle.cycle_comp.specs.Compiled.{signal_of, IsExecOf, IsCodeOf}
use Rattle.cycle_comp.specs.OfText.{AreOfText}
use Rattle.cycle_comp.specs.Working.{AreMade, IsBuilt, IsFit}
use Rattle.cycle_comp.specs.declared.building.Building.{Building}
use Rattle.cycle_comp.proofs.EachLemmas.{each_behind_cuts, all_cut, all_both, all_flat_map}
use Rattle.cycle_comp.proofs.WaveLemmas.{IsGoodWave}
use Rattle.cycle_comp.proofs.TableLemmas.{IsGoodTable}
use Rattle.cycle_comp.proofs.SignalLemmas.{signals_are}
use Rattle.cycle_comp.proofs.RowLemmas.{IsGoodRow, rows_are}
use Rattle.cycle_comp.proofs.ProgramLemmas.{IsGoodExec, execs_are, exec_at}
use Rattle.cycle_comp.proofs.TextLemmas.{good_execs, few_of_all}

-- ---- tables

-- no items, or a last one
ends : {A : Type 0} (xs : List A) → (xs ≡ []) ⊎ ((front : List A) × (last : A) × (xs ≡ front ++ last ∷ []))
ends [] = inl refl
ends {A} (x ∷ xs) = elim (ends xs) [
  | inl none ↦ inr ([], x, ap (λ (l : List A). x ∷ l) none)
  | inr some ↦ inr (x ∷ some.0, some.1, ap (λ (l : List A). x ∷ l) some.2)
]

-- the item at a cut
at_cut : {A : Type 0} (a b : List A) (x d : A) → get_or (a ++ x ∷ b) (length a) d ≡ x
at_cut [] b x d = refl
at_cut (y ∷ a) b x d = at_cut a b x d

-- a wave stands behind the one before it
behind_last : (waves c d : List Wave) (w : Wave) → AreInOrder waves → waves ≡ c ++ w ∷ d
    → option_map_or (is_behind w.signal w.character) (last_of c) true ≡ true
behind_last waves c d w order is = elim (ends c) [
  | inl none ↦ ap (λ (l : List Wave). option_map_or (is_behind w.signal w.character) (last_of l) true) none
  | inr some ↦
      let l : Wave = some.1 in
      let whole : waves ≡ some.0 ++ l ∷ (w ∷ d) =
      is ∙ ap (λ (x : List Wave). x ++ w ∷ d) some.2 ∙ append_assoc some.0 (l ∷ []) (w ∷ d) in
      let next : waves ≡ (some.0 ++ l ∷ []) ++ w ∷ d = is ∙ ap (λ (x : List Wave). x ++ w ∷ d) some.2 in
      let size : length (some.0 ++ l ∷ []) ≡ length some.0 + 1 = length-append some.0 (l ∷ []) in
      let long : length waves ≡ length (some.0 ++ l ∷ []) + suc (length d) =
      ap length next ∙ length-append (some.0 ++ l ∷ []) (w ∷ d) in
      let first : get_or waves (length some.0) w ≡ l = ap (λ (x : List Wave). get_or x (length some.0) w) whole ∙ at_cut some.0 (w ∷ d) l w in
      let second : get_or waves (length (some.0 ++ l ∷ [])) w ≡ w =
      ap (λ (x : List Wave). get_or x (length (some.0 ++ l ∷ [])) w) next ∙ at_cut (some.0 ++ l ∷ []) d w w in
      let keys : key_in l < key_in w =
      subst (λ (v : Wave). key_in v < key_in w) first
      (subst (λ (v : Wave). key_in (get_or waves (length some.0) w) < key_in v) second
      (order.rising (length some.0) (length (some.0 ++ l ∷ [])) w (omega (arith, size)) (omega (arith, long)))) in
      let low : l.character < 256 =
      subst (λ (v : Wave). v.character < 256) first (order.bytes (length some.0) w (omega (arith, long, size))) in
      let own : w.character < 256 =
      subst (λ (v : Wave). v.character < 256) second (order.bytes (length (some.0 ++ l ∷ [])) w (omega (arith, long))) in
      ap (λ (x : List Wave). option_map_or (is_behind w.signal w.character) (last_of x) true) some.2
      ∙ ap (λ (o : Option Wave). option_map_or (is_behind w.signal w.character) o true) (last_of_push some.0 l)
      ∙ rises l keys low own
]
  where
    rises : (l : Wave) → key_in l < key_in w → l.character < 256 → w.character < 256 → is_behind w.signal w.character l ≡ true
    rises l keys low own = elim (cases_lt l.signal w.signal) [
      | inl less ↦ or_left (nat_lt l.signal w.signal) _ (lt-ltb l.signal w.signal less)
      | inr more ↦
          let same : l.signal ≡ w.signal = omega (arith, keys, own, more) in
          let less : l.character < w.character = omega (arith, keys, same) in
          or_right (nat_lt l.signal w.signal) _
          (and_from (l.signal == w.signal) (nat_lt l.character w.character) (eq-eqb l.signal w.signal same) (lt-ltb l.character w.character less))
    ]

-- a table behind others, where all have not too many waves
table_is : (signals : ℕ) (tables before after : List Table) (t : Table) → IsGoodTable signals t → AreInOrder t.waves
    → wave_count tables ≤ most_waves → tables ≡ before ++ t ∷ after → IsTable signals before t
table_is signals tables before after t good order few is =
    let split : wave_count tables ≡ wave_count before + (length t.waves + wave_count after) =
    let own : wave_count (t ∷ after) ≡ length t.waves + wave_count after =
    sum_by-cons (λ (t : Table). length t.waves) t after in
    ap (λ (ts : List Table). wave_count ts) is
    ∙ (sum_by-append (λ (t : Table). length t.waves) before (t ∷ after) ∙ ap (λ (n : ℕ). wave_count before + n) own) in
    record {
      name = good.name;
      some = good.some;
      period = good.period;
      count = omega (arith, split, few);
      waves =
          each_behind_cuts (IsWave signals t.period (2 ^ 20 - wave_count before)) [] t.waves (λ c d w cut.
          let its : IsGoodWave signals t.period w = all_cut (IsGoodWave signals t.period) t.waves c d w good.waves cut in
          let long : length t.waves ≡ length c + suc (length d) = ap length cut ∙ length-append c (w ∷ d) in
          record {
            signal = its.signal;
            character = its.character;
            order = behind_last t.waves c d w order cut;
            room = omega (arith, split, few, long);
            few = its.few;
            events = its.events;
          });
    }

tables_are : (signals : ℕ) (tables : List Table)
    → AllByRecursion (λ (t : Table). IsGoodTable signals t × AreInOrder t.waves) tables → wave_count tables ≤ most_waves
    → EachBehind (IsTable signals) [] tables
tables_are signals tables good few =
    each_behind_cuts (IsTable signals) [] tables (λ a b t is.
    let its = all_cut (λ (t : Table). IsGoodTable signals t × AreInOrder t.waves) tables a b t good is in
    table_is signals tables a b t its.0 its.1 few is)

-- ---- counts

execs_length : (blocks : Blocks) (decls : List ExecDecl) (es : List Executive) → AreExecutives blocks decls es
    → length es ≡ length decls
execs_length blocks [] [] are = refl
execs_length blocks [] (e ∷ es) are = absurd are
execs_length blocks (d ∷ decls) [] are = absurd are
execs_length blocks (d ∷ decls) (e ∷ es) are = ap suc (execs_length blocks decls es are.1)

made_length : (signals first : ℕ) (rows : List (List ℕ)) (es : List Executive) (made : List Exec)
    → AreMade signals first rows es made → length made ≡ length es
made_length signals first rows [] [] are = refl
made_length signals first rows [] (m ∷ made) are = absurd are
made_length signals first rows (e ∷ es) [] are = absurd are
made_length signals first rows (e ∷ es) (m ∷ made) are =
    ap suc (made_length signals (first + length e.tables) rows es made are.1)

tables_few : (signals : ℕ) (es : List Executive) → AllByRecursion (IsGoodExec signals) es
    → length (tables_of es) ≤ 64 * length es
tables_few signals [] good = omega arith
tables_few signals (e ∷ es) good =
    omega (arith, length-append e.tables (tables_of es), good.0.few_tables, tables_few signals es good.1)

-- ---- the code

module _ (known : SignalNames) (executives : List Executive) (p : AreOfText known executives) where
  -- the signals of the text
  abbrev names : Names
  names = names_of p.blocks

  pub goods : AllByRecursion (IsGoodExec (length names.signals)) executives
  goods = good_execs p.blocks p.of_one [] p.blocks.executives executives p.no_fifth p.of_one.each_executive p.are

  -- few tables, and few executives
  pub few_executives : length executives ≤ 64
  few_executives =
      omega (arith, execs_length p.blocks p.blocks.executives executives p.are, p.of_one.executive_count)

  pub few_tables : length (tables_of executives) ≤ 4096
  few_tables = omega (arith, tables_few (length names.signals) executives goods, few_executives)

  -- each has what the code asks of it
  pub fits : All IsFit executives
  fits =
      All-from_recursion IsFit executives
      (all_from (IsGoodExec (length names.signals)) IsFit (λ e good. record { chains = good.short }) executives goods)

  -- there are as many signals as the table has texts
  pub count_is : (others : Names) → known ≡ table_of others → length known.texts ≡ length others.signals
  count_is others are =
      ap (λ (k : SignalNames). length k.texts) are ∙ length-map others.signals (λ (s : Signal). s.text)

  -- what is built over so many signals as the table has texts is built over those of the text
  pub built_here : (count : ℕ) (these : List Executive) (b : Building) → count ≡ length known.texts → these ≡ executives
      → IsBuilt count these b → IsBuilt (length names.signals) executives b
  built_here count these b is same built =
      subst (λ (k : ℕ). IsBuilt k executives b) (is ∙ count_is names p.table_is)
      (subst (λ (es : List Executive). IsBuilt count es b) same built)

  module _ (b : Building) (built : IsBuilt (length names.signals) executives b) where
    conditions : AllByRecursion (λ (t : Table). IsGoodTable (length names.signals) t × AreInOrder t.waves) (tables_of executives)
    conditions =
        all_flat_map (λ (e : Executive). e.tables) (IsGoodExec (length names.signals))
        (λ (t : Table). IsGoodTable (length names.signals) t × AreInOrder t.waves)
        (λ e good. all_both (IsGoodTable (length names.signals)) (λ (t : Table). AreInOrder t.waves) e.tables good.tables good.ordered)
        executives goods

    few_waves_in : wave_count (tables_of executives) ≤ most_waves
    few_waves_in = omega (arith, few_of_all p.blocks p.of_one [] p.blocks.executives executives p.no_fifth p.are (omega arith))

    -- what is known of the executives of the code
    parts : AllByRecursion (IsExec (length names.signals) b.tables.items b.rows) b.execs.items
        × AllByRecursion (IsGoodRow (length names.signals))
        (flat_map (λ (e : Executive). map row_of (vectors_of (length names.signals) e)) executives)
    parts =
        execs_are (length names.signals) b.tables.items b.rows [] executives b.execs.items built.execs goods built.tables
        (omega (arith, ap length built.tables, few_tables))

    -- all conditions
    pub program_is : (signals : List CodeSignal) → signals ≡ map signal_of names.signals
        → IsProgram (code_of signals b.tables.items b.rows b.execs.items)
    program_is signals is =
        let n : ℕ = length names.signals in
        let size : length signals ≡ n = ap length is ∙ length-map names.signals signal_of in
        let tables : EachBehind (IsTable n) [] b.tables.items =
        subst (λ (ts : List Table). EachBehind (IsTable n) [] ts) (sym built.tables)
        (tables_are n (tables_of executives) conditions few_waves_in) in
        let fourth = or_else-none (signals_fault [] names.signals) _ p.no_fourth in
        let rows : EachBehind (IsRow n) [] b.rows =
        subst (λ (rs : List (List ℕ)). EachBehind (IsRow n) [] rs) (sym built.rows) (rows_are n [] _ tt parts.1) in
        let count : length b.execs.items ≡ length executives = made_length n 0 b.rows executives b.execs.items built.execs in
        record {
          few_signals = omega (arith, size, signals_few [] names.signals fourth.0 (omega arith));
          signals =
              subst (λ (ss : List CodeSignal). EachBehind IsSignal [] ss) (sym is)
              (signals_are p.blocks.signals p.of_one.each_signal fourth.0);
          few_tables = omega (arith, ap length built.tables, few_tables);
          tables = subst (λ (k : ℕ). EachBehind (IsTable k) [] b.tables.items) (sym size) tables;
          count_rows = built.row_count;
          few_rows = subst (λ (k : ℕ). length b.rows * k ≤ 2 ^ 28) (sym size) built.few_rows;
          rows = subst (λ (k : ℕ). EachBehind (IsRow k) [] b.rows) (sym size) rows;
          some_execs =
              omega (arith, count, execs_length p.blocks p.blocks.executives executives p.are, p.of_one.some_executive);
          few_execs = omega (arith, count, few_executives);
          execs =
              all_each (IsExec (length signals) b.tables.items b.rows) [] b.execs.items
              (subst (λ (k : ℕ). AllByRecursion (IsExec k b.tables.items b.rows) b.execs.items) (sym size) parts.0);
        }

    -- and it is the code of the executives
    pub code_is : (signals : List CodeSignal) (others : Names) → known ≡ table_of others
        → signals ≡ map signal_of others.signals
        → IsCodeOf others executives (code_of signals b.tables.items b.rows b.execs.items)
    code_is signals others are is =
        let same : length others.signals ≡ length names.signals =
        sym (length-map others.signals (λ (s : Signal). s.text))
        ∙ (ap (λ (k : SignalNames). length k.texts) (sym are ∙ p.table_is)
        ∙ length-map names.signals (λ (s : Signal). s.text)) in
        record {
          signals = is;
          tables = built.tables;
          rows = built.rows ∙ ap (λ (n : ℕ). rows_of n executives) (sym same);
          count = made_length (length names.signals) 0 b.rows executives b.execs.items built.execs;
          each = λ before after e cut.
              subst (λ (n : ℕ). IsExecOf n (length (tables_of before)) e
              (code_of signals b.tables.items b.rows b.execs.items) (length before)) (sym same)
              (exec_at (length names.signals) (code_of signals b.tables.items b.rows b.execs.items) executives before after e
              built.execs goods built.tables (omega (arith, ap length built.tables, few_tables)) cut);
        }
