-- A text's flat text is written where its numbers are within bounds: `flat_by_numbers`.
use Rattle.std.proofs.Common.{◌≡◌, ℕ, zero, suc, ◌+◌, ◌-◌, ◌*◌, ◌^◌, ◌<◌, ◌≤◌, Bool, true, false, cond, List, [], ◌∷◌, ◌++◌, append_assoc, length, filter, map, slice_get, Some, refl, sym, ap, subst, ◌∙◌, arith, inl, inr}
use Rattle.std.specs.Prelude.{sum_by, slice_index_or}
use Rattle.std.specs.List.{AllByRecursion, list_all, range_with_len}
use Rattle.std.proofs.lemmas.Bool.{and_parts, and_from, true≢false}
use Rattle.std.proofs.lemmas.List.Sums.{sum_by-cons}
use Rattle.std.proofs.lemmas.List.FromFn.{length-range_with_len}
use Rattle.std.proofs.lemmas.Option.{get_or_from_slice_get}
use Rattle.text_bytes.proofs.ListLemmas.{slice_get-there, all_got}
use Rattle.tester_types.specs.declared.wave.Table.{Table}
use Rattle.stil_ast.specs.Meaning.Signals.{Signal, names_of}
use Rattle.stil_ast.specs.Meaning.Executive.{executive_of}
use Rattle.stil_ast.specs.Meaning.ExecutiveData.{measure_of}
use Rattle.stil_ast.specs.declared.blocks.Blocks.{Blocks}
use Rattle.stil_ast.specs.declared.executive.ExecDecl.{ExecDecl}
use Rattle.time_expr.specs.TimesOf.{times_of}
use Rattle.packed_code.specs.declared.instr.Instr.{Instr}
use Rattle.packed_code.specs.declared.instr.Instr.TheVariants.{End, Done}
use Rattle.packed_code.specs.declared.parts.CodeSignal.{CodeSignal}
use Rattle.packed_code.specs.Program.{Exec, Program}
use Rattle.packed_code.specs.Conditions.{IsProgram, wave_count}
use Rattle.packed_code.specs.Cycles.{exec_of}
use Rattle.packed_code.proofs.Lists.{all_mapped}
use Rattle.cycle_comp.specs.Compiled.{signal_of}
use Rattle.cycle_comp.specs.Depth.{NestWithin}
use Rattle.saved_laws.specs.Size.{events_in}
use Rattle.stil_program.specs.Program.{IsBlocksCode}
use Rattle.stil_program.proofs.ProgramLemmas.{execs_are, exec_at}
use Rattle.stil_program.proofs.AnswerLemmas.{no_fault}
use Rattle.flat_parts.specs.Order.{is_in, tables_in, table_order}
use Rattle.flat_parts.specs.FlatText.{is_plain, has_plain_names, executives, flat_text}
use Rattle.flat_parts.specs.FlatBlocks.{no_table, table_numbered, own_numbers}
use Rattle.flat_parts.specs.Nests.{Nest, nothing, run, loop, instrs_in}
use Rattle.flat_fine.specs.Fits.{HasRoom, AreShallow}
use Rattle.flat_fine.proofs.ScopeLemmas.{each_at}
use Rattle.flat_cycles.specs.Small.{cycles_at, IsRepeated, AreRepeated}
use Rattle.flat_fine.proofs.ExecLemmas.{exec_fits}
use Rattle.packed_code.specs.Whole.{IsRest}
use Rattle.packed_code.specs.Meaning.{Means}
use Rattle.stil_ast.specs.Faults.FrontFaults.{cycle_count}
use Rattle.flat_laws.specs.Limits.{waves_at, IsWithinLimits}
use Rattle.flat_laws.proofs.FineLemmas.{flat_is_fine}
use Rattle.text_commands.specs.Numbers.{text_tables, text_rows, instructions_of, exec_bytes, signal_bytes, numbers_of, text_cycles, flat_most, IsFlattable}
use Rattle.text_commands.specs.Laws.{FlatByNumbers}
use Rattle.text_commands.proofs.NumberLemmas.{signals_are, signal_bytes_are, tables_same, rows_same, execs_few, few_instructions}
use Rattle.text_commands.proofs.OrderSums.{by_places, tables_few}
use Rattle.text_commands.proofs.SizeLemmas.{sum_same_each}
use Rattle.text_commands.proofs.FlatSizeLemmas.{table_most, flat_short}
use Rattle.text_commands.proofs.SaveLemmas.{code_of_blocks}

-- ---- how deep Loops nest

-- behind instructions as many Loops are open as before them
behind_nest : (nest : Nest) (most opened : ℕ) (behind : List Instr) → NestWithin most opened (instrs_in nest ++ behind)
    → NestWithin most opened behind
behind_nest nothing most opened behind is = is
behind_nest (run lines table row mark times rest) most opened behind is = behind_nest rest most opened behind is
behind_nest (loop line times body rest) most opened behind is =
    let all : NestWithin most (suc opened) (instrs_in body ++ End ∷ (instrs_in rest ++ behind)) =
    subst (NestWithin most (suc opened)) (append_assoc (instrs_in body) (End ∷ instrs_in rest) behind) is.2 in
    behind_nest rest most opened behind
    (subst (λ (n : ℕ). NestWithin most n (instrs_in rest ++ behind)) (omega arith)
    (behind_nest body most (suc opened) (End ∷ (instrs_in rest ++ behind)) all))

-- where no more than so many are ever open there is room for one more
nest_room : (nest : Nest) (most opened : ℕ) (behind : List Instr) → opened ≤ most
    → NestWithin most opened (instrs_in nest ++ behind)
    → HasRoom (suc most - opened) nest
nest_room nothing most opened behind low is = tt
nest_room (run lines table row mark times rest) most opened behind low is =
    (omega (arith, low), nest_room rest most opened behind low is)
nest_room (loop line times body rest) most opened behind low is =
    let all : NestWithin most (suc opened) (instrs_in body ++ End ∷ (instrs_in rest ++ behind)) =
    subst (NestWithin most (suc opened)) (append_assoc (instrs_in body) (End ∷ instrs_in rest) behind) is.2 in
    let room = is.1 in (
      omega (arith, low),
      subst (λ (n : ℕ). HasRoom n body) (omega (arith, room))
          (nest_room body most (suc opened) (End ∷ (instrs_in rest ++ behind)) (omega (arith, room)) all),
      nest_room rest most opened behind low
          (subst (λ (n : ℕ). NestWithin most n (instrs_in rest ++ behind)) (omega arith)
          (behind_nest body most (suc opened) (End ∷ (instrs_in rest ++ behind)) all)),
    )

-- ---- what is in Loops

-- what stands behind instructions may stand there
behind_rest : (nest : Nest) (depth : ℕ) (begun : Bool) (behind : List Instr) → IsRest depth begun (instrs_in nest ++ behind)
    → (b : Bool) × IsRest depth b behind
behind_rest nothing depth begun behind is = (begun, is)
behind_rest (run lines table row mark times rest) depth begun behind is = behind_rest rest depth false behind is.2
behind_rest (loop line times body rest) depth begun behind is =
    let all : IsRest (suc depth) true (instrs_in body ++ End ∷ (instrs_in rest ++ behind)) =
    subst (IsRest (suc depth) true) (append_assoc (instrs_in body) (End ∷ instrs_in rest) behind) is.3 in
    let later = behind_rest body (suc depth) true (End ∷ (instrs_in rest ++ behind)) all in
    behind_rest rest depth false behind
    (subst (λ (n : ℕ). IsRest n false (instrs_in rest ++ behind)) (omega arith) later.1.2)

-- something stands in a Loop
some_body : (body : Nest) (depth : ℕ) (behind : List Instr) → IsRest depth true (instrs_in body ++ End ∷ behind)
    → 0 < length (instrs_in body)
some_body nothing depth behind is = absurd (true≢false is.0)
some_body (run lines table row mark times rest) depth behind is = omega arith
some_body (loop line times body rest) depth behind is = omega arith

-- each Loop has two passes at least, and something in it
nest_repeated : (nest : Nest) (most opened depth : ℕ) (begun : Bool) (behind : List Instr)
    → NestWithin most opened (instrs_in nest ++ behind) → IsRest depth begun (instrs_in nest ++ behind) → IsRepeated nest
nest_repeated nothing most opened depth begun behind within is = tt
nest_repeated (run lines table row mark times rest) most opened depth begun behind within is =
    nest_repeated rest most opened depth false behind within is.2
nest_repeated (loop line times body rest) most opened depth begun behind within is =
    let more = End ∷ (instrs_in rest ++ behind) in
    let same = append_assoc (instrs_in body) (End ∷ instrs_in rest) behind in
    let inner : NestWithin most (suc opened) (instrs_in body ++ more) = subst (NestWithin most (suc opened)) same within.2 in
    let all : IsRest (suc depth) true (instrs_in body ++ more) = subst (IsRest (suc depth) true) same is.3 in
    let later = behind_rest body (suc depth) true more all in (
      within.0,
      some_body body (suc depth) (instrs_in rest ++ behind) all,
      nest_repeated body most (suc opened) (suc depth) true more inner all,
      nest_repeated rest most opened depth false behind
          (subst (λ (n : ℕ). NestWithin most n (instrs_in rest ++ behind)) (omega arith)
          (behind_nest body most (suc opened) more inner))
          (subst (λ (n : ℕ). IsRest n false (instrs_in rest ++ behind)) (omega arith) later.1.2),
    )

-- ---- sums

sum_most : {A : Type 0} (f : A → ℕ) (most : ℕ) (xs : List A) → AllByRecursion (λ x. f x ≤ most) xs
    → sum_by f xs ≤ length xs * most
sum_most f most [] all = omega arith
sum_most f most (x ∷ xs) all =
    let behind = sum_most f most xs all.1 in
    let here = all.0 in
    let more : suc (length xs) * most ≡ length xs * most + most = grind arith in
    omega (arith, behind, here, more, sum_by-cons f x xs)

sum_times : {A : Type 0} (f : A → ℕ) (k : ℕ) (xs : List A) → sum_by (λ (x : A). f x * k) xs ≡ sum_by f xs * k
sum_times f k [] = omega arith
sum_times {A} f k (x ∷ xs) =
    let behind = sum_times f k xs in
    let whole : (f x + sum_by f xs) * k ≡ f x * k + sum_by f xs * k = grind arith in
    omega (arith, behind, whole, sum_by-cons (λ (y : A). f y * k) x xs, ap (λ (n : ℕ). n * k) (sum_by-cons f x xs))

sum_filtered : (f : ℕ → ℕ) (test : ℕ → Bool) (ns : List ℕ) → sum_by f (filter test ns) ≤ sum_by f ns
sum_filtered f test [] = omega arith
sum_filtered f test (n ∷ ns) = by_test (test n) (sum_filtered f test ns)
  where
    by_test : (b : Bool) → sum_by f (filter test ns) ≤ sum_by f ns
        → sum_by f (cond b (n ∷ filter test ns) (filter test ns)) ≤ sum_by f (n ∷ ns)
    by_test true less = omega (arith, less, sum_by-cons f n (filter test ns), sum_by-cons f n ns)
    by_test false less = omega (arith, less, sum_by-cons f n ns)

times_rise : (m n k : ℕ) → m ≤ n → m * k ≤ n * k
times_rise m n zero less = omega arith
times_rise m n (suc k) less = let behind = times_rise m n k less in omega (arith, behind, less)

tables_sum : (longest : ℕ) (ts : List Table)
    → sum_by (table_most longest) ts ≡ 90 * length ts + wave_count ts * (longest + 14) + 32 * sum_by events_in ts
tables_sum longest [] = omega arith
tables_sum longest (t ∷ ts) =
    let behind = tables_sum longest ts in
    let count = sum_by-cons (λ (x : Table). length x.waves) t ts in
    let product : (length t.waves + wave_count ts) * (longest + 14) ≡ length t.waves * (longest + 14) + wave_count ts *
    (longest + 14) = grind arith in
    let same : wave_count (t ∷ ts) * (longest + 14) ≡ (length t.waves + wave_count ts) * (longest + 14) =
    ap (λ (n : ℕ). n * (longest + 14)) count in
    omega (arith, behind, product, same, sum_by-cons (table_most longest) t ts, sum_by-cons events_in t ts)

-- ---- names

plain_signals : (ss : List Signal) → list_all (λ (s : Signal). is_plain s.text) ss ≡ true
    → list_all (λ (s : CodeSignal). is_plain s.name) (map signal_of ss) ≡ true
plain_signals [] plain = refl
plain_signals (s ∷ ss) plain =
    let p = and_parts (is_plain s.text) (list_all (λ (x : Signal). is_plain x.text) ss) plain in
    and_from (is_plain s.text) (list_all (λ (x : CodeSignal). is_plain x.name) (map signal_of ss)) p.0 (plain_signals ss p.1)

plain_execs : (xs : List Exec) (ds : List ExecDecl) → length xs ≡ length ds
    → ((n : ℕ) (x : Exec) (d : ExecDecl) → slice_get xs n ≡ Some x → slice_get ds n ≡ Some d → x.name ≡ d.name)
    → list_all (λ (d : ExecDecl). is_plain d.name) ds ≡ true → list_all (λ (x : Exec). is_plain x.name) xs ≡ true
plain_execs [] ds long so plain = refl
plain_execs (x ∷ xs) [] long so plain = absurd (omega (arith, long))
plain_execs (x ∷ xs) (d ∷ ds) long so plain =
    let p = and_parts (is_plain d.name) (list_all (λ (e : ExecDecl). is_plain e.name) ds) plain in
    and_from (is_plain x.name) (list_all (λ (y : Exec). is_plain y.name) xs)
    (ap is_plain (so 0 x d refl refl) ∙ p.0)
    (plain_execs xs ds (omega (arith, long)) (λ n y e there at. so (suc n) y e there at) p.1)

-- ---- a code of such a text

module _ (blocks : Blocks) (left longest : ℕ) (fits : IsFlattable blocks left longest) (code : Program)
    (is : IsBlocksCode blocks code)
    (whole : IsProgram code) where
  exec_is : (n : ℕ) (x : Exec) → slice_get code.execs n ≡ Some x → exec_of code n ≡ x
  exec_is n x there = get_or_from_slice_get code.execs n x (record { name = []; chains = []; instrs = [] }) there

  plain : has_plain_names code ≡ true
  plain =
      let p = and_parts (list_all (λ (s : Signal). is_plain s.text) (names_of blocks).signals)
      (list_all (λ (e : ExecDecl). is_plain e.name) blocks.executives) fits.plain in
      and_from (list_all (λ (s : CodeSignal). is_plain s.name) code.signals)
      (list_all (λ (x : Exec). is_plain x.name) code.execs)
      (ap (list_all (λ (s : CodeSignal). is_plain s.name)) is.code_is.signals ∙ plain_signals (names_of blocks).signals p.0)
      (plain_execs code.execs blocks.executives (execs_are blocks code is)
      (λ n x d there at. ap (λ (y : Exec). y.name) (sym (exec_is n x there)) ∙ (exec_at blocks code is n d at).name_is) p.1)

  -- how deep the Loops of an executive nest
  nested_within : (exec : ℕ) → exec < length code.execs → NestWithin left 0 (exec_of code exec).instrs
  nested_within exec less =
      let many = execs_are blocks code is in
      let d = slice_get-there blocks.executives exec (omega (arith, less, many)) in
      let few =
      all_got (λ (e : ExecDecl). measure_of (executive_of times_of blocks e) + 2 < 2 ^ suc
      (suc left)) blocks.executives exec d.0
      fits.measures d.1 in
      (exec_at blocks code is exec d.0 d.1).nest left few

  shallow : AreShallow (suc left) code
  shallow exec nest less nested =
      let within : NestWithin left 0 (instrs_in nest ++ Done ∷ []) =
      subst (NestWithin left 0) nested (nested_within exec less) in
      subst (λ (n : ℕ). HasRoom n nest) (omega arith) (nest_room nest left 0 (Done ∷ []) (omega arith) within)

  repeated : AreRepeated code
  repeated exec nest less nested =
      nest_repeated nest left 0 0 false (Done ∷ []) (subst (NestWithin left 0) nested (nested_within exec less))
      (subst (IsRest 0 false) nested (exec_fits code whole exec less).whole.rest)

  -- as many cycles as the text has
  cycles_same : sum_by (cycles_at code) (executives code) ≤ 4 * text_cycles blocks
  cycles_same =
      let places = by_places (λ (exec : ℕ). length (Means (exec_of code exec).instrs))
      (λ (x : Exec). length (Means x.instrs)) code.execs
      (λ i x at. let same = ap (λ (y : Exec). length (Means y.instrs)) (exec_is i x at) in omega (arith, same)) in
      let execs = execs_few blocks code is (λ (x : Exec). length (Means x.instrs)) (cycle_count blocks)
      (λ n d at. let same = (exec_at blocks code is n d at).count_is in omega (arith, same)) in
      omega (arith, places, execs, four (executives code))
    where
      four : (ns : List ℕ) → sum_by (cycles_at code) ns ≡ 4 * sum_by
          (λ (exec : ℕ). length (Means (exec_of code exec).instrs)) ns
      four [] = refl
      four (n ∷ ns) =
          let behind = four ns in
          omega (
            arith,
            behind,
            sum_by-cons (cycles_at code) n ns,
            sum_by-cons (λ (exec : ℕ). length (Means (exec_of code exec).instrs)) n ns,
          )

  own_sum : (g : Table → ℕ) (exec : ℕ) → sum_by (λ number. g (table_numbered code number))
      (own_numbers code exec) ≤ sum_by g code.tables
  own_sum g exec =
      let all = range_with_len 0 (length (table_order code)) in
      let some = sum_filtered (λ number. g (table_numbered code number))
      (λ number. is_in (tables_in (exec_of code exec)) (slice_index_or (table_order code) number 0)) all in
      let few = tables_few code whole (λ (old : ℕ). g (slice_index_or code.tables old no_table)) g
      (λ i t at. let same = ap g (get_or_from_slice_get code.tables i t no_table at) in omega (arith, same)) in
      omega (arith, some, few)

  instructions : ℕ
  instructions = sum_by (λ (x : Exec). length x.instrs) code.execs

  instrs_sum : sum_by (λ (exec : ℕ). length (exec_of code exec).instrs) (executives code) ≤ sum_by
      (λ (x : Exec). length x.instrs) code.execs
  instrs_sum =
      by_places (λ (exec : ℕ). length (exec_of code exec).instrs) (λ (x : Exec). length x.instrs) code.execs
      (λ i x at. let same = ap (λ (y : Exec). length y.instrs) (exec_is i x at) in omega (arith, same))

  within : IsWithinLimits code (suc left)
  within =
      let all = executives code in
      let many = length-range_with_len 0 (length code.execs) in
      let count = execs_are blocks code is in
      let tables = ap (λ (ts : List Table). length ts) (tables_same blocks code is) in
      let waves = ap (λ (ts : List Table). wave_count ts) (tables_same blocks code is) in
      let signals = signals_are blocks code is in
      let few = few_instructions blocks code is in
      let own = instrs_sum in
      let each = 4 + length code.signals in
      let instrs = sum_by (λ (exec : ℕ). length (exec_of code exec).instrs) all in
      let most = sum_by (instructions_of blocks) blocks.executives in
      let power = 2 ^ suc left in
      record {
        shallow = shallow;
        levels = fits.levels;
        tables = λ exec less.
            let ones = own_sum (λ (t : Table). 1) exec in
            let long = sum_same_each 1 (own_numbers code exec) in
            let rows = sum_same_each 1 code.tables in
            let bound = fits.tables in
            omega (arith, ones, long, rows, tables, bound);
        waves =
            let sum = sum_most (waves_at code) (wave_count code.tables) all
            (each_at (λ exec. waves_at code exec ≤ wave_count code.tables) all
            (λ i exec at. own_sum (λ (t : Table). length t.waves) exec)) in
            let product : length all * wave_count code.tables ≡ length blocks.executives * wave_count (text_tables blocks) =
            ap (λ (n : ℕ). n * wave_count code.tables) (many ∙ count) ∙ ap (λ (n : ℕ). length blocks.executives * n) waves in
            let bound = fits.waves in
            omega (arith, sum, product, bound);
        walked =
            let sum = sum_times (λ (exec : ℕ). length (exec_of code exec).instrs) each all in
            let rise = times_rise instrs most each (omega (arith, own, few)) in
            let product : most * each ≡ most * (4 + length (names_of blocks).signals) =
            ap (λ (n : ℕ). most * (4 + n)) signals in
            let bound = fits.walked in
            omega (arith, sum, rise, product, bound);
        measured =
            elim fits.measured [
              | inl bound ↦
                  let sum = sum_scaled power all in
                  let rise = times_rise instrs most power (omega (arith, own, few)) in
                  let one : power * instrs ≡ instrs * power = grind arith in
                  let two : power * most ≡ most * power = grind arith in
                  inl (omega (arith, sum, rise, one, two, bound))
              | inr bound ↦ let same = cycles_same in inr (repeated, omega (arith, same, bound))
            ];
      }
    where
      sum_scaled : (p : ℕ) (ns : List ℕ) → sum_by (λ (exec : ℕ). 2 * (p * length (exec_of code exec).instrs)) ns
          ≡ 2 * (p * sum_by (λ (exec : ℕ). length (exec_of code exec).instrs) ns)
      sum_scaled p [] = omega arith
      sum_scaled p (n ∷ ns) =
          let behind = sum_scaled p ns in
          let out : p * (length (exec_of code n).instrs + sum_by (λ (exec : ℕ). length (exec_of code exec).instrs) ns)
          ≡ p * length (exec_of code n).instrs + p * sum_by (λ (exec : ℕ). length (exec_of code exec).instrs) ns =
          grind arith in
          omega (
            arith,
            behind,
            out,
            sum_by-cons (λ (exec : ℕ). 2 * (p * length (exec_of code exec).instrs)) n ns,
            ap (λ (m : ℕ). p * m) (sum_by-cons (λ (exec : ℕ). length (exec_of code exec).instrs) n ns),
          )

  short : length (flat_text code) ≤ flat_most longest (signal_bytes blocks) (numbers_of blocks)
  short =
      let names = subst (λ (ss : List CodeSignal). AllByRecursion (λ (s : CodeSignal). length s.name ≤ longest) ss)
      (sym is.code_is.signals)
      (all_mapped (λ (s : CodeSignal). length s.name ≤ longest) signal_of (names_of blocks).signals fits.names) in
      let long = flat_short code whole longest names in
      let signals = signals_are blocks code is in
      let bytes = signal_bytes_are blocks code is in
      let count = execs_are blocks code is in
      let few = few_instructions blocks code is in
      let rows = ap (λ (rs : List (List ℕ)). length rs) (rows_same blocks code is) in
      let ts = ap (λ (l : List Table). sum_by (table_most longest) l) (tables_same blocks code is) ∙ tables_sum longest
      (text_tables blocks) in
      let titles = execs_few blocks code is (λ (x : Exec). length x.name) (exec_bytes blocks)
      (λ n d at. let same = ap (λ (l : List ℕ). length l) (exec_at blocks code is n d at).name_is in omega (arith, same)) in
      let own = sum_by (λ (s : CodeSignal). length s.name) code.signals in
      let inner : 36 + (length code.signals * 6 + own) ≡ 36 + 6 * length (names_of blocks).signals + signal_bytes blocks =
      omega (arith, signals, bytes) in
      let row_product : length code.rows * (36 + (length code.signals * 6 + own))
      ≡ length (text_rows blocks) * (36 + 6 * length (names_of blocks).signals + signal_bytes blocks) =
      ap (λ (n : ℕ). n * (36 + (length code.signals * 6 + own))) rows ∙ ap (λ (n : ℕ). length (text_rows blocks) * n) inner in
      let most = 90 * length (text_tables blocks) + wave_count (text_tables blocks) *
      (longest + 14) + 32 * sum_by events_in (text_tables blocks) in
      let exec_product : length code.execs * (238 + sum_by (table_most longest) code.tables) ≡ length blocks.executives *
      (238 + most) =
      ap (λ (n : ℕ). n * (238 + sum_by (table_most longest) code.tables)) count
      ∙ ap (λ (n : ℕ). length blocks.executives * (238 + n)) ts in
      let spread : length blocks.executives *
      (238 + most) ≡ 238 * length blocks.executives + length blocks.executives * most = grind arith in
      omega (arith, long, signals, bytes, few, titles, row_product, exec_product, spread)

pub flat_by_numbers : FlatByNumbers
flat_by_numbers bytes blocks left longest text fits = (
  no_fault bytes blocks text,
  λ code is whole.
      let own = code_of_blocks bytes blocks code text is in
      let few = short blocks left longest fits code own whole in
      let bound = fits.short in
      record {
        is = refl;
        short = omega (arith, few, bound);
        fine = flat_is_fine code (suc left) whole (plain blocks left longest fits code own whole)
            (within blocks left longest fits code own whole);
      },
)
