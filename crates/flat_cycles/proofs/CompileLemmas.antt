-- Compiling the executives of a flat text meets no fault but that they are too large, which they aren't where their
-- measures fit.
use Rattle.std.proofs.Common.{◌≡◌, ℕ, zero, suc, ◌+◌, ◌*◌, ◌^◌, ◌<◌, ◌≤◌, flat_map, length-append, inl, inr, Bool, true, false, cond, ◌||◌, ◌&&◌, ◌==◌, nat_le, List, [], ◌∷◌, ◌++◌, map, length, slice_get, sum_by, Option, Some, None, refl, sym, ap, subst, ◌∙◌, arith, append-nil}
use Rattle.std.specs.List.{AllByRecursion, AllZip}
use Rattle.std.specs.Option.{option_map_or}
use Rattle.std.proofs.lemmas.Bool.{le-leb, and_from, or_left, true≢false}
use Rattle.std.proofs.lemmas.List.{length-map}
use Rattle.std.proofs.lemmas.List.Sums.{sum_by-cons, sum_by_push}
use Rattle.text_bytes.proofs.ListLemmas.{all_append}
use Rattle.text_bytes.specs.Limits.{deepest_calls, most_measure, most_cycles, most_row_characters}
use Rattle.tester_types.specs.declared.wave.Wave.{Wave}
use Rattle.tester_types.specs.declared.wave.Table.{Table}
use Rattle.packed_code.specs.declared.instr.Entry.{Entry}
use Rattle.packed_code.specs.declared.instr.Instr.TheVariants.{Done}
use Rattle.packed_code.specs.Meaning.{Means}
use Rattle.packed_code.proofs.CountLemmas.{cycle_count-length}
use Rattle.packed_code.specs.Program.{Program}
use Rattle.packed_code.specs.Conditions as conditions
use Rattle.packed_code.specs.Conditions.{IsProgram, characters_of}
use Rattle.packed_code.specs.Cycles.{exec_of}
use Rattle.stil_ast.specs.Data.Places.{of_pattern, Titles}
use Rattle.stil_ast.specs.Data.Written.{Written}
use Rattle.stil_ast.specs.declared.executive.ExecDecl.{ExecDecl}
use Rattle.stil_ast.specs.declared.blocks.Blocks.{Blocks}
use Rattle.stil_ast.specs.declared.fault.StilFault.{StilFault}
use Rattle.stil_ast.specs.declared.fault.StilKind.TheVariants.{NoWave, TooLarge, TooManyCycles}
use Rattle.stil_ast.specs.Meaning.State.{State, Vector, start_of}
use Rattle.stil_ast.specs.Meaning.Statements.{Statements}
use Rattle.stil_ast.specs.Meaning.Signals.{names_of}
use Rattle.stil_ast.specs.Meaning.Times.{Times}
use Rattle.stil_ast.specs.Meaning.Resolved.{resolved}
use Rattle.stil_ast.specs.Meaning.Running.{Made, Ran, outside}
use Rattle.stil_ast.specs.Meaning.Laws.{steady_within, is_steady_pattern}
use Rattle.stil_ast.specs.Meaning.ExecutiveData.{Executive, tree_run, trees_run, vectors_of, measure_in, measure_of, row_of, distinct_rows, rows_of}
use Rattle.stil_ast.specs.Meaning.Flat.{measure}
use Rattle.stil_ast.specs.Meaning.Flattening.{Spot, flat_list, flat_calls}
use Rattle.stil_ast.specs.Data.Texts.{same as same_name, has_name}
use Rattle.stil_ast.proofs.TextLemmas.{same-refl}
use Rattle.stil_ast.specs.Meaning.Executive.{Part, tree_of, executive_of, executives_of}
use Rattle.stil_ast.specs.Faults.Found.{fault_at, fault_in, unless, or_else, first_in}
use Rattle.stil_ast.specs.Faults.BurstFaults.{exec_place}
use Rattle.stil_ast.specs.Faults.CodeFaults.{has_wave, have_waves, made_fault, vector_fault, trees_fault, compile_fault, compile_faults, sixth_fault}
use Rattle.stil_ast.proofs.FlatLemmas.{flat_tree_agrees}
use Rattle.packed_code.proofs.Lists.{all_mapped, all_flat}
use Rattle.flat_parts.specs.FlatText.{executives}
use Rattle.flat_parts.specs.Nests.{instrs_in}
use Rattle.flat_parts.specs.FlatBlocks.{IsExecDecl, AreFlatBlocks}
use Rattle.flat_fine.specs.Fits.{HasRoom}
use Rattle.flat_fine.proofs.ApartLemmas.{In, AreApart, apart_push, no_more_of}
use Rattle.flat_fine.proofs.ListLemmas.{at_range, zip_at}
use Rattle.flat_fine.proofs.SignalLemmas.{names_are, signal_count}
use Rattle.flat_cycles.specs.Small.{measure_at, cycles_at, IsRepeated, AreSmall}
use Rattle.flat_cycles.proofs.MeasureLemmas.{CallsOne, measured, measured_few, measured_cycles, nest_size, vector_size}
use Rattle.flat_fine.proofs.FaultLemmas.{IsLarge, large_none, large_or, large_unless, large_is, none_where_fit}
use Rattle.flat_fine.proofs.ExecLemmas.{each_so, exec_fits}
use Rattle.flat_fine.proofs.ScopeLemmas.{each_at}
use Rattle.flat_cycles.proofs.FitLemmas.{IsRun}
use Rattle.flat_cycles.proofs.RowLemmas.{characters_or_none, characters_back}
use Rattle.flat_cycles.proofs.RunLemmas.{vectors}
use Rattle.flat_cycles.proofs.PlayLemmas.{IsTextExec, own, exec_less, one_part}
use Rattle.flat_cycles.proofs.CallLemmas.{code_characters, own_part, own_scope, own_nest, own_runs, own_cycles, own_vector, row_called, pattern_makes, begins_bare}
use Rattle.flat_cycles.proofs.TableLemmas.{TimesAre}
use Rattle.flat_cycles.proofs.EntryLemmas.{IsEntry, entries, entries_fit, vector_same}
use Rattle.flat_cycles.proofs.SteadyLemmas.{Passes, nest_steady}

-- ---- characters with waves

one_by : (b : Bool) (new : Table) (signal c : ℕ) → (c == 0) ≡ b
    → has_wave (Some new) signal (cond b None (Some c)) ≡ (b || conditions.has_wave new.waves signal c)
one_by true new signal c e = refl
one_by false new signal c e = refl

-- a row has waves in a table where its characters have
waves_as : (new : Table) (signal : ℕ) (row : List ℕ)
    → have_waves (Some new) signal (characters_or_none row) ≡ conditions.has_waves new.waves signal row
waves_as new signal [] = refl
waves_as new signal (c ∷ row) =
    let next : signal + 1 ≡ suc signal = omega arith in
    let first = (c == 0) || conditions.has_wave new.waves signal c in
    ap (λ (b : Bool). b && have_waves (Some new) (signal + 1) (characters_or_none row)) (one_by (c == 0) new signal c refl)
    ∙ ap (λ (n : ℕ). first && have_waves (Some new) n (characters_or_none row)) next
    ∙ ap (λ (b : Bool). first && b) (waves_as new (suc signal) row)

-- ---- vectors without a fault

-- a vector's table defines all its characters
record IsWaved (tables : List Table) (v : Vector) : Type 0 where
  place : ℕ
  table : v.table ≡ Some place
  waves : have_waves (slice_get tables place) 0 v.characters ≡ true

no_fault : (tables : List Table) (titles : Titles) (made : List Made) → AllByRecursion (IsWaved tables) (vectors made)
    → first_in (vector_fault tables titles) made ≡ None
no_fault tables titles [] all = refl
no_fault tables titles (m ∷ made) all =
    ap (λ (o : Option StilFault). or_else o (first_in (vector_fault tables titles) made))
    (ap (made_fault tables titles m) all.0.table
    ∙ ap (λ (b : Bool). unless b (fault_in titles m.place NoWave) None) all.0.waves)
    ∙ no_fault tables titles made all.1

-- ---- rows

or_false : (a c : Bool) → (a || c) ≡ false → c ≡ false
or_false true c none = absurd (true≢false none)
or_false false c none = none

-- a row that is there already isn't put again, and another one differs from those that are there
apart_by : (b : Bool) (before : List (List ℕ)) (row : List ℕ) → has_name before row ≡ b → AreApart before
    → AreApart (cond b before (before ++ row ∷ []))
apart_by true before row e apart = apart
apart_by false before row e apart = apart_push before row apart (all_differ before e)
  where
    all_differ : (rows : List (List ℕ)) → has_name rows row ≡ false → AllByRecursion (λ x. x ≡ row → ⊥) rows
    all_differ [] none = tt
    all_differ (x ∷ rows) none = (
      λ same. true≢false (sym (or_left (same_name row x) (has_name rows row) (ap (same_name row) same ∙ same-refl row)) ∙ none),
      all_differ rows (or_false (same_name row x) (has_name rows row) none),
    )

in_by : (b : Bool) (all before : List (List ℕ)) (row : List ℕ) → In row all → AllByRecursion (λ x. In x all) before
    → AllByRecursion (λ x. In x all) (cond b before (before ++ row ∷ []))
in_by true all before row there each = each
in_by false all before row there each = all_append (λ x. In x all) before (row ∷ []) each (there, tt)

-- so rows of a list, each once, are no more than that list has
rows_few : (all before rows : List (List ℕ)) → AreApart before → AllByRecursion (λ x. In x all) before
    → AllByRecursion (λ x. In x all) rows → length (distinct_rows before rows) ≤ length all
rows_few all before [] apart there each = no_more_of before all apart there
rows_few all before (row ∷ rows) apart there each =
    rows_few all (cond (has_name before row) before (before ++ row ∷ [])) rows
    (apart_by (has_name before row) before row refl apart)
    (in_by (has_name before row) all before row each.0 there) each.1

-- ---- the fault of an executive

-- an executive that runs few cycles, whose vectors have no fault and rows of these
pub record IsFine (signals : ℕ) (rows : List (List ℕ)) (x : Executive) : Type 0 where
  pub few : nat_le (length (vectors_of signals x)) most_cycles ≡ true
  pub vectors : trees_fault x.tables x.trees (start_of signals) ≡ None
  pub inside : AllByRecursion (λ row. In row rows) (map row_of (vectors_of signals x))

module _ (Fit : Type 0) (signals : ℕ) (rows : List (List ℕ)) (room : length rows * signals ≤ most_row_characters) where
  -- the rows of executives whose rows are of these
  rows_room : (xs : List Executive) → AllByRecursion (IsFine signals rows) xs
      → nat_le (length (rows_of signals xs) * signals) most_row_characters ≡ true
  rows_room xs fine =
      let few = rows_few rows [] (flat_map (λ (e : Executive). map row_of (vectors_of signals e)) xs) tt tt
      (all_flat (λ row. In row rows) (λ (e : Executive). map row_of (vectors_of signals e)) xs
      (each_so (IsFine signals rows) (λ (e : Executive). AllByRecursion (λ row. In row rows)
      (map row_of (vectors_of signals e))) xs
      (λ e is. is.inside) fine)) in
      let less = times_rise (length (rows_of signals xs)) (length rows) signals few in
      le-leb (length (rows_of signals xs) * signals) most_row_characters (omega (arith, less, room))
    where
      times_rise : (m n k : ℕ) → m ≤ n → m * k ≤ n * k
      times_rise m n zero less = omega arith
      times_rise m n (suc k) less = let behind = times_rise m n k less in omega (arith, behind, less)

  -- a fault of it is that it is too large
  executive_large : (before : List Executive) (x : Executive) → AllByRecursion (IsFine signals rows) (before ++ x ∷ [])
      → IsFine signals rows x → (Fit → sum_by measure_of (before ++ (x ∷ [])) ≤ most_measure)
      → IsLarge Fit (compile_fault signals before x)
  executive_large before x all fine measures =
      let large = fault_at (exec_place x.name x.line) TooLarge in
      let many = fault_at (exec_place x.name x.line) TooManyCycles in
      let made = trees_fault x.tables x.trees (start_of signals) in
      let small = nat_le (sum_by measure_of (before ++ (x ∷ []))) most_measure in
      let few = nat_le (length (vectors_of signals x)) most_cycles in
      let fits = nat_le (length (rows_of signals (before ++ (x ∷ []))) * signals) most_row_characters in
      large_unless Fit small large (unless few many (or_else made (unless fits large None))) refl
      (λ fit. le-leb (sum_by measure_of (before ++ (x ∷ []))) most_measure (measures fit))
      (subst (λ (b : Bool). IsLarge Fit (unless b many (or_else made (unless fits large None)))) (sym fine.few)
      (large_or Fit made (unless fits large None) (large_none Fit made fine.vectors)
      (large_unless Fit fits large None refl (λ fit. rows_room (before ++ (x ∷ [])) all) tt)))

  -- and of several
  executives_large : (before more : List Executive) → AllByRecursion (IsFine signals rows) before
      → AllByRecursion (IsFine signals rows) more
      → (Fit → sum_by measure_of before + sum_by measure_of more ≤ most_measure)
      → IsLarge Fit (compile_faults signals before more)
  executives_large before [] done fine measures = tt
  executives_large before (x ∷ more) done fine measures =
      let now = all_append (IsFine signals rows) before (x ∷ []) done (fine.0, tt) in
      let own = sum_by-cons measure_of x more in
      let pushed = sum_by_push measure_of before x in
      large_or Fit (compile_fault signals before x) (compile_faults signals (before ++ (x ∷ [])) more)
      (executive_large before x now fine.0 (λ fit. let m = measures fit in omega (arith, m, own, pushed)))
      (executives_large (before ++ (x ∷ [])) more now fine.1 (λ fit. let m = measures fit in omega (arith, m, own, pushed)))

-- ---- an executive of a flat text

module _ {V : Type 0} (times : Times V) (times_are : TimesAre times) (code : Program) (blocks : Blocks) (exec : ℕ) (e : ExecDecl)
    (text : IsTextExec code blocks exec e) where
  -- the pattern that it runs
  abbrev part : Part
  part = own_part code blocks exec e text

  -- so deep go calls
  abbrev passes_steady : Option Statements → Bool
  passes_steady body = steady_within part.setting deepest_calls body

  row_passes : (table row count : ℕ) → IsRun code exec table row count
      → Passes code (own_scope code blocks exec e text) part.setting passes_steady table row count
  unfolding steady_within
  row_passes table row count fits = ap passes_steady (row_called code blocks exec e text table row count fits).body

  steady : is_steady_pattern part.setting part.statements ≡ true
  steady =
      let scope = own_scope code blocks exec e text in
      let s = nest_steady code scope part.setting passes_steady (own_nest code blocks exec e text)
      (own_runs code blocks exec e text (Passes code scope part.setting passes_steady) row_passes) in
      ap (λ (w : Written). is_steady_pattern part.setting (resolved scope of_pattern w)) (own code blocks exec e text).pattern_is.body
      ∙ and_from _ _ s.loops s.bodies

  -- its signals, and the state in which it begins
  abbrev signals : ℕ
  signals = length (names_of blocks).signals

  abbrev begin : State
  begin = start_of signals

  -- its vectors
  abbrev own_vectors : List Vector
  own_vectors = map (own_vector code blocks exec e text) (entries times times_are code blocks exec e text)

  -- are those of its flat tree
  tree_vectors : vectors (tree_run (tree_of part) begin).made ≡ own_vectors
  tree_vectors =
      ap (λ (r : Ran State). vectors r.made) (flat_tree_agrees part.setting part.statements begin steady)
      ∙ (pattern_makes code blocks exec e text (outside begin) (begins_bare code blocks exec e text)).made

  -- as plain data
  abbrev x : Executive
  x = executive_of times blocks e

  data_vectors : vectors_of signals x ≡ own_vectors
  data_vectors =
      ap (λ (all : List Part). vectors (trees_run (map tree_of all) begin).made) (one_part code blocks exec e text)
      ∙ ap vectors (append-nil (tree_run (tree_of part) begin).made) ∙ tree_vectors

  few_vectors : nat_le (length (vectors_of signals x)) most_cycles ≡ true
  few_vectors =
      let instrs = (exec_of code exec).instrs in
      let many : length (vectors_of signals x) ≡ length (Means instrs) =
      ap length data_vectors ∙ length-map (Means instrs) (own_vector code blocks exec e text) in
      le-leb (length (vectors_of signals x)) most_cycles
      (subst (λ (n : ℕ). n ≤ most_cycles) (cycle_count-length instrs ∙ sym many)
      (exec_fits code text.program exec (exec_less code blocks exec e text)).whole.cycles)

  vector_waved : (entry : Entry) → IsEntry code exec entry → IsWaved x.tables (own_vector code blocks exec e text entry)
  vector_waved entry fits =
      let v = vector_same times times_are code blocks exec e text entry fits in
      let row = characters_of code.rows entry.row in
      record {
        place = v.place;
        table = v.table;
        waves =
            ap (λ (o : Option Table). have_waves o 0 (code_characters code entry.row)) v.same.there
            ∙ waves_as v.same.new 0 row
            ∙ ap (λ (ws : List Wave). conditions.has_waves ws 0 row)
            (v.same.waves ∙ sym (ap (λ (o : Option Table). option_map_or (λ (t : Table). t.waves) o []) v.old_is))
            ∙ fits.1.waves;
      }

  vectors_waved : AllByRecursion (IsWaved x.tables) own_vectors
  vectors_waved =
      let all = entries times times_are code blocks exec e text in
      let vector = own_vector code blocks exec e text in
      all_mapped (IsWaved x.tables) vector all
      (each_so (IsEntry code exec) (λ entry. IsWaved x.tables (vector entry)) all vector_waved
      (entries_fit times times_are code blocks exec e text))

  vectors_fine : trees_fault x.tables x.trees begin ≡ None
  vectors_fine =
      ap (λ (all : List Part). trees_fault x.tables (map tree_of all) begin) (one_part code blocks exec e text)
      ∙ ap (λ (o : Option StilFault). or_else o None)
      (no_fault x.tables part.titles (tree_run (tree_of part) begin).made
      (subst (AllByRecursion (IsWaved x.tables)) (sym tree_vectors) vectors_waved))

  -- each of its rows is one of the code
  row_inside : (entry : Entry) → IsEntry code exec entry → In (row_of (own_vector code blocks exec e text entry)) code.rows
  row_inside entry fits =
      subst (λ (row : List ℕ). In row code.rows) (sym (characters_back (characters_of code.rows entry.row)))
      (in_at code.rows entry.row fits.1.has_row)
    where
      in_at : (rows : List (List ℕ)) (n : ℕ) → n < length rows → In (characters_of rows n) rows
      in_at [] n less = absurd (omega (arith, less))
      in_at (r ∷ rows) zero less = inl refl
      in_at (r ∷ rows) (suc n) less = inr (in_at rows n (omega (arith, less)))

  rows_inside : AllByRecursion (λ row. In row code.rows) (map row_of (vectors_of signals x))
  rows_inside =
      let all = entries times times_are code blocks exec e text in
      let vector = own_vector code blocks exec e text in
      subst (λ (vs : List Vector). AllByRecursion (λ row. In row code.rows) (map row_of vs)) (sym data_vectors)
      (all_mapped (λ row. In row code.rows) row_of (map vector all)
      (all_mapped (λ (v : Vector). In (row_of v) code.rows) vector all
      (each_so (IsEntry code exec) (λ entry. In (row_of (vector entry)) code.rows) all row_inside
      (entries_fit times times_are code blocks exec e text))))

  -- it has no fault of its vectors
  pub own_fine : IsFine signals code.rows x
  own_fine = record { few = few_vectors; vectors = vectors_fine; inside = rows_inside }

  -- a row's procedure measures a vector
  row_measures : (table row count : ℕ) → IsRun code exec table row count
      → CallsOne code (own_scope code blocks exec e text) part.setting (flat_calls part.setting deepest_calls) table row count
  unfolding flat_calls
  row_measures table row count fits spot =
      let called = row_called code blocks exec e text table row count fits in
      ap (λ (o : Option Statements). measure (flat_calls part.setting deepest_calls o spot).flat) called.body
      ∙ vector_size code (own_scope code blocks exec e text) part.setting
      (flat_calls part.setting 63) called.line called.gifts spot

  -- its flat tree is no larger than what its instructions measure
  tree_few : measure_of x ≤ measured (own_nest code blocks exec e text)
  tree_few =
      let scope = own_scope code blocks exec e text in
      let nest = own_nest code blocks exec e text in
      let inner = flat_calls part.setting deepest_calls in
      let begun : Spot = record { args = []; place = record { body = of_pattern; line = 0 } } in
      let size : measure (flat_list part.setting inner part.statements begun).flat ≤ measured nest =
      subst (λ (w : Written). measure (flat_list part.setting inner (resolved scope of_pattern w) begun).flat ≤ measured nest)
      (sym (own code blocks exec e text).pattern_is.body)
      (nest_size code scope part.setting inner nest begun
      (own_runs code blocks exec e text (CallsOne code scope part.setting inner) row_measures)) in
      let one : measure_of x ≡ 0 + measure (tree_of part).flat =
      ap (λ (all : List Part). measure_in (map tree_of all)) (one_part code blocks exec e text) in
      omega (arith, size, one)

  -- nor than they measure at most, by how deep they nest
  pub measure_few : (left : ℕ) → HasRoom left (own_nest code blocks exec e text) → measure_of x ≤ measure_at code left exec
  measure_few left room =
      let nest = own_nest code blocks exec e text in
      let size = tree_few in
      let few = measured_few nest left room in
      let count : length (exec_of code exec).instrs ≡ length (instrs_in nest) + 1 =
      ap length (own code blocks exec e text).pattern_is.instrs ∙ length-append (instrs_in nest) (Done ∷ []) in
      let whole : measure_at code left exec ≡ 2 * (2 ^ left * length (instrs_in nest)) + 2 * 2 ^ left =
      ap (λ (n : ℕ). 2 * (2 ^ left * n)) count ∙ twice (2 ^ left) (length (instrs_in nest)) in
      omega (arith, size, few, whole)
    where
      twice : (p n : ℕ) → 2 * (p * (n + 1)) ≡ 2 * (p * n) + 2 * p
      twice p n = grind arith

  -- or by its cycles
  pub cycles_few : IsRepeated (own_nest code blocks exec e text) → measure_of x ≤ cycles_at code exec
  cycles_few again =
      let nest = own_nest code blocks exec e text in
      let size = tree_few in
      let few = (measured_cycles nest
      (own_runs code blocks exec e text (λ table row times. 0 < times) (λ table row times fits. fits.some)) again).0 in
      let same = ap (λ (l : List Entry). length l) (own_cycles code blocks exec e text) in
      omega (arith, size, few, same)

-- what the pass finds, where the numbers fit under some condition
module _ {V : Type 0} (times : Times V) (times_are : TimesAre times) (code : Program) (blocks : Blocks)
    (program : IsProgram code)
    (flat : AreFlatBlocks code blocks) where
  -- the measures of the executives, one by one
  measures_few : (most : ℕ → ℕ)
      → ((n : ℕ) (e : ExecDecl) → slice_get blocks.executives n ≡ Some e → measure_of (executive_of times blocks e) ≤ most n)
      → (numbers : List ℕ) (es : List ExecDecl) → AllZip (λ exec e. slice_get blocks.executives exec ≡ Some e) numbers es
      → sum_by measure_of (map (executive_of times blocks) es) ≤ sum_by most numbers
  measures_few most each [] [] all = omega arith
  measures_few most each [] (e ∷ es) all = absurd all
  measures_few most each (n ∷ numbers) [] all = absurd all
  measures_few most each (n ∷ numbers) (e ∷ es) all =
      let few = each n e all.0 in
      let behind = measures_few most each numbers es all.1 in
      omega (
        arith,
        few,
        behind,
        sum_by-cons most n numbers,
        sum_by-cons measure_of (executive_of times blocks e) (map (executive_of times blocks) es),
      )

  numbered_executives : AllZip (λ exec e. slice_get blocks.executives exec ≡ Some e) (executives code) blocks.executives
  numbered_executives =
      zip_at (IsExecDecl code) (λ exec e. slice_get blocks.executives exec ≡ Some e)
      (executives code) blocks.executives flat.executives
      (λ i exec e there at.
      let r = at_range (length code.execs) i exec there in
      subst (λ (n : ℕ). slice_get blocks.executives n ≡ Some e) (sym r.0) at)

  few_measures : (left : ℕ) → AreSmall code left
      → sum_by measure_of [] + sum_by measure_of (executives_of times blocks) ≤ most_measure
  few_measures left small =
      elim small.measured [
        | inl most ↦
            let few = measures_few (measure_at code left)
            (λ n e at.
            let text : IsTextExec code blocks n e = record { program = program; flat = flat; at = at } in
            measure_few times times_are code blocks n e text left
            (small.shallow n (own_nest code blocks n e text) (exec_less code blocks n e text)
            (own code blocks n e text).pattern_is.instrs))
            (executives code) blocks.executives numbered_executives in
            omega (arith, few, most)
        | inr most ↦
            let few = measures_few (cycles_at code)
            (λ n e at.
            let text : IsTextExec code blocks n e = record { program = program; flat = flat; at = at } in
            cycles_few times times_are code blocks n e text
            (most.0 n (own_nest code blocks n e text) (exec_less code blocks n e text)
            (own code blocks n e text).pattern_is.instrs))
            (executives code) blocks.executives numbered_executives in
            let bound = most.1 in
            omega (arith, few, bound)
      ]

  sixth_large : (Fit : Type 0) (left : ℕ) → (Fit → AreSmall code left) → IsLarge Fit (sixth_fault times blocks)
  sixth_large Fit left fits =
      let signals = length (names_of blocks).signals in
      let many : signals ≡ length code.signals = signal_count code (names_of blocks) (names_are code blocks flat) in
      executives_large Fit signals code.rows
      (subst (λ (n : ℕ). length code.rows * n ≤ most_row_characters) (sym many) program.few_rows) []
      (executives_of times blocks) tt
      (all_mapped (IsFine signals code.rows) (executive_of times blocks) blocks.executives
      (each_at (λ e. IsFine signals code.rows (executive_of times blocks e)) blocks.executives
      (λ exec e at. own_fine times times_are code blocks exec e (record { program = program; flat = flat; at = at }))))
      (λ fit. few_measures left (fits fit))

-- what the pass finds
pub only_too_large : {V : Type 0} (times : Times V) → TimesAre times → (code : Program) (blocks : Blocks) (fault : StilFault)
    → IsProgram code → AreFlatBlocks code blocks → sixth_fault times blocks ≡ Some fault → fault.kind ≡ TooLarge
only_too_large times times_are code blocks fault program flat found =
    large_is ⊥ (sixth_fault times blocks) fault (sixth_large times times_are code blocks program flat ⊥ 0 (λ f. absurd f)) found

-- and nothing where the executives are small
pub small_are_fine : {V : Type 0} (times : Times V) → TimesAre times → (code : Program) (blocks : Blocks) (left : ℕ)
    → IsProgram code → AreFlatBlocks code blocks → AreSmall code left → sixth_fault times blocks ≡ None
small_are_fine times times_are code blocks left program flat small =
    none_where_fit (AreSmall code left) (sixth_fault times blocks) small
    (sixth_large times times_are code blocks program flat (AreSmall code left) left (λ f. f))
