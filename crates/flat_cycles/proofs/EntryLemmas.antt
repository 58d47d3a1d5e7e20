-- The vectors of an executive beside its cycles: the tables of the text are those of the code.
use Rattle.std.proofs.Common.{◌≡◌, ℕ, zero, suc, List, [], map, length, replicate, take, get_or, slice_get, Some, refl, sym, ap, subst, ◌∙◌, arith, option_map}
use Rattle.std.specs.List.{AllZip, AllByRecursion, enumerate_from}
use Rattle.std.proofs.lemmas.Option.{slice_get-map, slice_get-get_or, get_or_from_slice_get}
use Rattle.tester_types.specs.declared.wave.Table.{Table}
use Rattle.packed_code.specs.declared.instr.Entry.{Entry}
use Rattle.packed_code.specs.Meaning.{Means, repeated}
use Rattle.packed_code.specs.Nesting.{cycle_of}
use Rattle.packed_code.specs.Program.{Program}
use Rattle.packed_code.specs.Conditions.{IsTable, IsProgram}
use Rattle.packed_code.specs.Cycles.{exec_of, cycles_of}
use Rattle.packed_code.proofs.Lists.{behind_at, all_replicate}
use Rattle.stil_ast.specs.declared.timing.TableDecl.{TableDecl}
use Rattle.stil_ast.specs.declared.executive.ExecDecl.{ExecDecl}
use Rattle.stil_ast.specs.declared.blocks.Blocks.{Blocks}
use Rattle.stil_ast.specs.Meaning.State.{Vector}
use Rattle.stil_ast.specs.Meaning.Cycles.{dated}
use Rattle.stil_ast.specs.Meaning.Signals.{names_of}
use Rattle.stil_ast.specs.Meaning.Times.{Times}
use Rattle.stil_ast.specs.Meaning.Tables.{made_table}
use Rattle.stil_ast.specs.Meaning.ExecutiveData.{vector_period}
use Rattle.stil_ast.specs.Meaning.Executive.{exec_tables, timing_place, exec_value, table_list, cycles}
use Rattle.flat_parts.specs.Order.{table_order, number_in}
use Rattle.flat_parts.specs.Nests.{Nest, nothing, run, loop}
use Rattle.flat_parts.specs.FlatBlocks.{no_table, table_numbered, IsTableDecl, IsNumberedTable, own_numbers, AreFlatBlocks}
use Rattle.flat_parts.specs.SameCycles.{IsSameCycle, HasSameCycles}
use Rattle.flat_parts.proofs.OrderLemmas.{at_place}
use Rattle.text_bytes.proofs.ListLemmas.{all_append}
use Rattle.flat_fine.proofs.ListLemmas.{besides}
use Rattle.flat_fine.proofs.SignalLemmas.{names_are, signal_count}
use Rattle.flat_fine.proofs.ExecLemmas.{each_so}
use Rattle.flat_cycles.proofs.ListLemmas.{zip_self, enumerated}
use Rattle.flat_cycles.proofs.NumberLemmas.{own_place, name_place}
use Rattle.flat_cycles.proofs.FitLemmas.{IsRun}
use Rattle.flat_cycles.proofs.PlayLemmas.{IsTextExec, own_tables}
use Rattle.flat_cycles.proofs.RunLemmas.{OfRuns, nest_cycles}
use Rattle.flat_cycles.proofs.CallLemmas.{known, own_vector, own_nest, own_runs, own_cycles, vectors_are}
use Rattle.flat_cycles.proofs.TableLemmas.{TimesAre, table_made}
use Rattle.flat_cycles.proofs.SameLemmas.{IsSameTable, IsSameVector, cycles_same}

-- ---- each cycle is that of a Run

-- a cycle of a Run
abbrev pub IsEntry : Program → ℕ → Entry → Type 0
IsEntry code exec entry = (times : ℕ) × IsRun code exec entry.table entry.row times

all_repeated : (P : Entry → Type 0) (times : ℕ) (entries : List Entry) → AllByRecursion P entries
    → AllByRecursion P (repeated times entries)
unfolding repeated
all_repeated P zero entries all = tt
all_repeated P (suc times) entries all = all_append P entries (repeated times entries) all (all_repeated P times entries all)

nest_entries : (code : Program) (exec : ℕ) (nest : Nest) → OfRuns (IsRun code exec) nest
    → AllByRecursion (IsEntry code exec) (nest_cycles nest)
nest_entries code exec nothing fits = tt
nest_entries code exec (run lines table row mark times rest) fits =
    all_append (IsEntry code exec) (replicate times (cycle_of table row mark)) (nest_cycles rest)
    (all_replicate (IsEntry code exec) times (cycle_of table row mark) (times, fits.0)) (nest_entries code exec rest fits.1)
nest_entries code exec (loop line times body rest) fits =
    all_append (IsEntry code exec) (repeated times (nest_cycles body)) (nest_cycles rest)
    (all_repeated (IsEntry code exec) times (nest_cycles body) (nest_entries code exec body fits.0)) (nest_entries code exec rest fits.1)

module _ {V : Type 0} (times : Times V) (times_are : TimesAre times) (code : Program) (blocks : Blocks) (exec : ℕ) (e : ExecDecl)
    (text : IsTextExec code blocks exec e) where
  -- its cycles, as its instructions give them
  abbrev pub entries : List Entry
  entries = Means (exec_of code exec).instrs

  -- its tables
  abbrev pub tables : List Table
  tables = table_list times blocks e

  -- each cycle is that of a Run
  pub entries_fit : AllByRecursion (IsEntry code exec) entries
  entries_fit =
      subst (AllByRecursion (IsEntry code exec)) (own_cycles code blocks exec e text)
      (nest_entries code exec (own_nest code blocks exec e text)
      (own_runs code blocks exec e text (IsRun code exec) (λ table row times fits. fits)))

  -- the place of a table among the executive's own
  abbrev place_of : ℕ → ℕ
  place_of table = number_in (own_numbers code exec) (number_in (table_order code) table)

  -- the table of the code
  abbrev old_of : ℕ → Table
  old_of table = get_or code.tables table no_table

  -- the declaration of a table that a Run names
  declared : (table row count : ℕ) → IsRun code exec table row count
      → (d : TableDecl) × (slice_get (exec_tables blocks e) (place_of table) ≡ Some d)
      × IsTableDecl code (number_in (table_order code) table) (old_of table) d
  declared table row count fits =
      let number = number_in (table_order code) table in
      let d = besides (IsNumberedTable code) (own_numbers code exec) (exec_tables blocks e) (place_of table) number
      (own_tables code blocks exec e text) (own_place code exec table text.program fits.table_own fits.table_ordered) in
      let of : table_numbered code number ≡ old_of table =
      ap (λ (n : ℕ). get_or code.tables n no_table)
      (get_or_from_slice_get (table_order code) number table 0 (at_place (table_order code) table fits.table_ordered)) in
      (d.0, d.1, subst (λ (t : Table). IsTableDecl code number t d.0) of d.2)

  -- at its place stands the same table
  same_there : (table row count : ℕ) → IsRun code exec table row count → IsSameTable tables (place_of table) (old_of table)
  same_there table row count fits =
      let names = names_of blocks in
      let all = exec_tables blocks e in
      let d = declared table row count fits in
      let make = made_table times (exec_value times blocks e) names (timing_place e) all in
      let made =
      table_made times times_are (exec_value times blocks e) (timing_place e) code names (known code blocks exec e text) all
      (place_of table) (number_in (table_order code) table) d.0 (take table code.tables) (old_of table)
      (signal_count code names (names_are code blocks text.flat)) d.1 d.2
      (behind_at (IsTable (length code.signals)) [] code.tables table no_table text.program.tables fits.has_table) in
      record {
        new = make (place_of table, d.0);
        there = slice_get-map make (enumerate_from 0 all) (place_of table)
            ∙ ap (option_map make) (enumerated 0 all (place_of table) d.0 d.1)
            ∙ ap (λ (n : ℕ). Some (make (n, d.0))) (omega arith);
        period = made.period;
        waves = made.waves;
      }

  -- the vector of a cycle
  abbrev pub vector_for : Entry → Vector
  vector_for entry = own_vector code blocks exec e text entry

  pub vector_same : (entry : Entry) → IsEntry code exec entry → IsSameVector code tables entry (vector_for entry)
  vector_same entry fits = record {
    place = place_of entry.table;
    table = ap (λ (n : ℕ). Some n)
        (name_place code exec entry.table text.program fits.1.table_own fits.1.table_ordered (exec_tables blocks e)
        (own_tables code blocks exec e text));
    characters = refl;
    mark = refl;
    old = old_of entry.table;
    old_is = slice_get-get_or code.tables entry.table no_table fits.1.has_table;
    same = same_there entry.table entry.row fits.0 fits.1;
  }

  -- its vectors are those of its cycles
  vectors_same : AllZip (IsSameVector code tables) entries (map vector_for entries)
  vectors_same =
      zip_self (IsSameVector code tables) vector_for entries
      (each_so (IsEntry code exec) (λ entry. IsSameVector code tables entry (vector_for entry)) entries vector_same entries_fit)

  -- its cycles are those of the code's executive
  pub exec_same : AllZip (IsSameCycle code tables) (cycles_of code exec) (cycles times blocks e)
  exec_same =
      subst (λ (vs : List Vector). AllZip (IsSameCycle code tables) (cycles_of code exec) (dated (vector_period tables) vs))
      (sym (vectors_are code blocks exec e text))
      (cycles_same code tables entries (map vector_for entries) vectors_same)

-- the cycles of each executive are the same
pub same_cycles : {V : Type 0} (times : Times V) → TimesAre times → (code : Program) (blocks : Blocks) → IsProgram code
    → AreFlatBlocks code blocks → HasSameCycles times code blocks
same_cycles times times_are code blocks program flat exec e at =
    exec_same times times_are code blocks exec e (record { program = program; flat = flat; at = at })
