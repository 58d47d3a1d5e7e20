-- The tables of an executive of a flat text have no fault but that they have too many waves, which they haven't where
-- these fit.
use Rattle.std.proofs.Common.{◌≡◌, ℕ, zero, ℤ, pos, ◌+◌, ◌<◌, ◌≤◌, Bool, ◌&&◌, List, [], length, take, Option, Some, None, Result, refl, sym, ap, subst, ◌∙◌, arith}
use Rattle.std.specs.Prelude.{◌-◌, int_le, nat_le, slice_get, slice_index_or, suc, sum_by}
use Rattle.std.proofs.lemmas.List.Sums.{sum_by-cons}
use Rattle.std.specs.List.{enumerate_from}
use Rattle.std.proofs.lemmas.Bool.{le-leb, and_from}
use Rattle.std.proofs.lemmas.Option.{get_or_from_slice_get}
use Rattle.text_bytes.proofs.ListLemmas.{slice_get-there}
use Rattle.text_bytes.specs.Limits.{most_waves, longest_period}
use Rattle.tester_types.specs.declared.wave.Table.{Table}
use Rattle.packed_code.specs.Program.{Program}
use Rattle.packed_code.specs.Conditions.{wave_count, IsTable, IsProgram}
use Rattle.stil_ast.specs.Data.Places.{Place}
use Rattle.stil_ast.specs.Meaning.Signals.{Names, names_of}
use Rattle.stil_ast.specs.Meaning.Times.{Met}
use Rattle.stil_ast.specs.Data.Texts.{upwards}
use Rattle.stil_ast.specs.Meaning.Tables as waves
use Rattle.stil_ast.specs.Meaning.Tables.{waveforms, period_text}
use Rattle.stil_ast.specs.Meaning.Executive.{exec_value, timing_place}
use Rattle.stil_ast.specs.Faults.Found.{fault_at, on_line, unless, or_else, first_in}
use Rattle.stil_ast.specs.Faults.TableFaults.{with_time, with_period, inherit_fault, signal_fault, inherited_fault, waves_of_first, table_fault, tables_fault}
use Rattle.stil_ast.specs.Faults.ExecutiveFaults.{timed_of, exec_waves}
use Rattle.stil_ast.specs.declared.name.Quoted.{Quoted}
use Rattle.stil_ast.specs.declared.timing.TableDecl.{TableDecl}
use Rattle.stil_ast.specs.declared.blocks.Blocks.{Blocks}
use Rattle.stil_ast.specs.declared.executive.ExecDecl.{ExecDecl}
use Rattle.stil_ast.specs.declared.fault.StilFault.{StilFault}
use Rattle.stil_ast.specs.declared.fault.StilKind.TheVariants.{OutOfRange, TooLarge}
use Rattle.expr_text.specs.Ratio.{Ratio}
use Rattle.time_expr.specs.TimesOf.{times_of}
use Rattle.flat_parts.specs.Order.{table_order}
use Rattle.flat_parts.specs.FlatBlocks.{IsTableDecl, IsNumberedTable, no_table, own_numbers, AreFlatBlocks}
use Rattle.flat_fine.proofs.ListLemmas.{fits_behind, beside, within}
use Rattle.flat_fine.proofs.TimeLemmas.{time_is}
use Rattle.flat_fine.proofs.SignalLemmas.{AreNames, names_are}
use Rattle.flat_fine.proofs.FaultLemmas.{IsLarge, large_none, large_or, large_unless, large_first}
use Rattle.flat_fine.proofs.ExecLemmas.{table_is_there, at_own}
use Rattle.flat_fine.proofs.LookupLemmas.{IsFlatExec, tables_are}
use Rattle.flat_fine.proofs.TableLemmas.{timed, waves_fine}
use Rattle.flat_fine.proofs.LineageLemmas.{each_numbered, period_is, none_inherited}

-- more tables have no fewer waves
upwards_rise : (f : ℕ → ℕ) (a m n : ℕ) → m ≤ n → sum_by f (upwards a m) ≤ sum_by f (upwards a n)
upwards_rise f a zero n less = omega arith
upwards_rise f a (suc m) zero less = absurd (omega (arith, less))
upwards_rise f a (suc m) (suc n) less =
    omega (
      arith,
      sum_by-cons f a (upwards (suc a) m),
      sum_by-cons f a (upwards (suc a) n),
      upwards_rise f (suc a) m n (omega (arith, less)),
    )

waves_rise : (names : Names) (tables : List TableDecl) (m n : ℕ) → m ≤ n
    → waves_of_first names tables m ≤ waves_of_first names tables n
waves_rise names tables m n less =
    upwards_rise (λ table. waves.wave_count (waveforms names tables table) (length names.signals)) 0 m n less

-- one table
table_large : (vars : List ℕ → Result Ratio Met) (names : Names) (place : Place) (tables : List TableDecl) (code : Program)
    (before k number : ℕ) (d : TableDecl) (table : Table) (earlier : List Table) → IsProgram code → AreNames code names
    → slice_get tables k ≡ Some d → IsTableDecl code number table d → IsTable (length code.signals) earlier table
    → (Fit : Type 0) → (Fit → before + waves_of_first names tables (suc k) ≤ most_waves)
    → IsLarge Fit (table_fault (timed vars names place tables) before (k, d))
table_large vars names place tables code before k number d table earlier program are at is fits Fit room =
    let t = timed vars names place tables in
    let rest = λ (period : ℤ). or_else (first_in (signal_fault t period) d.waveforms)
    (or_else (inherited_fault t period k)
    (unless (nat_le (before + waves_of_first names tables (suc k)) most_waves) (fault_at (on_line place d.line) TooLarge) None)) in
    let next = λ (period : ℤ). unless (int_le (pos 1) period && int_le period (pos longest_period))
    (fault_at (on_line place is.period_line) OutOfRange) (rest period) in
    let text = period_is tables k d at is.inherits ∙ is.period in
    large_or Fit (first_in (inherit_fault place tables) d.inherits) (with_period t d.line (period_text tables k) rest)
    (large_none Fit (first_in (inherit_fault place tables) d.inherits) (ap (first_in (inherit_fault place tables)) is.inherits))
    (subst (λ (o : Option Quoted). IsLarge Fit (with_period t d.line o rest)) (sym text)
    (subst (λ (r : Result ℤ StilFault). IsLarge Fit (with_time r next))
    (sym (time_is table.period fits.period vars place is.period_line))
    (subst (λ (b : Bool). IsLarge Fit (unless b (fault_at (on_line place is.period_line) OutOfRange) (rest (pos table.period))))
    (sym (and_from (int_le (pos 1) (pos table.period)) (int_le (pos table.period) (pos longest_period))
    (le-leb 1 table.period (omega (arith, fits.some))) (le-leb table.period longest_period fits.period)))
    (large_or Fit (first_in (signal_fault t (pos table.period)) d.waveforms) _
    (large_none Fit (first_in (signal_fault t (pos table.period)) d.waveforms)
    (waves_fine vars names place tables code program are table.period (most_waves - wave_count earlier) [] table.waves d.waveforms
    fits.period fits.waves is.waves))
    (large_or Fit (inherited_fault t (pos table.period) k) _
    (large_none Fit (inherited_fault t (pos table.period) k) (none_inherited t (pos table.period) k d at is.inherits))
    (large_unless Fit (nat_le (before + waves_of_first names tables (suc k)) most_waves)
    (fault_at (on_line place d.line) TooLarge) None refl
    (λ fit. le-leb (before + waves_of_first names tables (suc k)) most_waves (room fit)) tt))))))

-- all tables of an executive
pub tables_large : (code : Program) (blocks : Blocks) (exec : ℕ) (e : ExecDecl) (before : ℕ) → IsProgram code → AreFlatBlocks code blocks
    → exec < length code.execs → IsFlatExec code blocks exec e
    → (Fit : Type 0) → (Fit → before + exec_waves blocks e ≤ most_waves)
    → IsLarge Fit (tables_fault (timed_of times_of blocks e) before)
tables_large code blocks exec e before program flat less is Fit room =
    let names = names_of blocks in
    let tables = is.timing.tables in
    let each : (k : ℕ) (d : TableDecl) → slice_get tables k ≡ Some d
    → IsLarge Fit (table_fault (timed (exec_value times_of blocks e) names (timing_place e) tables) before (k, d)) =
    λ k d at.
    let b = beside (IsNumberedTable code) (own_numbers code exec) tables k d is.timing_is.tables at in
    let own = at_own code exec k b.0 b.1 in
    let place = slice_index_or (table_order code) b.0 0 in
    let old = slice_get-there code.tables place (table_is_there code program exec less place own.0) in
    table_large (exec_value times_of blocks e) names (timing_place e) tables code before k b.0 d old.0 (take place code.tables) program
    (names_are code blocks flat) at
    (subst (λ (table : Table). IsTableDecl code b.0 table d) (get_or_from_slice_get code.tables place old.0 no_table old.1) b.2)
    (fits_behind (IsTable (length code.signals)) [] code.tables place old.0 program.tables old.1) Fit
    (λ fit.
    let whole = room fit in
    let some = waves_rise names tables (suc k) (length tables) (within tables k d at) in
    let same : exec_waves blocks e ≡ waves_of_first names tables (length tables) =
    ap (λ (ts : List TableDecl). waves_of_first names ts (length ts)) (tables_are code blocks exec e is) in
    omega (arith, whole, some, same)) in
    subst (λ (ts : List TableDecl). IsLarge Fit (tables_fault
    (timed (exec_value times_of blocks e) names (timing_place e) ts) before))
    (sym (tables_are code blocks exec e is))
    (large_first Fit (table_fault (timed (exec_value times_of blocks e) names (timing_place e) tables) before)
    (enumerate_from 0 tables)
    (each_numbered (λ (p : ℕ × TableDecl). IsLarge Fit (table_fault
    (timed (exec_value times_of blocks e) names (timing_place e) tables) before p)) tables each))
