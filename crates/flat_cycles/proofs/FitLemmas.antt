-- What is known of each Run of an executive.
use Rattle.std.proofs.Common.{◌≡◌, ℕ, suc, ◌-◌, ◌<◌, Bool, true, false, List, [], ◌∷◌, length, slice_get, Some}
use Rattle.std.specs.List.{AllByRecursion}
use Rattle.text_bytes.proofs.ListLemmas.{all_got}
use Rattle.packed_code.specs.declared.instr.Instr.{Instr}
use Rattle.packed_code.specs.declared.instr.Instr.TheVariants.{Run, Loop, End, Done}
use Rattle.packed_code.specs.Whole.{IsRest}
use Rattle.packed_code.specs.Program.{Program}
use Rattle.packed_code.specs.Conditions.{IsInstr, IsProgram, has_waves, waves_of, characters_of}
use Rattle.packed_code.specs.Cycles.{exec_of}
use Rattle.packed_code.proofs.Lists.{each_all}
use Rattle.flat_parts.specs.Order.{run_table, run_row, tables_in, is_in, table_order, row_order}
use Rattle.flat_parts.proofs.OrderLemmas.{in_part, is_in-itself}
use Rattle.flat_fine.proofs.ExecLemmas.{exec_fits, table_is_in, row_is_in}
use Rattle.flat_fine.proofs.ScopeLemmas.{each_at}
use Rattle.flat_cycles.proofs.RunLemmas.{OfRun}

-- a Run of an executive runs once at least, and names a table and a row of the code, each character of which has a wave
-- in the table
pub record IsRun (code : Program) (exec table row times : ℕ) : Type 0 where
  pub some : 0 < times
  pub table_own : is_in (tables_in (exec_of code exec)) table ≡ true
  pub table_ordered : is_in (table_order code) table ≡ true
  pub row_ordered : is_in (row_order code) row ≡ true
  pub has_table : table < length code.tables
  pub has_row : row < length code.rows
  pub waves : has_waves (waves_of code.tables table) 0 (characters_of code.rows row) ≡ true

-- a Run runs once at least
abbrev SomeTimes : Instr → Type 0
SomeTimes i = OfRun (λ table row times. 0 < times) i

rest_times : (depth : ℕ) (begun : Bool) (code : List Instr) → IsRest depth begun code → AllByRecursion SomeTimes code
rest_times depth begun [] rest = absurd rest
rest_times depth begun (Run table row mark times ∷ code) rest = (rest.0, rest_times depth false code rest.2)
rest_times depth begun (Loop times ∷ code) rest = (tt, rest_times (suc depth) true code rest.3)
rest_times depth begun (End ∷ code) rest = (tt, rest_times (depth - 1) false code rest.2)
rest_times depth begun (Done ∷ []) rest = (tt, tt)
rest_times depth begun (Done ∷ i ∷ code) rest = absurd (let e = rest.1 in cc)

module _ (code : Program) (exec : ℕ) (program : IsProgram code) (less : exec < length code.execs) where
  run_fits : (i : ℕ) (x : Instr) → slice_get (exec_of code exec).instrs i ≡ Some x → IsInstr code.tables code.rows x → SomeTimes x
      → OfRun (IsRun code exec) x
  run_fits i (Run table row mark times) at fits some =
      let instrs = (exec_of code exec).instrs in
      let table_own = in_part run_table instrs i (Run table row mark times) table at (is_in-itself table) in
      record {
        some = some;
        table_own = table_own;
        table_ordered = table_is_in code program exec less table table_own;
        row_ordered = row_is_in code program exec less row (in_part run_row instrs i (Run table row mark times) row at (is_in-itself row));
        has_table = fits.0;
        has_row = fits.1;
        waves = fits.3;
      }
  run_fits i (Loop times) at fits some = tt
  run_fits i End at fits some = tt
  run_fits i Done at fits some = tt

  -- so is each Run of an executive
  pub runs_fit : AllByRecursion (OfRun (IsRun code exec)) (exec_of code exec).instrs
  runs_fit =
      let instrs = (exec_of code exec).instrs in
      let exec_is = exec_fits code program exec less in
      let fits = each_all (IsInstr code.tables code.rows) [] instrs exec_is.instrs in
      let some = rest_times 0 false instrs exec_is.whole.rest in
      each_at (OfRun (IsRun code exec)) instrs
      (λ i x at. run_fits i x at (all_got (IsInstr code.tables code.rows) instrs i x fits at) (all_got SomeTimes instrs i x some at))
