-- The tables of an executive of a flat text have as many waves as those of the code that its Runs name.
use Rattle.std.proofs.Common.{◌≡◌, ℕ, suc, ◌+◌, List, [], ◌∷◌, length, map, take, slice_get, Some, refl, sym, ap, subst, ◌∙◌, arith}
use Rattle.std.specs.Prelude.{sum_by, slice_index_or}
use Rattle.std.specs.List.{AllZip, enumerate_from}
use Rattle.std.proofs.lemmas.List.Sums.{sum_by-cons}
use Rattle.std.proofs.lemmas.Option.{get_or_from_slice_get}
use Rattle.text_bytes.proofs.ListLemmas.{slice_get-there}
use Rattle.tester_types.specs.declared.wave.Wave.{Wave}
use Rattle.tester_types.specs.declared.wave.Table.{Table}
use Rattle.stil_ast.specs.Meaning.Signals.{names_of}
use Rattle.stil_ast.specs.Meaning.Tables.{made_table}
use Rattle.stil_ast.specs.Meaning.Executive.{exec_tables, exec_value, timing_place, table_list}
use Rattle.stil_ast.specs.Faults.ExecutiveFaults.{exec_waves}
use Rattle.stil_ast.specs.declared.timing.TableDecl.{TableDecl}
use Rattle.stil_ast.specs.declared.executive.ExecDecl.{ExecDecl}
use Rattle.stil_ast.specs.declared.blocks.Blocks.{Blocks}
use Rattle.time_expr.specs.TimesOf.{times_of}
use Rattle.wave_tables.proofs.CountLemmas.{waves_counted}
use Rattle.packed_code.specs.Program.{Program}
use Rattle.packed_code.specs.Conditions.{IsTable, IsProgram, wave_count}
use Rattle.flat_parts.specs.Order.{table_order}
use Rattle.flat_parts.specs.FlatText.{executives}
use Rattle.flat_parts.specs.FlatBlocks.{IsTableDecl, IsNumberedTable, IsExecDecl, AreFlatBlocks, no_table, table_numbered, own_numbers}
use Rattle.flat_fine.proofs.ListLemmas.{fits_behind, at_range, zip_at}
use Rattle.flat_fine.proofs.SignalLemmas.{names_are, signal_count}
use Rattle.flat_fine.proofs.TimeLemmas.{time_is}
use Rattle.flat_fine.proofs.ExecLemmas.{table_is_there, at_own}
use Rattle.flat_cycles.proofs.TableLemmas.{table_made}
use Rattle.flat_cycles.proofs.PlayLemmas.{IsTextExec, own_tables, exec_less}
use Rattle.flat_cycles.proofs.CallLemmas.{known}
use Rattle.flat_laws.specs.Limits.{waves_at}

-- what is made of numbered items, beside other items
zip_made : {A B C : Type 0} (P : A → B → Type 0) (R : A → C → Type 0) (make : ℕ × B → C) (from : ℕ) (xs : List A) (ys : List B)
    → AllZip P xs ys → ((i : ℕ) (x : A) (y : B) → slice_get xs i ≡ Some x → slice_get ys i ≡ Some y → P x y → R x
    (make (i + from, y)))
    → AllZip R xs (map make (enumerate_from from ys))
zip_made P R make from [] [] all so = tt
zip_made P R make from [] (y ∷ ys) all so = absurd all
zip_made P R make from (x ∷ xs) [] all so = absurd all
zip_made P R make from (x ∷ xs) (y ∷ ys) all so = (
  subst (λ (n : ℕ). R x (make (n, y))) (omega arith) (so 0 x y refl refl all.0),
  zip_made P R make (from + 1) xs ys all.1 (λ i a b there at p.
      subst (λ (n : ℕ). R a (make (n, b))) (omega arith) (so (suc i) a b there at p)),
)

-- tables with so many waves each
sum_same : (many : ℕ → ℕ) (numbers : List ℕ) (tables : List Table)
    → AllZip (λ n (t : Table). length t.waves ≡ many n) numbers tables
    → wave_count tables ≡ sum_by many numbers
sum_same many [] [] all = refl
sum_same many [] (t ∷ tables) all = absurd all
sum_same many (n ∷ numbers) [] all = absurd all
sum_same many (n ∷ numbers) (t ∷ tables) all =
    let behind = sum_same many numbers tables all.1 in
    let here = all.0 in
    omega (arith, behind, here, sum_by-cons many n numbers, sum_by-cons (λ (x : Table). length x.waves) t tables)

module _ (code : Program) (blocks : Blocks) (exec : ℕ) (e : ExecDecl) (text : IsTextExec code blocks exec e) where
  -- a table of the text has the waves of the code's
  waves_same : (k number : ℕ) (d : TableDecl) → slice_get (own_numbers code exec) k ≡ Some number
      → slice_get (exec_tables blocks e) k ≡ Some d → IsNumberedTable code number d
      → length (made_table times_of (exec_value times_of blocks e) (names_of blocks) (timing_place e)
      (exec_tables blocks e) (k, d)).waves
      ≡ length (table_numbered code number).waves
  waves_same k number d there at is =
      let names = names_of blocks in
      let own = at_own code exec k number there in
      let place = slice_index_or (table_order code) number 0 in
      let old = slice_get-there code.tables place (table_is_there code text.program exec
      (exec_less code blocks exec e text) place own.0) in
      let same : table_numbered code number ≡ old.0 = get_or_from_slice_get code.tables place old.0 no_table old.1 in
      let made =
      table_made times_of time_is (exec_value times_of blocks e) (timing_place e) code names (known code blocks exec e text)
      (exec_tables blocks e) k number d (take place code.tables) old.0
      (signal_count code names (names_are code blocks text.flat)) at
      (subst (λ (t : Table). IsTableDecl code number t d) same is)
      (fits_behind (IsTable (length code.signals)) [] code.tables place old.0 text.program.tables old.1) in
      ap (λ (ws : List Wave). length ws) made.waves ∙ sym (ap (λ (t : Table). length t.waves) same)

  pub waves_are : exec_waves blocks e ≡ waves_at code exec
  waves_are =
      sym (waves_counted blocks e)
      ∙ sum_same (λ number. length (table_numbered code number).waves) (own_numbers code exec) (table_list times_of blocks e)
      (zip_made (IsNumberedTable code) (λ n (t : Table). length t.waves ≡ length (table_numbered code n).waves)
      (made_table times_of (exec_value times_of blocks e) (names_of blocks) (timing_place e) (exec_tables blocks e)) 0
      (own_numbers code exec) (exec_tables blocks e) (own_tables code blocks exec e text)
      (λ k n d there at is.
      let here : k ≡ k + 0 = omega arith in
      subst (λ (m : ℕ). length (made_table times_of (exec_value times_of blocks e) (names_of blocks) (timing_place e)
      (exec_tables blocks e) (m, d)).waves ≡ length (table_numbered code n).waves) here (waves_same k n d there at is)))

-- so have all executives
all_waves : (code : Program) (blocks : Blocks) (numbers : List ℕ) (es : List ExecDecl)
    → AllZip (λ exec e. exec_waves blocks e ≡ waves_at code exec) numbers es
    → sum_by (exec_waves blocks) es ≡ sum_by (waves_at code) numbers
all_waves code blocks [] [] all = refl
all_waves code blocks [] (e ∷ es) all = absurd all
all_waves code blocks (n ∷ numbers) [] all = absurd all
all_waves code blocks (n ∷ numbers) (e ∷ es) all =
    let behind = all_waves code blocks numbers es all.1 in
    let here = all.0 in
    omega (arith, behind, here, sum_by-cons (exec_waves blocks) e es, sum_by-cons (waves_at code) n numbers)

pub text_waves : (code : Program) (blocks : Blocks) → IsProgram code → AreFlatBlocks code blocks
    → sum_by (exec_waves blocks) blocks.executives ≡ sum_by (waves_at code) (executives code)
text_waves code blocks program flat =
    all_waves code blocks (executives code) blocks.executives
    (zip_at (IsExecDecl code) (λ exec e. exec_waves blocks e ≡ waves_at code exec)
    (executives code) blocks.executives flat.executives
    (λ i exec e there at.
    let r = at_range (length code.execs) i exec there in
    subst (λ (n : ℕ). exec_waves blocks e ≡ waves_at code n) (sym r.0)
    (waves_are code blocks i e (record { program = program; flat = flat; at = at }))))
