-- What is known of a code fits what its text is read by.
use Rattle.std.proofs.Common.{◌≡◌, ℕ, zero, suc, ◌+◌, ◌*◌, ◌^◌, ◌≤◌, ◌<◌, true, false, not, List, [], ◌∷◌, ◌++◌, length, get_or, refl, ap, subst, ◌∙◌, arith, length-append, suc-mul}
use Rattle.std.specs.Prelude.{◌==◌, flat_map}
use Rattle.std.specs.List.{AllByRecursion, list_all, range_with_len}
use Rattle.std.proofs.lemmas.List.Concat.{flat_map-cons}
use Rattle.std.proofs.lemmas.List.Sums.{prefix_len-le-length}
use Rattle.text_bytes.specs.Bytes.{is_printable}
use Rattle.text_bytes.proofs.ListLemmas.{all_from}
use Rattle.tester_types.specs.declared.wave.Table.{Table}
use Rattle.stil_form.specs.Words.{fits_name}
use Rattle.packed_code.specs.declared.instr.Instr.{Instr}
use Rattle.packed_code.specs.declared.instr.Instr.TheVariants.{Run, Loop, End, Done}
use Rattle.packed_code.specs.Whole.{IsRest}
use Rattle.packed_code.specs.RowBytes.{is_place}
use Rattle.packed_code.specs.Program.{Exec, Program}
use Rattle.packed_code.specs.Conditions.{EachBehind, IsText, IsSignal, IsWave, IsTable, IsRow, IsExec, IsProgram}
use Rattle.packed_code.specs.Cycles.{exec_of}
use Rattle.flat_parts.specs.Order.{run_table, run_row, tables_in, rows_in, firsts, table_order, row_order, number_in}
use Rattle.flat_parts.proofs.OrderLemmas.{firsts_shorter}
use Rattle.flat_parts.specs.Nests.{Nest}
use Rattle.flat_parts.specs.FlatBlocks.{row_numbered}
use Rattle.flat_said.specs.Laws.{AreNests}
use Rattle.flat_read.proofs.NameLemmas.{name_fits, numbered_fits}
use Rattle.flat_read.proofs.BodyLemmas.{IsFew, few_in, NamesFit}
use Rattle.flat_read.proofs.RowLemmas.{RowsFit, named_signal, given_fits}
use Rattle.flat_read.proofs.WaveLemmas.{WaveFits}
use Rattle.flat_read.proofs.TableLemmas.{TablesFit}

-- ---- lists

-- what each item is behind those before it, it is by itself
pub all_behind : {A : Type 0} (Fits : List A → A → Type 0) (P : A → Type 0) → ((before : List A) (x : A) → Fits before x → P x)
    → (items before : List A) → EachBehind Fits before items → AllByRecursion P items
all_behind Fits P one [] before fits = tt
all_behind Fits P one (x ∷ items) before fits = (one before x fits.0, all_behind Fits P one items (before ++ x ∷ []) fits.1)

-- an item, or what stands for one
pub get_all : {A : Type 0} (P : A → Type 0) (d : A) → P d → (xs : List A) (i : ℕ) → AllByRecursion P xs → P (get_or xs i d)
get_all P d none [] i all = none
get_all P d none (x ∷ xs) zero all = all.0
get_all P d none (x ∷ xs) (suc i) all = get_all P d none xs i all.1

-- an item that there is
pub get_inside : {A : Type 0} (P : A → Type 0) (d : A) (xs : List A) (i : ℕ) → i < length xs → AllByRecursion P xs → P (get_or xs i d)
get_inside P d [] i inside all = absurd (omega (arith, inside))
get_inside P d (x ∷ xs) zero inside all = all.0
get_inside P d (x ∷ xs) (suc i) inside all = get_inside P d xs i (omega (arith, inside)) all.1

-- numbers of a range are below its end
pub all_range : (n m k : ℕ) → m + n ≤ k → AllByRecursion (λ x. x < k) (range_with_len m n)
all_range zero m k few = tt
all_range (suc n) m k few = (omega (arith, few), all_range n (m + 1) k (omega (arith, few)))

-- ---- orders

-- lists of so many each
length_flat : {X A : Type 0} (f : X → List A) (most : ℕ) (xs : List X) → AllByRecursion (λ x. length (f x) ≤ most) xs
    → length (flat_map f xs) ≤ length xs * most
length_flat f most [] few = omega arith
length_flat f most (x ∷ xs) few =
    let parts = ap length (flat_map-cons f x xs) ∙ length-append (f x) (flat_map f xs) in
    let rest = length_flat f most xs few.1 in
    let more : suc (length xs) * most ≡ length xs * most + most = suc-mul (length xs) most in
    omega (arith, parts, rest, more, few.0)

-- an instruction names one table at most, and one row
tables_few : (instrs : List Instr) → AllByRecursion (λ i. length (run_table i) ≤ 1) instrs
tables_few [] = tt
tables_few (Run table row mark times ∷ instrs) = (omega arith, tables_few instrs)
tables_few (Loop times ∷ instrs) = (omega arith, tables_few instrs)
tables_few (End ∷ instrs) = (omega arith, tables_few instrs)
tables_few (Done ∷ instrs) = (omega arith, tables_few instrs)

rows_few : (instrs : List Instr) → AllByRecursion (λ i. length (run_row i) ≤ 1) instrs
rows_few [] = tt
rows_few (Run table row mark times ∷ instrs) = (omega arith, rows_few instrs)
rows_few (Loop times ∷ instrs) = (omega arith, rows_few instrs)
rows_few (End ∷ instrs) = (omega arith, rows_few instrs)
rows_few (Done ∷ instrs) = (omega arith, rows_few instrs)

-- what is known of an executive by itself
abbrev pub ExecFits : Exec → Type 0
ExecFits exec = IsText exec.name × (length exec.instrs ≤ 4194305) × IsRest 0 false exec.instrs

pub execs_fit : (code : Program) → IsProgram code → AllByRecursion ExecFits code.execs
execs_fit code is =
    all_behind (λ before exec. IsExec (length code.signals) code.tables code.rows exec) ExecFits
    (λ before exec h. (h.name, h.few_instrs, h.whole.rest)) code.execs [] is.execs

-- so many in each executive are not too many in all
few_in_all : (code : Program) (f : Exec → List ℕ) → IsProgram code → AllByRecursion (λ e. length (f e) ≤ 4194305) code.execs
    → length (firsts (flat_map f code.execs)) < 2 ^ 64
few_in_all code f is few =
    let all = length_flat f 4194305 code.execs few in
    omega (arith, firsts_shorter (flat_map f code.execs), all, is.few_execs)

-- the executives of a code name few tables and rows
pub few_tables : (code : Program) → IsProgram code → length (table_order code) < 2 ^ 64
few_tables code is =
    few_in_all code tables_in is (all_from ExecFits (λ e. length (tables_in e) ≤ 4194305)
    (λ e fits. omega (arith, fits.1, length_flat run_table 1 e.instrs (tables_few e.instrs))) code.execs (execs_fit code is))

pub few_rows : (code : Program) → IsProgram code → length (row_order code) < 2 ^ 64
few_rows code is =
    few_in_all code rows_in is (all_from ExecFits (λ e. length (rows_in e) ≤ 4194305)
    (λ e fits. omega (arith, fits.1, length_flat run_row 1 e.instrs (rows_few e.instrs))) code.execs (execs_fit code is))

-- ---- what is read

-- the names of signals are names
pub signals_fit : (code : Program) → IsProgram code → AllByRecursion (λ s. fits_name s.name ≡ true) code.signals
signals_fit code is =
    all_behind IsSignal (λ s. fits_name s.name ≡ true) (λ before s h. name_fits s.name h.name) code.signals [] is.signals

-- the waves of tables fit
pub tables_fit : (code : Program) → IsProgram code → TablesFit code
tables_fit code is number =
    get_all (λ (t : Table). AllByRecursion (WaveFits code) t.waves) _ tt code.tables (get_or (table_order code) number 0)
    (all_behind (IsTable (length code.signals)) (λ (t : Table). AllByRecursion (WaveFits code) t.waves)
    (λ before t h. all_behind (IsWave (length code.signals) t.period _) (WaveFits code)
    (λ others wave fits. record {
      called = named_signal code.signals wave.signal (signals_fit code is) fits.signal;
      character = fits.character;
      few = fits.few;
    }) t.waves [] h.waves) code.tables [] is.tables)

-- the characters of rows fit
pub rows_fit : (code : Program) → IsProgram code → RowsFit code
rows_fit code is number =
    let row = row_numbered code number in
    let good : (length row ≤ length code.signals) × (list_all is_place row ≡ true) =
    get_all (λ (r : List ℕ). (length r ≤ length code.signals) × (list_all is_place r ≡ true)) [] (omega arith, refl) code.rows
    (get_or (row_order code) number 0)
    (all_behind (IsRow (length code.signals)) (λ (r : List ℕ). (length r ≤ length code.signals) × (list_all is_place r ≡ true))
    (λ before r h. (omega (arith, h.places), h.characters)) code.rows [] is.rows) in
    given_fits code (signals_fit code is) row 0 (omega (arith, good.0)) good.1

-- the names of tables and rows are names
pub names_fit : (code : Program) → IsProgram code → NamesFit code
unfolding is_printable
names_fit code is = record {
  tables = λ table. numbered_fits 119 (number_in (table_order code) table) refl
      (omega (arith, prefix_len-le-length (λ n. not (n == table)) (table_order code), few_tables code is));
  rows = λ row. numbered_fits 114 (number_in (row_order code) row) refl
      (omega (arith, prefix_len-le-length (λ n. not (n == row)) (row_order code), few_rows code is));
}

-- so are those of executives, or empty
pub texts_fit : (code : Program) → IsProgram code → (exec : ℕ) → IsText (exec_of code exec).name
texts_fit code is exec =
    get_all (λ (e : Exec). IsText e.name) _ (record { short = omega arith; printable = refl }) code.execs exec
    (all_from ExecFits (λ e. IsText e.name) (λ e fits. fits.0) code.execs (execs_fit code is))

-- and each Run and Loop runs as often as it may
pub nests_fit : (code : Program) (nests : ℕ → Nest) → IsProgram code → AreNests code nests → (exec : ℕ) → exec < length code.execs
    → IsFew (nests exec)
nests_fit code nests is are exec inside =
    let fits = get_inside ExecFits _ code.execs exec inside (execs_fit code is) in
    (few_in (nests exec) 0 false (Done ∷ []) (subst (IsRest 0 false) (are exec inside) fits.2)).0
