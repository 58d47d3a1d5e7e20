-- The tables and rows that an executive of a code names, and the numbers that a flat text gives them.
use Rattle.std.proofs.Common.{◌≡◌, ℕ, zero, suc, ◌^◌, ◌<◌, ◌≤◌, Bool, true, false, List, [], ◌∷◌, length, Some, refl, sym, ap, subst, ◌∙◌, arith, cond, inl, inr}
use Rattle.std.specs.Prelude.{◌==◌, slice_get, slice_index_or}
use Rattle.std.specs.List.{AllByRecursion, filter, flat_map, range_with_len}
use Rattle.std.proofs.lemmas.Bool.{eqb-true, or_cases, false≢true}
use Rattle.std.proofs.lemmas.Option.{get_or_from_slice_get}
use Rattle.packed_code.specs.declared.instr.Instr.{Instr}
use Rattle.packed_code.specs.declared.instr.Instr.TheVariants.{Run, Loop, End, Done}
use Rattle.tester_types.specs.declared.wave.Table.{Table}
use Rattle.packed_code.specs.Program.{Exec, Program}
use Rattle.packed_code.specs.Conditions.{IsInstr, IsExec, IsProgram}
use Rattle.packed_code.specs.Cycles.{exec_of}
use Rattle.packed_code.proofs.Lists.{each_all, all_of_any}
use Rattle.text_bytes.proofs.ListLemmas.{slice_get-there}
use Rattle.flat_parts.specs.Order.{run_table, run_row, tables_in, rows_in, is_in, table_order, row_order, number_in}
use Rattle.flat_parts.specs.FlatBlocks.{own_numbers}
use Rattle.flat_parts.proofs.OrderLemmas.{is_in-firsts, firsts_shorter, place_within, at_place, in_part}
use Rattle.flat_fine.proofs.ListLemmas.{no_item, one_item, fits_behind, range_at, at_range}
use Rattle.flat_fine.proofs.NumberLemmas.{has_any, all_long}

-- what holds of each
pub each_so : {A : Type 0} (P Q : A → Type 0) (items : List A) → ((x : A) → P x → Q x) → AllByRecursion P items → AllByRecursion Q items
each_so P Q [] so each = tt
each_so P Q (x ∷ items) so each = (so x each.0, each_so P Q items so each.1)

-- a list of one
one_of : (a n : ℕ) → is_in (a ∷ []) n ≡ true → a ≡ n
one_of a n has =
    elim (or_cases (a == n) false has) [
      | inl t ↦ eqb-true a n t
      | inr f ↦ absurd (false≢true f)
    ]

-- a Run names at most one table and one row
table_few : (i : Instr) → length (run_table i) ≤ 1
table_few (Run table row mark times) = omega arith
table_few (Loop times) = omega arith
table_few End = omega arith
table_few Done = omega arith

row_few : (i : Instr) → length (run_row i) ≤ 1
row_few (Run table row mark times) = omega arith
row_few (Loop times) = omega arith
row_few End = omega arith
row_few Done = omega arith

-- which is there
table_there : (tables : List Table) (rows : List (List ℕ)) (n : ℕ) (i : Instr) → IsInstr tables rows i → is_in (run_table i) n ≡ true
    → n < length tables
table_there tables rows n (Run table row mark times) fits has = subst (λ (k : ℕ). k < length tables) (one_of table n has) fits.0
table_there tables rows n (Loop times) fits has = absurd (false≢true has)
table_there tables rows n End fits has = absurd (false≢true has)
table_there tables rows n Done fits has = absurd (false≢true has)

row_there : (tables : List Table) (rows : List (List ℕ)) (n : ℕ) (i : Instr) → IsInstr tables rows i → is_in (run_row i) n ≡ true
    → n < length rows
row_there tables rows n (Run table row mark times) fits has = subst (λ (k : ℕ). k < length rows) (one_of row n has) fits.1
row_there tables rows n (Loop times) fits has = absurd (false≢true has)
row_there tables rows n End fits has = absurd (false≢true has)
row_there tables rows n Done fits has = absurd (false≢true has)

-- the tables and rows of an executive are few
tables_few : (exec : Exec) → length exec.instrs ≤ 4194305 → length (tables_in exec) ≤ 4194305
tables_few exec few =
    let all = all_long run_table exec.instrs 1 (all_of_any (λ i. length (run_table i) ≤ 1) exec.instrs table_few) in
    omega (arith, all, few)

rows_few : (exec : Exec) → length exec.instrs ≤ 4194305 → length (rows_in exec) ≤ 4194305
rows_few exec few =
    let all = all_long run_row exec.instrs 1 (all_of_any (λ i. length (run_row i) ≤ 1) exec.instrs row_few) in
    omega (arith, all, few)

module _ (code : Program) (program : IsProgram code) where
  abbrev Fits : Exec → Type 0
  Fits exec = IsExec (length code.signals) code.tables code.rows exec

  execs_fit : AllByRecursion Fits code.execs
  execs_fit = each_all Fits [] code.execs program.execs

  -- so the numbers of all can be told apart
  pub few_tables : length (table_order code) < 2 ^ 64
  few_tables =
      let all = all_long tables_in code.execs 4194305
      (each_so Fits (λ (x : Exec). length (tables_in x) ≤ 4194305) code.execs (λ x fits. tables_few x fits.few_instrs) execs_fit) in
      let first = firsts_shorter (flat_map tables_in code.execs) in
      let few = program.few_execs in
      omega (arith, all, first, few)

  pub few_rows : length (row_order code) < 2 ^ 64
  few_rows =
      let all = all_long rows_in code.execs 4194305
      (each_so Fits (λ (x : Exec). length (rows_in x) ≤ 4194305) code.execs (λ x fits. rows_few x fits.few_instrs) execs_fit) in
      let first = firsts_shorter (flat_map rows_in code.execs) in
      let few = program.few_execs in
      omega (arith, all, first, few)

  module _ (exec : ℕ) (less : exec < length code.execs) where
    -- an executive of the code
    pub exec_at : slice_get code.execs exec ≡ Some (exec_of code exec)
    exec_at =
        let x = slice_get-there code.execs exec less in
        x.1 ∙ ap Some (sym (get_or_from_slice_get code.execs exec x.0 (record { name = []; chains = []; instrs = [] }) x.1))

    -- is as it should be
    pub exec_fits : IsExec (length code.signals) code.tables code.rows (exec_of code exec)
    exec_fits = fits_behind (λ before item. Fits item) [] code.execs exec (exec_of code exec) program.execs exec_at

    instrs_fit : AllByRecursion (IsInstr code.tables code.rows) (exec_of code exec).instrs
    instrs_fit = each_all (IsInstr code.tables code.rows) [] (exec_of code exec).instrs exec_fits.instrs

    -- a table that it names is there, and has a number
    pub table_is_there : (table : ℕ) → is_in (tables_in (exec_of code exec)) table ≡ true → table < length code.tables
    table_is_there table has =
        has_any run_table (exec_of code exec).instrs table (table < length code.tables)
        (each_so (IsInstr code.tables code.rows) (λ i. is_in (run_table i) table ≡ true → table < length code.tables)
        (exec_of code exec).instrs (λ i fits. table_there code.tables code.rows table i fits) instrs_fit) has

    pub table_is_in : (table : ℕ) → is_in (tables_in (exec_of code exec)) table ≡ true → is_in (table_order code) table ≡ true
    table_is_in table has =
        is_in-firsts (flat_map tables_in code.execs) table ∙ in_part tables_in code.execs exec (exec_of code exec) table exec_at has

    -- a row too
    pub row_is_there : (row : ℕ) → is_in (rows_in (exec_of code exec)) row ≡ true → row < length code.rows
    row_is_there row has =
        has_any run_row (exec_of code exec).instrs row (row < length code.rows)
        (each_so (IsInstr code.tables code.rows) (λ i. is_in (run_row i) row ≡ true → row < length code.rows)
        (exec_of code exec).instrs (λ i fits. row_there code.tables code.rows row i fits) instrs_fit) has

    pub row_is_in : (row : ℕ) → is_in (rows_in (exec_of code exec)) row ≡ true → is_in (row_order code) row ≡ true
    row_is_in row has =
        is_in-firsts (flat_map rows_in code.execs) row ∙ in_part rows_in code.execs exec (exec_of code exec) row exec_at has

-- where a filtered list has what passes
filter_at : (test : ℕ → Bool) (numbers : List ℕ) (number n : ℕ) → slice_get numbers number ≡ Some n → test n ≡ true
    → (k : ℕ) × (slice_get (filter test numbers) k ≡ Some n)
filter_at test [] number n at passes = absurd (no_item n at)
filter_at test (x ∷ numbers) zero n at passes =
    let same : x ≡ n = one_item x n at in (
      0,
      ap (λ (b : Bool). slice_get (cond b (x ∷ filter test numbers) (filter test numbers)) 0) (ap test same ∙ passes) ∙ ap Some same,
    )
filter_at test (x ∷ numbers) (suc number) n at passes = by_test (test x) (filter_at test numbers number n at passes)
  where
    by_test : (b : Bool) → (k : ℕ) × (slice_get (filter test numbers) k ≡ Some n)
        → (k : ℕ) × (slice_get (cond b (x ∷ filter test numbers) (filter test numbers)) k ≡ Some n)
    by_test true h = (suc h.0, h.1)
    by_test false h = h

-- what a filtered list has passes
at_filter : (test : ℕ → Bool) (numbers : List ℕ) (number n : ℕ) → slice_get (filter test numbers) number ≡ Some n
    → (test n ≡ true) × (k : ℕ) × (slice_get numbers k ≡ Some n)
at_filter test [] number n at = absurd (no_item n at)
at_filter test (x ∷ numbers) number n at = by_test (λ m there. at_filter test numbers m n there) (test x) refl number at
  where
    by_test : ((m : ℕ) → slice_get (filter test numbers) m ≡ Some n → (test n ≡ true) × (k : ℕ) × (slice_get numbers k ≡ Some n))
        → (b : Bool) → test x ≡ b → (m : ℕ) → slice_get (cond b (x ∷ filter test numbers) (filter test numbers)) m ≡ Some n
        → (test n ≡ true) × (k : ℕ) × (slice_get (x ∷ numbers) k ≡ Some n)
    by_test again true t zero there =
        let same : x ≡ n = one_item x n there in
        (ap test (sym same) ∙ t, 0, ap Some same)
    by_test again true t (suc m) there = let h = again m there in (h.0, suc h.1, h.2)
    by_test again false t m there = let h = again m there in (h.0, suc h.1, h.2)

-- the test by which an executive has a table of the text
abbrev pub owns : Program → ℕ → ℕ → Bool
owns code exec number = is_in (tables_in (exec_of code exec)) (slice_index_or (table_order code) number 0)

-- an executive has the tables that its Runs name
pub own_at : (code : Program) (exec table : ℕ) → is_in (table_order code) table ≡ true
    → is_in (tables_in (exec_of code exec)) table ≡ true
    → (k : ℕ) × (slice_get (own_numbers code exec) k ≡ Some (number_in (table_order code) table))
own_at code exec table ordered has =
    let order = table_order code in
    let n = number_in order table in
    filter_at (owns code exec) (range_with_len 0 (length order)) n n (range_at (length order) n (place_within order table ordered))
    (ap (is_in (tables_in (exec_of code exec))) (get_or_from_slice_get order n table 0 (at_place order table ordered)) ∙ has)

-- and no others
pub at_own : (code : Program) (exec k number : ℕ) → slice_get (own_numbers code exec) k ≡ Some number
    → (owns code exec number ≡ true) × (number < length (table_order code))
at_own code exec k number at =
    let order = table_order code in
    let h = at_filter (owns code exec) (range_with_len 0 (length order)) k number at in
    let r = at_range (length order) h.1 number h.2 in
    (h.0, subst (λ (n : ℕ). n < length order) (sym r.0) r.1)
