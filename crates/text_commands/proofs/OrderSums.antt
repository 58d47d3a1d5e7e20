-- Sums over the tables and rows that a flat text has: they are no more than over those of the code.
use Rattle.std.proofs.Common.{◌≡◌, ℕ, zero, suc, ◌+◌, ◌<◌, ◌≤◌, Bool, true, false, not, cond, List, [], ◌∷◌, length, filter, flat_map, slice_get, Some, refl, sym, ap, subst, ◌∙◌, arith, inl, inr}
use Rattle.std.specs.Prelude.{sum_by, slice_index_or, ◌==◌}
use Rattle.std.specs.List.{AllByRecursion, range_with_len}
use Rattle.std.proofs.lemmas.Bool.{eq-eqb, true≢false}
use Rattle.std.proofs.lemmas.List.FromFn.{length-range_with_len}
use Rattle.std.proofs.lemmas.Option.{get_or_from_slice_get}
use Rattle.text_bytes.proofs.ListLemmas.{all_filter}
use Rattle.packed_code.specs.declared.instr.Instr.{Instr}
use Rattle.packed_code.specs.declared.instr.Instr.TheVariants.{Run, Loop, End, Done}
use Rattle.packed_code.specs.Program.{Exec, Program}
use Rattle.packed_code.specs.Conditions.{IsInstr, IsExec, IsProgram}
use Rattle.packed_code.proofs.Lists.{each_all, all_flat}
use Rattle.flat_parts.specs.Order.{run_table, run_row, tables_in, rows_in, firsts, table_order, row_order}
use Rattle.flat_said.proofs.FactLemmas.{all_firsts}
use Rattle.flat_fine.proofs.ApartLemmas.{In, AreApart, fewer}
use Rattle.flat_fine.proofs.ExecLemmas.{each_so}
use Rattle.flat_fine.proofs.ListLemmas.{at_range}
use Rattle.text_commands.proofs.NumberLemmas.{sums_beside}

-- ---- numbers, each once

-- others differ
others_differ : (n : ℕ) (ns : List ℕ) → AllByRecursion (λ k. n ≡ k → ⊥) (filter (λ k. not (k == n)) ns)
others_differ n [] = tt
others_differ n (k ∷ ns) = by_test (k == n) refl (others_differ n ns)
  where
    by_test : (b : Bool) → (k == n) ≡ b → AllByRecursion (λ m. n ≡ m → ⊥) (filter (λ m. not (m == n)) ns)
        → AllByRecursion (λ m. n ≡ m → ⊥) (cond (not b) (k ∷ filter (λ m. not (m == n)) ns) (filter (λ m. not (m == n)) ns))
    by_test true e rest = rest
    by_test false e rest = ((λ same. true≢false (sym (eq-eqb k n (sym same)) ∙ e)), rest)

apart_filtered : (test : ℕ → Bool) (ns : List ℕ) → AreApart ns → AreApart (filter test ns)
apart_filtered test [] apart = tt
apart_filtered test (n ∷ ns) apart = by_test (test n) (apart_filtered test ns apart.1)
  where
    by_test : (b : Bool) → AreApart (filter test ns) → AreApart (cond b (n ∷ filter test ns) (filter test ns))
    by_test true rest = (all_filter (λ k. n ≡ k → ⊥) test ns apart.0, rest)
    by_test false rest = rest

apart_firsts : (ns : List ℕ) → AreApart (firsts ns)
unfolding firsts
apart_firsts [] = tt
apart_firsts (n ∷ ns) = (others_differ n (firsts ns), apart_filtered (λ k. not (k == n)) (firsts ns) (apart_firsts ns))

-- ---- ranges

in_range : (from count n : ℕ) → n < count → In (from + n) (range_with_len from count)
in_range from zero n less = absurd (omega (arith, less))
in_range from (suc count) zero less = inl (omega arith)
in_range from (suc count) (suc n) less =
    inr (subst (λ (m : ℕ). In m (range_with_len (from + 1) count)) (omega arith)
    (in_range (from + 1) count n (omega (arith, less))))

all_in_range : (count : ℕ) (ns : List ℕ) → AllByRecursion (λ n. n < count) ns
    → AllByRecursion (λ n. In n (range_with_len 0 count)) ns
all_in_range count ns all =
    each_so (λ n. n < count) (λ n. In n (range_with_len 0 count)) ns
    (λ n less. subst (λ (m : ℕ). In m (range_with_len 0 count)) (omega arith) (in_range 0 count n less)) all

-- a sum by places is one over the items
pub by_places : {A : Type 0} (f : ℕ → ℕ) (g : A → ℕ) (xs : List A) → ((i : ℕ) (x : A) → slice_get xs i ≡ Some x → f i ≤ g x)
    → sum_by f (range_with_len 0 (length xs)) ≤ sum_by g xs
by_places f g xs so =
    sums_beside f g (range_with_len 0 (length xs)) xs (length-range_with_len 0 (length xs))
    (λ i n x there at. let r = at_range (length xs) i n there in subst (λ (m : ℕ). f m ≤ g x) (sym r.0) (so i x at))

-- so is a sum over some of the places, each once, in any order
pub ordered_few : {A : Type 0} (f : ℕ → ℕ) (g : A → ℕ) (xs : List A) (order : List ℕ) → AreApart order
    → AllByRecursion (λ n. n < length xs) order → ((i : ℕ) (x : A) → slice_get xs i ≡ Some x → f i ≤ g x)
    → sum_by (λ (number : ℕ). f (slice_index_or order number 0)) (range_with_len 0 (length order)) ≤ sum_by g xs
ordered_few f g xs order apart within so =
    let places = by_places f g xs so in
    let some = fewer f order (range_with_len 0 (length xs)) apart (all_in_range (length xs) order within) in
    let numbered = by_places (λ (number : ℕ). f (slice_index_or order number 0)) f order
    (λ i n at. let same : slice_index_or order i 0 ≡ n = get_or_from_slice_get order i n 0 at in
    let sums : f (slice_index_or order i 0) ≡ f n = ap f same in omega (arith, sums)) in
    omega (arith, places, some, numbered)

-- ---- the tables and rows of a code

run_tables_in : (tables : _) (rows : List (List ℕ)) (i : Instr) → IsInstr tables rows i
    → AllByRecursion (λ n. n < length tables) (run_table i)
run_tables_in tables rows (Run table row mark times) fits = (fits.0, tt)
run_tables_in tables rows (Loop times) fits = tt
run_tables_in tables rows End fits = tt
run_tables_in tables rows Done fits = tt

run_rows_in : (tables : _) (rows : List (List ℕ)) (i : Instr) → IsInstr tables rows i
    → AllByRecursion (λ n. n < length rows) (run_row i)
run_rows_in tables rows (Run table row mark times) fits = (fits.1, tt)
run_rows_in tables rows (Loop times) fits = tt
run_rows_in tables rows End fits = tt
run_rows_in tables rows Done fits = tt

module _ (code : Program) (program : IsProgram code) where
  abbrev Fits : Exec → Type 0
  Fits x = IsExec (length code.signals) code.tables code.rows x

  execs_fit : AllByRecursion Fits code.execs
  execs_fit = each_all Fits [] code.execs program.execs

  instrs_fit : (x : Exec) → Fits x → AllByRecursion (IsInstr code.tables code.rows) x.instrs
  instrs_fit x fits = each_all (IsInstr code.tables code.rows) [] x.instrs fits.instrs

  tables_within : AllByRecursion (λ n. n < length code.tables) (table_order code)
  tables_within =
      all_firsts (λ n. n < length code.tables) (flat_map tables_in code.execs)
      (all_flat (λ n. n < length code.tables) tables_in code.execs
      (each_so Fits (λ (x : Exec). AllByRecursion (λ n. n < length code.tables) (tables_in x)) code.execs
      (λ x fits. all_flat (λ n. n < length code.tables) run_table x.instrs
      (each_so (IsInstr code.tables code.rows) (λ i. AllByRecursion (λ n. n < length code.tables) (run_table i)) x.instrs
      (run_tables_in code.tables code.rows) (instrs_fit x fits))) execs_fit))

  rows_within : AllByRecursion (λ n. n < length code.rows) (row_order code)
  rows_within =
      all_firsts (λ n. n < length code.rows) (flat_map rows_in code.execs)
      (all_flat (λ n. n < length code.rows) rows_in code.execs
      (each_so Fits (λ (x : Exec). AllByRecursion (λ n. n < length code.rows) (rows_in x)) code.execs
      (λ x fits. all_flat (λ n. n < length code.rows) run_row x.instrs
      (each_so (IsInstr code.tables code.rows) (λ i. AllByRecursion (λ n. n < length code.rows) (run_row i)) x.instrs
      (run_rows_in code.tables code.rows) (instrs_fit x fits))) execs_fit))

  -- what its tables sum up to in the text is no more than in the code
  pub tables_few : (f : ℕ → ℕ) (g : _ → ℕ) → ((i : ℕ) (t : _) → slice_get code.tables i ≡ Some t → f i ≤ g t)
      → sum_by (λ (number : ℕ). f (slice_index_or (table_order code) number 0)) (range_with_len 0 (length (table_order code)))
      ≤ sum_by g code.tables
  tables_few f g so = ordered_few f g code.tables (table_order code)
      (apart_firsts (flat_map tables_in code.execs)) tables_within so

  -- there are no more of them, and no more rows
  pub few_rows : sum_by (λ (number : ℕ). 1) (range_with_len 0 (length (row_order code))) ≤ sum_by
      (λ (row : List ℕ). 1) code.rows
  few_rows =
      ordered_few (λ (n : ℕ). 1) (λ (row : List ℕ). 1) code.rows (row_order code)
      (apart_firsts (flat_map rows_in code.execs)) rows_within
      (λ i x at. omega arith)
