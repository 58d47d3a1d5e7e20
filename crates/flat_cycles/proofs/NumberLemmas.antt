-- The numbers and names that a flat text gives to the tables of an executive, and their places in its Timing.
use Rattle.std.proofs.Common.{◌≡◌, ℕ, ◌^◌, ◌<◌, Bool, true, false, List, map, length, slice_get, Some, refl, ap, ◌∙◌, arith, codes}
use Rattle.std.specs.Prelude.{◌==◌}
use Rattle.std.specs.List.{AllZip, position_or_len}
use Rattle.std.proofs.lemmas.Bool.{eqb-true, eqb-false, eq-eqb}
use Rattle.packed_code.specs.Program.{Program}
use Rattle.packed_code.specs.Conditions.{IsProgram}
use Rattle.packed_code.specs.Cycles.{exec_of}
use Rattle.stil_ast.specs.Data.Texts.{same}
use Rattle.stil_ast.specs.declared.timing.TableDecl.{TableDecl}
use Rattle.stil_ast.proofs.TextLemmas.{same-refl}
use Rattle.flat_parts.specs.Order.{tables_in, is_in, table_order, number_in}
use Rattle.flat_parts.specs.Nests.{table_name}
use Rattle.flat_parts.specs.FlatBlocks.{numbered, IsNumberedTable, own_numbers}
use Rattle.flat_parts.proofs.OrderLemmas.{swapped, place_within, at_place}
use Rattle.flat_fine.proofs.ListLemmas.{some_passes}
use Rattle.flat_fine.proofs.NumberLemmas.{numbered_differ}
use Rattle.flat_fine.proofs.ExecLemmas.{few_tables, own_at, at_own}
use Rattle.flat_fine.proofs.ScopeLemmas.{each_at}
use Rattle.flat_cycles.proofs.ListLemmas.{zip_map, same_place}

numbered_by : (b : Bool) (front : List ℕ) (m n : ℕ) → m < 2 ^ 64 → n < 2 ^ 64 → (m == n) ≡ b
    → same (numbered front m) (numbered front n) ≡ b
numbered_by true front m n low high e =
    ap (λ (k : ℕ). same (numbered front k) (numbered front n)) (eqb-true m n e) ∙ same-refl (numbered front n)
numbered_by false front m n low high e = numbered_differ front m n low high (eqb-false m n e)

-- two names with numbers are one where the numbers are
pub same_numbered : (front : List ℕ) (m n : ℕ) → m < 2 ^ 64 → n < 2 ^ 64
    → same (numbered front m) (numbered front n) ≡ (m == n)
same_numbered front m n low high = numbered_by (m == n) front m n low high refl

-- a table of the text by its number
abbrev IsNameOf : ℕ → List ℕ → Type 0
IsNameOf number name = name ≡ numbered (codes "w") number

module _ (code : Program) (exec table : ℕ) (program : IsProgram code) (own : is_in (tables_in (exec_of code exec)) table ≡ true)
    (ordered : is_in (table_order code) table ≡ true) where
  -- the number of a table that a Run of an executive names
  abbrev number : ℕ
  number = number_in (table_order code) table

  -- is the executive's own
  number_own : is_in (own_numbers code exec) number ≡ true
  number_own =
      let at = own_at code exec table ordered own in
      some_passes (λ n. n == number) (own_numbers code exec) at.0 number at.1 (eq-eqb number number refl)

  -- and has a place among these
  pub own_place : slice_get (own_numbers code exec) (number_in (own_numbers code exec) number) ≡ Some number
  own_place = at_place (own_numbers code exec) number number_own

  -- at which its name is found
  pub name_place : (tables : List TableDecl) → AllZip (IsNumberedTable code) (own_numbers code exec) tables
      → position_or_len (same (table_name code table)) (map (λ (t : TableDecl). t.name) tables)
      ≡ number_in (own_numbers code exec) number
  name_place tables all =
      let few = few_tables code program in
      let inside = place_within (table_order code) table ordered in
      same_place (λ m. m < length (table_order code)) IsNameOf (λ m. m == number) (same (table_name code table))
      (own_numbers code exec) (map (λ (t : TableDecl). t.name) tables)
      (λ m name small of.
      ap (same (table_name code table)) of
      ∙ same_numbered (codes "w") number m (omega (arith, inside, few)) (omega (arith, small, few)) ∙ swapped m number (m == number) refl)
      (each_at (λ m. m < length (table_order code)) (own_numbers code exec) (λ k m at. (at_own code exec k m at).1))
      (zip_map (IsNumberedTable code) IsNameOf (λ (t : TableDecl). t.name) (own_numbers code exec) tables (λ m t is. is.name) all)
