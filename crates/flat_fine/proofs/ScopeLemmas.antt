-- What the names in a pattern of a flat text mean: its signals, the tables of its Timing, and the rows' procedures.
use Rattle.std.proofs.Common.{◌≡◌, ℕ, zero, suc, ◌<◌, true, List, [], ◌∷◌, length, take, map, Some, refl, ap, ◌∙◌, arith}
use Rattle.std.specs.Prelude.{option_map, codes, slice_get}
use Rattle.std.specs.List.{AllByRecursion}
use Rattle.std.proofs.lemmas.List.{append-nil}
use Rattle.std.proofs.lemmas.Option.{get_or_from_slice_get}
use Rattle.text_bytes.proofs.ListLemmas.{slice_get-there}
use Rattle.packed_code.specs.declared.instr.Instr.{Instr}
use Rattle.packed_code.specs.declared.instr.Instr.TheVariants.{Run, Loop, End, Done}
use Rattle.packed_code.specs.Program.{Program}
use Rattle.packed_code.specs.Conditions.{IsRow, IsProgram, characters_of}
use Rattle.packed_code.specs.Cycles.{exec_of}
use Rattle.stil_ast.specs.Data.Texts.{same, has_name}
use Rattle.stil_ast.specs.Meaning.Resolved.{Scope, bodies_named, body_number}
use Rattle.stil_ast.specs.Meaning.Executive.{scope_of}
use Rattle.stil_ast.specs.declared.timing.TableDecl.{TableDecl}
use Rattle.stil_ast.specs.declared.blocks.BodyDef.{BodyDef}
use Rattle.stil_ast.specs.declared.blocks.DefBlock.{DefBlock}
use Rattle.stil_ast.specs.declared.blocks.Blocks.{Blocks}
use Rattle.stil_ast.specs.declared.executive.ExecDecl.{ExecDecl}
use Rattle.stil_ast.proofs.TextLemmas.{same-refl}
use Rattle.flat_parts.specs.Order.{run_table, run_row, tables_in, rows_in, is_in, table_order, row_order, number_in}
use Rattle.flat_parts.specs.Nests.{table_name, row_name}
use Rattle.flat_parts.specs.FlatBlocks.{IsNumberedTable, own_numbers, IsRowBody, AreFlatBlocks}
use Rattle.flat_parts.proofs.OrderLemmas.{place_within, at_place, in_part, is_in-itself}
use Rattle.flat_fine.proofs.ListLemmas.{no_item, only_first, first_number, fits_behind, besides, some_passes}
use Rattle.flat_fine.proofs.ExecLemmas.{few_rows, table_is_in, row_is_there, row_is_in, own_at}
use Rattle.flat_fine.proofs.LookupLemmas.{numbered_only, IsFlatExec, tables_are, as_played}
use Rattle.flat_fine.proofs.PatternLemmas.{RunFits, IsRowKnown, IsRunKnown}

-- what a function gives of an item
map_at : {A B : Type 0} (f : A → B) (xs : List A) (number : ℕ) (x : A) → slice_get xs number ≡ Some x
    → slice_get (map f xs) number ≡ Some (f x)
map_at f [] number x at = absurd (no_item x at)
map_at f (y ∷ xs) zero x at = ap (λ o. option_map f o) at
map_at f (y ∷ xs) (suc number) x at = map_at f xs number x at

-- what holds of each item by its number
pub each_at : {A : Type 0} (P : A → Type 0) (xs : List A) → ((number : ℕ) (x : A) → slice_get xs number ≡ Some x → P x)
    → AllByRecursion P xs
each_at P [] each = tt
each_at P (x ∷ xs) each = (each 0 x refl, each_at P xs (λ number y at. each (suc number) y at))

-- the rows' procedures
pub procedures_are : (code : Program) (blocks : Blocks) (flat : AreFlatBlocks code blocks)
    → bodies_named blocks.procedures [] ≡ flat.procedures.bodies
procedures_are code blocks flat = ap (λ (bs : List DefBlock). bodies_named bs []) flat.procedures.one ∙ append-nil flat.procedures.bodies

module _ (code : Program) (blocks : Blocks) (exec : ℕ) (e : ExecDecl) (program : IsProgram code) (flat : AreFlatBlocks code blocks)
    (less : exec < length code.execs) (is : IsFlatExec code blocks exec e) where
  -- what the names in the pattern mean
  abbrev pub scope : Scope
  scope = scope_of blocks e (as_played code blocks exec e is)

  -- a table that a Run names is known
  pub table_known : (table : ℕ) → is_in (tables_in (exec_of code exec)) table ≡ true → has_name scope.tables (table_name code table) ≡ true
  table_known table has =
      let ordered = table_is_in code program exec less table has in
      let own = own_at code exec table ordered has in
      let d = besides (IsNumberedTable code) (own_numbers code exec) is.timing.tables own.0
      (number_in (table_order code) table) is.timing_is.tables own.1 in
      ap (λ (ts : List TableDecl). has_name (map (λ (t : TableDecl). t.name) ts) (table_name code table)) (tables_are code blocks exec e is)
      ∙ some_passes (same (table_name code table)) (map (λ (t : TableDecl). t.name) is.timing.tables) own.0 d.0.name
      (map_at (λ (t : TableDecl). t.name) is.timing.tables own.0 d.0 d.1)
      (ap (same (table_name code table)) d.2.name ∙ same-refl (table_name code table))

  -- so is a row
  pub row_known : (row : ℕ) → is_in (rows_in (exec_of code exec)) row ≡ true → IsRowKnown scope code row
  row_known row has =
      let order = row_order code in
      let ordered = row_is_in code program exec less row has in
      let n = number_in order row in
      let bodies = flat.procedures.bodies in
      let few = few_rows code program in
      let b = numbered_only (IsRowBody code) (λ (d : BodyDef). d.name) (codes "r") (length order) bodies n (λ m x body. body.name)
      flat.procedures.each (omega (arith, few)) (place_within order row ordered) in
      let old = slice_get-there code.rows row (row_is_there code program exec less row has) in
      let fits : IsRow (length code.signals) (take row code.rows) old.0 = fits_behind
      (IsRow (length code.signals)) [] code.rows row old.0 program.rows old.1 in
      let test = λ (d : BodyDef). same d.name (row_name code row) in
      record {
        number = n;
        body = b.0;
        found =
            ap (λ (ds : List BodyDef). slice_get ds (body_number ds (row_name code row))) (procedures_are code blocks flat)
            ∙ ap (slice_get bodies) (first_number test bodies n b.0 (only_first test bodies n b.0 b.1))
            ∙ b.1.is_there;
        is_row = b.2;
        long =
            ap (λ (k : ℕ). length (characters_of code.rows k))
            (get_or_from_slice_get order n row 0 (at_place order row ordered))
            ∙ ap length (get_or_from_slice_get code.rows row old.0 [] old.1) ∙ fits.places;
      }

  -- all that Runs name is known
  pub runs_known : AllByRecursion (RunFits (IsRunKnown scope code)) (exec_of code exec).instrs
  runs_known = each_at (RunFits (IsRunKnown scope code)) (exec_of code exec).instrs known
    where
      known : (number : ℕ) (i : Instr) → slice_get (exec_of code exec).instrs number ≡ Some i → RunFits (IsRunKnown scope code) i
      known number (Run table row mark times) at = record {
        table_known = table_known table (in_part run_table (exec_of code exec).instrs number (Run table row mark times) table at
            (is_in-itself table));
        row_known = row_known row (in_part run_row (exec_of code exec).instrs number (Run table row mark times) row at (is_in-itself row));
      }
      known number (Loop times) at = tt
      known number End at = tt
      known number Done at = tt
