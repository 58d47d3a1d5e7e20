-- What is written where there is nothing to say, and the tables of an executive.
use Rattle.std.proofs.Common.{◌≡◌, ℕ, ◌≤◌, Bool, true, false, cond, List, [], ◌∷◌, ◌++◌, length, get_or, Option, sym, ap, ◌∙◌, arith}
use Rattle.std.specs.Prelude.{codes}
use Rattle.std.specs.Option.{option_map_or}
use Rattle.std.proofs.lemmas.Bool.{eq-eqb}
use Rattle.std.proofs.lemmas.Option.{slice_get_past}
use Rattle.tester_types.specs.Printing.{quoted}
use Rattle.tester_types.specs.declared.wave.Table.{Table}
use Rattle.packed_code.specs.declared.instr.Instr.{Instr}
use Rattle.packed_code.specs.declared.instr.Instr.TheVariants.{Done}
use Rattle.packed_code.specs.Program.{Program}
use Rattle.packed_code.specs.Cycles.{exec_of}
use Rattle.flat_parts.specs.Order.{is_in, firsts, tables_in, table_order}
use Rattle.flat_parts.specs.FlatText.{character_item, title, instr_lines, table_lines, numbered_table, table_among, own_table}
use Rattle.flat_parts.proofs.OrderLemmas.{is_in-firsts}
use Rattle.flat_stil.specs.Working.{Written, wrote, prints}
use Rattle.flat_stil.proofs.SheetLemmas.{wrote_nothing, prints_nothing}

-- a signal without a character
pub no_character : (name : List ℕ) (character : ℕ) (s : Option Written) → character ≡ 0 → s ≡ wrote s (character_item name character)
no_character name character s none =
    sym (ap (λ (b : Bool). wrote s (cond b [] (quoted name ++ codes "=" ++ character ∷ codes "; "))) (eq-eqb character 0 none) ∙ wrote_nothing s)

-- an executive without a name
pub no_title : (name : List ℕ) (s : Option Written) → length name ≡ 0 → s ≡ wrote s (title name)
no_title [] s none = sym (wrote_nothing s)
no_title (byte ∷ name) s none = absurd (omega arith)

-- the end of an executive
pub no_instr : (code : Program) (instr : Instr) (s : Option Written) → instr ≡ Done → s ≡ prints s (instr_lines code instr)
no_instr code instr s none = sym (ap (λ (i : Instr). prints s (instr_lines code i)) none ∙ prints_nothing s)

-- a table that isn't there
pub no_table : (code : Program) (number table : ℕ) (s : Option Written) → length code.tables ≤ table
    → s ≡ prints s (numbered_table code number table)
no_table code number table s none =
    sym (ap (λ (t : Option Table). prints s (option_map_or (table_lines code number) t [])) (slice_get_past code.tables table none) ∙ prints_nothing s)

-- a table that isn't one of these
pub not_own : (code : Program) (tables : List ℕ) (number table : ℕ) (s : Option Written) → is_in tables table ≡ false
    → s ≡ prints s (table_among code tables number table)
not_own code tables number table s other =
    sym (ap (λ (b : Bool). prints s (cond b (numbered_table code number table) [])) other ∙ prints_nothing s)

-- a table that is
pub is_own : (code : Program) (tables : List ℕ) (number table : ℕ) (s a : Option Written) → is_in tables table ≡ true
    → a ≡ prints s (numbered_table code number table) → a ≡ prints s (table_among code tables number table)
is_own code tables number table s a own is =
    is ∙ sym (ap (λ (b : Bool). prints s (cond b (numbered_table code number table) [])) own)

-- the tables of an executive, by the list that was made of them
pub own_by : (code : Program) (exec number : ℕ) (order own : List ℕ) → order ≡ table_order code
    → own ≡ firsts (tables_in (exec_of code exec)) → table_among code own number (get_or order number 0) ≡ own_table code exec number
own_by code exec number order own is first =
    ap (λ (l : List ℕ). table_among code own number (get_or l number 0)) is
    ∙ ap (λ (l : List ℕ). table_among code l number (get_or (table_order code) number 0)) first
    ∙ ap (λ (b : Bool). cond b (numbered_table code number (get_or (table_order code) number 0)) [])
    (is_in-firsts (tables_in (exec_of code exec)) (get_or (table_order code) number 0))
