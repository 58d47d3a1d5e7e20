-- The code of a text lists what the text does: `listing-same`.
use Rattle.std.proofs.Common.{◌≡◌, ◌⊎◌, ℕ, ◌+◌, ◌-◌, ◌<◌, ◌≤◌, Bool, true, false, eqb, cond, List, [], ◌∷◌, ◌++◌, length, map, get_or, Option, Some, None, unwrap_or, refl, sym, ap, ◌∙◌, subst, arith, inl, inr, append_assoc}
use Rattle.std.specs.List.{AllByRecursion, enumerate_from, flat_map, range_with_len}
use Rattle.std.proofs.lemmas.Bool.Decides.{eqb_tells}
use Rattle.std.proofs.lemmas.Grind.{flat_map-append}
use Rattle.std.proofs.lemmas.Bool.{le-leb}
use Rattle.std.proofs.lemmas.List.{get_or_append_left, get_or-append-add, length-append}
use Rattle.std.proofs.lemmas.Option.{unwrap_or-slice_get}
use Rattle.tester_types.specs.declared.wave.Table.{Table}
use Rattle.tester_types.specs.declared.cycle.Cycle.{Cycle}
use Rattle.stil_ast.specs.Meaning.Cycles.{Dated}
use Rattle.stil_ast.specs.Meaning.Executive.{table_list, cycles}
use Rattle.stil_ast.specs.Meaning.ExecutiveData.{table_at}
use Rattle.stil_ast.specs.declared.blocks.Blocks.{Blocks}
use Rattle.stil_ast.specs.declared.executive.ExecDecl.{ExecDecl}
use Rattle.time_expr.specs.TimesOf.{times_of}
use Rattle.packed_code.specs.Program.{Program}
use Rattle.packed_code.specs.Conditions.{characters_of}
use Rattle.packed_code.specs.Cycles.{cycles_of, exec_of}
use Rattle.cycle_comp.specs.Compiled.{character_of, table_in, read_cycle, read_cycles}
use Rattle.code_listing.specs.Listing.{Listed, ListedExec, no_table, listed, listed_exec, listing_of}
use Rattle.stil_program.specs.Program.{IsBlocksCode}
use Rattle.stil_program.proofs.ProgramLemmas.{execs_are, tables_are, exec_behind}
use Rattle.text_commands.specs.TextListing.{listed_cycle, text_listing}

-- ---- one cycle

-- a byte is read as a character and shown again
byte_again : (b : ℕ) → unwrap_or (character_of b) 0 ≡ b
byte_again b = by (eqb_tells b 0)
  where
    by : ((eqb b 0 ≡ true) × (b ≡ 0)) ⊎ ((eqb b 0 ≡ false) × (b ≡ 0 → ⊥)) → unwrap_or (character_of b) 0 ≡ b
    by (inl none) = ap (λ (t : Bool). unwrap_or (cond t None (Some b)) 0) none.0 ∙ sym none.1
    by (inr some) = ap (λ (t : Bool). unwrap_or (cond t None (Some b)) 0) some.0

pub bytes_again : (bytes : List ℕ) → map (λ (c : Option ℕ). unwrap_or c 0) (map character_of bytes) ≡ bytes
bytes_again [] = refl
bytes_again (b ∷ bytes) =
    ap (λ x. x ∷ map (λ (c : Option ℕ). unwrap_or c 0) (map character_of bytes)) (byte_again b) ∙ ap (λ xs. b ∷ xs) (bytes_again bytes)

-- a table among others
table_here : (before tables after : List Table) (t : ℕ) → length before ≤ t → t < length before + length tables
    → get_or (before ++ (tables ++ after)) t no_table ≡ unwrap_or (table_at tables (table_in (length before) t)) no_table
table_here before tables after t low high =
    let there : t - length before < length tables = omega (arith, low, high) in
    let place : t ≡ length before + (t - length before) = omega (arith, low) in
    ap (λ (n : ℕ). get_or (before ++ (tables ++ after)) n no_table) place
    ∙ get_or-append-add before (tables ++ after) (t - length before) no_table
    ∙ get_or_append_left tables after no_table (t - length before) there
    ∙ sym (unwrap_or-slice_get tables (t - length before) no_table)
    ∙ ap (λ (o : Option ℕ). unwrap_or (table_at tables o) no_table)
    (sym (ap (λ (b : Bool). cond b (Some (t - length before)) None) (le-leb (length before) t low)))

-- a cycle of a code is listed as it is read
cycle_same : (code : Program) (before tables after : List Table) (n : ℕ) (c : Cycle) → code.tables ≡ before ++ (tables ++ after)
    → (length before ≤ c.table) × (c.table < length before + length tables)
    → listed code (n, c) ≡ listed_cycle tables (read_cycle (length before) code.rows (n, c))
cycle_same code before tables after n c cut inside =
    let table = ap (λ ts. get_or ts c.table no_table) cut ∙ table_here before tables after c.table inside.0 inside.1 in
    let row = sym (bytes_again (characters_of code.rows c.row)) in
    ap (λ (t : Table). record { number = n; start = c.start; table = t; row = characters_of code.rows c.row }) table
    ∙ ap (λ (r : List ℕ). record {
      number = n;
      start = c.start;
      table = unwrap_or (table_at tables (table_in (length before) c.table)) no_table;
      row = r;
    }) row

cycles_same : (code : Program) (before tables after : List Table) (n : ℕ) (cs : List Cycle) → code.tables ≡ before ++ (tables ++ after)
    → AllByRecursion (λ (c : Cycle). (length before ≤ c.table) × (c.table < length before + length tables)) cs
    → map (listed code) (enumerate_from n cs)
    ≡ map (listed_cycle tables) (map (read_cycle (length before) code.rows) (enumerate_from n cs))
cycles_same code before tables after n [] cut inside = refl
cycles_same code before tables after n (c ∷ cs) cut inside =
    ap (λ (x : Listed). x ∷ map (listed code) (enumerate_from (n + 1) cs)) (cycle_same code before tables after n c cut inside.0)
    ∙ ap (λ (xs : List Listed). listed_cycle tables (read_cycle (length before) code.rows (n, c)) ∷ xs)
    (cycles_same code before tables after (n + 1) cs cut inside.1)

-- ---- executives, each with its own tables and its dated cycles

module _ (execs : List ExecDecl) (own : ExecDecl → List Table) (dates : ExecDecl → List Dated) (code : Program)
    (tables : code.tables ≡ flat_map own execs)
    (names : (before after : List ExecDecl) (d : ExecDecl) → execs ≡ before ++ d ∷ after → (exec_of code (length before)).name ≡ d.name)
    (reads : (before after : List ExecDecl) (d : ExecDecl) → execs ≡ before ++ d ∷ after
    → read_cycles (length (flat_map own before)) code (length before) ≡ dates d)
    (inside : (before after : List ExecDecl) (d : ExecDecl) → execs ≡ before ++ d ∷ after
    → AllByRecursion (λ (c : Cycle). (length (flat_map own before) ≤ c.table) × (c.table < length (flat_map own before) + length (own d)))
    (cycles_of code (length before))) where
  -- a numbered executive, as it is listed
  abbrev listed_so : ℕ × ExecDecl → ListedExec
  listed_so e = record { number = e.0; name = e.1.name; cycles = map (listed_cycle (own e.1)) (dates e.1) }

  -- an executive behind others
  exec_same : (before after : List ExecDecl) (d : ExecDecl) → execs ≡ before ++ d ∷ after
      → listed_exec code (length before) ≡ listed_so (length before, d)
  exec_same before after d cut =
      let these : code.tables ≡ flat_map own before ++ (own d ++ flat_map own after) =
      tables ∙ ap (flat_map own) cut ∙ flat_map-append own before (d ∷ after) in
      let same = cycles_same code (flat_map own before) (own d) (flat_map own after) 0 (cycles_of code (length before)) these (inside before after d cut) in
      ap (λ (name : List ℕ). record {
        number = length before;
        name = name;
        cycles = map (listed code) (enumerate_from 0 (cycles_of code (length before)));
      }) (names before after d cut)
      ∙ ap (λ (cs : List Listed). record { number = length before; name = d.name; cycles = cs })
      (same ∙ ap (map (listed_cycle (own d))) (reads before after d cut))

  execs_same : (before rest : List ExecDecl) → execs ≡ before ++ rest
      → map (listed_exec code) (range_with_len (length before) (length rest)) ≡ map listed_so (enumerate_from (length before) rest)
  execs_same before [] cut = refl
  execs_same before (d ∷ rest) cut =
      let next : length (before ++ d ∷ []) ≡ length before + 1 = length-append before (d ∷ []) in
      let more = execs_same (before ++ d ∷ []) rest (cut ∙ sym (append_assoc before (d ∷ []) rest)) in
      let tail : map (listed_exec code) (range_with_len (length before + 1) (length rest)) ≡ map listed_so (enumerate_from (length before + 1) rest) =
      subst (λ (n : ℕ). map (listed_exec code) (range_with_len n (length rest)) ≡ map listed_so (enumerate_from n rest)) next more in
      ap (λ (e : ListedExec). e ∷ map (listed_exec code) (range_with_len (length before + 1) (length rest))) (exec_same before rest d cut)
      ∙ ap (λ (es : List ListedExec). listed_so (length before, d) ∷ es) tail

  all_same : length code.execs ≡ length execs → listing_of code ≡ map listed_so (enumerate_from 0 execs)
  all_same as_many = ap (λ (n : ℕ). map (listed_exec code) (range_with_len 0 n)) as_many ∙ execs_same [] execs refl

-- the code of blocks lists what the text does
pub listing-same : (blocks : Blocks) (code : Program) → IsBlocksCode blocks code → listing_of code ≡ text_listing blocks
listing-same blocks code is =
    all_same blocks.executives (table_list times_of blocks) (cycles times_of blocks) code (tables_are blocks code is)
    (λ before after d cut. (exec_behind blocks code is before after d cut).name_is)
    (λ before after d cut. (exec_behind blocks code is before after d cut).cycles_are)
    (λ before after d cut. (exec_behind blocks code is before after d cut).inside)
    (execs_are blocks code is)
