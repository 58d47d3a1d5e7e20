-- The chains of an executive without a fault meet the conditions on a code's chains.
use Rattle.std.proofs.Common.{◌≡◌, ℕ, suc, ◌+◌, ◌<◌, ◌≤◌, ◌&&◌, ◌==◌, Bool, true, false, List, [], ◌∷◌, ◌++◌, length, map, Option, Some, None, refl, subst, ◌∙◌, arith, if◌then◌else◌}
use Rattle.std.specs.Prelude.{nat_le, nat_eq}
use Rattle.std.specs.List.{list_all, list_any, flat_map, AllByRecursion}
use Rattle.std.proofs.lemmas.Bool.{and_parts, leb-true}
use Rattle.std.proofs.lemmas.List.{length-append}
use Rattle.std.proofs.lemmas.List.Quantifiers.{position-Some}
use Rattle.std.proofs.lemmas.Option.{none-some}
use Rattle.text_bytes.specs.Limits.{longest_name, most_cells}
use Rattle.text_bytes.proofs.ListLemmas.{all_append, all_from}
use Rattle.stil_ast.specs.Data.BlockForms.{is_chain_decl, is_chain_stmt, is_cells_decl, cell_count, chain_kind}
use Rattle.stil_ast.specs.Data.Forms.{is_absent_or, is_range, is_line, is_name_ref, all_differ}
use Rattle.stil_ast.specs.Data.Texts.{same, is_name, names_with}
use Rattle.stil_ast.specs.Faults.Found.{first_in}
use Rattle.stil_ast.specs.Meaning.Chains.{Chain, cells_of, out_in, cells_in, scan_out_of, chain_with, chains_of, chain_stmt_fault, chain_fault, chains_fault}
use Rattle.stil_ast.specs.Meaning.Signals.{Names, Signal}
use Rattle.stil_ast.specs.declared.name.NameRef.{NameRef}
use Rattle.stil_ast.specs.declared.scan.CellsDecl.{CellsDecl}
use Rattle.stil_ast.specs.declared.scan.ChainStmt.{ChainStmt}
use Rattle.stil_ast.specs.declared.scan.ChainStmt.TheVariants.{Length, In, Out, Cells}
use Rattle.stil_ast.specs.declared.scan.ChainDecl.{ChainDecl}
use Rattle.stil_ast.proofs.FoundLemmas.{or_else-none}
use Rattle.scan_chain.specs.Short.{is_short}
use Rattle.scan_chain.specs.Working.{distinct_behind, faults_behind}
use Rattle.scan_chain.proofs.CellLemmas.{declared_chains}
use Rattle.scan_chain.proofs.WorkingLemmas.{distinct_behind-none, faults_behind-none}
use Rattle.tester_types.specs.declared.signal.Direction.TheVariants as direction
use Rattle.packed_code.specs.Conditions.{IsName, IsChain}
use Rattle.packed_code.proofs.Lists.{all_each, all_passing}
use Rattle.cycle_comp.specs.Compiled.{chain_of}
use Rattle.cycle_comp.proofs.EachLemmas.{all_map, all_flat_map, all_both}
use Rattle.burst_exec.proofs.WaveLemmas.{passed}
use Rattle.cycle_comp.proofs.NameLemmas.{IsShown, name_is, shown_is, names_shown, short_name}
use Rattle.cycle_comp.proofs.SignalLemmas.{refused_not}

-- a chain over so many signals, but for how long it is
pub record IsGoodChain (signals : ℕ) (c : Chain) : Type 0 where
  pub name : IsName c.name
  pub out : c.scan_out < signals
  pub cells : AllByRecursion IsName c.cells

-- cells whose texts aren't too long
cells_are : (names : Names) (block : List ℕ) (c : CellsDecl) → is_cells_decl c ≡ true
    → chain_stmt_fault names block (Cells c) ≡ None → AllByRecursion IsName (cells_of c)
cells_are names block c form fine =
    let refs = (and_parts (list_all is_name_ref c.cells) (nat_le (cell_count c.cells) most_cells)
    (and_parts (list_all is_name_ref c.cells && nat_le (cell_count c.cells) most_cells) (is_line c.line) form).0).0 in
    let short = (passed (list_all (λ (text : List ℕ). nat_le (length text) longest_name) (cells_of c)) _ _ fine).0 in
    all_from (λ (text : List ℕ). IsShown text × (nat_le (length text) longest_name ≡ true)) IsName
    (λ text is. short_name text is.0 (leb-true (length text) longest_name is.1)) (cells_of c)
    (all_both IsShown (λ (text : List ℕ). nat_le (length text) longest_name ≡ true) (cells_of c)
    (all_flat_map (λ (r : NameRef). names_with r.name r.range) (λ (r : NameRef). is_name_ref r ≡ true) IsShown
    (λ r is. let p = and_parts (is_name r.name) (is_absent_or is_range r.range) is in
    names_shown r.name r.range (shown_is r.name p.0) p.1) c.cells (all_passing is_name_ref c.cells refs))
    (all_passing (λ (text : List ℕ). nat_le (length text) longest_name) (cells_of c) short))

-- the cells of a chain
chain_cells : (names : Names) (block : List ℕ) (stmts : List ChainStmt) → list_all is_chain_stmt stmts ≡ true
    → first_in (chain_stmt_fault names block) stmts ≡ None → AllByRecursion IsName (cells_in stmts)
chain_cells names block [] forms fine = tt
chain_cells names block (Length n ∷ stmts) forms fine =
    chain_cells names block stmts (and_parts (is_chain_stmt (Length n)) (list_all is_chain_stmt stmts) forms).1
    (or_else-none (chain_stmt_fault names block (Length n)) (first_in (chain_stmt_fault names block) stmts) fine).1
chain_cells names block (In n ∷ stmts) forms fine =
    chain_cells names block stmts (and_parts (is_chain_stmt (In n)) (list_all is_chain_stmt stmts) forms).1
    (or_else-none (chain_stmt_fault names block (In n)) (first_in (chain_stmt_fault names block) stmts) fine).1
chain_cells names block (Out n ∷ stmts) forms fine =
    chain_cells names block stmts (and_parts (is_chain_stmt (Out n)) (list_all is_chain_stmt stmts) forms).1
    (or_else-none (chain_stmt_fault names block (Out n)) (first_in (chain_stmt_fault names block) stmts) fine).1
chain_cells names block (Cells c ∷ stmts) forms fine =
    cells_are names block c (and_parts (is_chain_stmt (Cells c)) (list_all is_chain_stmt stmts) forms).0
    (or_else-none (chain_stmt_fault names block (Cells c)) (first_in (chain_stmt_fault names block) stmts) fine).0

-- the signal at a chain's end
out_within : (names : Names) (o : Option (List ℕ)) (out : ℕ) → scan_out_of names o ≡ Some out
    → out < length names.signals
out_within names None out is = absurd (none-some out is)
out_within names (Some name) out is = (position-Some (λ (s : Signal). same s.text name) names.signals out nothing is).0
  where
    nothing : Signal
    nothing = record {
      text = [];
      base = None;
      direction = direction.In;
      place = record { block = []; name = []; line = 0 };
    }

-- a chain that is declared
one_chain : (names : Names) (block : List ℕ) (d : ChainDecl) (o : Option ℕ) → scan_out_of names (out_in d.stmts) ≡ o
    → is_chain_decl d ≡ true → first_in (chain_stmt_fault names block) d.stmts ≡ None
    → AllByRecursion (IsGoodChain (length names.signals)) (chain_with d o)
one_chain names block d None is form fine = tt
one_chain names block d (Some out) is form fine =
    let most = (and_parts (is_name d.name && list_all is_chain_stmt d.stmts && all_differ nat_eq (map chain_kind d.stmts))
    (is_line d.line) form).0 in
    let front = and_parts (is_name d.name) (list_all is_chain_stmt d.stmts)
    (and_parts (is_name d.name && list_all is_chain_stmt d.stmts) (all_differ nat_eq (map chain_kind d.stmts)) most).0 in (
      record {
        name = name_is d.name front.0;
        out = out_within names (out_in d.stmts) out is;
        cells = chain_cells names block d.stmts front.1 fine;
      },
      tt,
    )

-- chains without a repeated end
distinct_are : (P : Chain → Type 0) (before chains : List Chain) → AllByRecursion P before → AllByRecursion P chains
    → AllByRecursion P (distinct_behind before chains)
distinct_are P before [] all more = all
distinct_are P before (c ∷ chains) all more =
    distinct_are P (if list_any (λ (b : Chain). b.scan_out == c.scan_out) before then before else before ++ c ∷ [])
    chains (kept (list_any (λ (b : Chain). b.scan_out == c.scan_out) before)) more.1
  where
    kept : (b : Bool) → AllByRecursion P (if b then before else before ++ c ∷ [])
    kept true = all
    kept false = all_append P before (c ∷ []) all (more.0, tt)

-- the first fault of chains is that of one of them
each_fine : (names : Names) (block : List ℕ) (before decls : List ChainDecl) → faults_behind names block before decls ≡ None
    → AllByRecursion (λ (d : ChainDecl). first_in (chain_stmt_fault names block) d.stmts ≡ None) decls
each_fine names block before [] fine = tt
each_fine names block before (d ∷ decls) fine =
    let p = or_else-none (chain_fault names block before d) (faults_behind names block (before ++ d ∷ []) decls) fine in
    let here = refused_not (list_any (λ (b : ChainDecl). same b.name d.name) before) _ _ p.0 in
    (here.1, each_fine names block (before ++ d ∷ []) decls p.1)

-- the chains of declarations in their form
pub chains_are : (names : Names) (block : List ℕ) (decls : List ChainDecl) → list_all is_chain_decl decls ≡ true
    → chains_fault names block decls ≡ None → AllByRecursion (IsGoodChain (length names.signals)) (chains_of names decls)
chains_are names block decls forms fine =
    subst (AllByRecursion (IsGoodChain (length names.signals))) (distinct_behind-none (declared_chains names decls))
    (distinct_are (IsGoodChain (length names.signals)) [] (declared_chains names decls) tt
    (all_flat_map (λ (d : ChainDecl). chain_with d (scan_out_of names (out_in d.stmts)))
    (λ (d : ChainDecl). (is_chain_decl d ≡ true) × (first_in (chain_stmt_fault names block) d.stmts ≡ None))
    (IsGoodChain (length names.signals))
    (λ d is. one_chain names block d (scan_out_of names (out_in d.stmts)) refl is.0 is.1) decls
    (all_both _ _ decls (all_passing is_chain_decl decls forms) (each_fine names block [] decls (faults_behind-none names block decls ∙ fine)))))

-- ---- how many

distinct_few : (before chains : List Chain) → length (distinct_behind before chains) ≤ length before + length chains
distinct_few before [] = omega arith
distinct_few before (c ∷ chains) =
    by (list_any (λ (b : Chain). b.scan_out == c.scan_out) before) (λ b. distinct_few b chains)
  where
    by : (b : Bool) → ((b : List Chain) → length (distinct_behind b chains) ≤ length b + length chains)
        → length (distinct_behind (if b then before else before ++ c ∷ []) chains) ≤ length before + suc (length chains)
    by true go = omega (arith, go before)
    by false go = omega (arith, go (before ++ c ∷ []), length-append before (c ∷ []))

with_few : (names : Names) (decls : List ChainDecl)
    → length (flat_map (λ (d : ChainDecl). chain_with d (scan_out_of names (out_in d.stmts))) decls) ≤ length decls
with_few names [] = omega arith
with_few names (d ∷ decls) =
    let here = chain_with d (scan_out_of names (out_in d.stmts)) in
    let rest = flat_map (λ (d : ChainDecl). chain_with d (scan_out_of names (out_in d.stmts))) decls in
    omega (arith, length-append here rest, one d (scan_out_of names (out_in d.stmts)), with_few names decls)
  where
    one : (d : ChainDecl) (o : Option ℕ) → length (chain_with d o) ≤ 1
    one d None = omega arith
    one d (Some out) = omega arith

pub chains_few : (names : Names) (decls : List ChainDecl) → length (chains_of names decls) ≤ length decls
chains_few names decls =
    let all = flat_map (λ (d : ChainDecl). chain_with d (scan_out_of names (out_in d.stmts))) decls in
    subst (λ (cs : List Chain). length cs ≤ length decls) (distinct_behind-none all)
    (omega (arith, distinct_few [] all, with_few names decls))

-- ---- chains of the code

-- chains that are short
pub code_chains : (signals : ℕ) (chains : List Chain) → AllByRecursion (IsGoodChain signals) chains
    → list_all is_short chains ≡ true → AllByRecursion (IsChain signals) (map chain_of chains)
code_chains signals chains good short =
    all_map chain_of (λ (c : Chain). IsGoodChain signals c × (is_short c ≡ true)) (IsChain signals)
    (λ c is. let p = and_parts (nat_le c.length most_cells) (nat_le (length c.cells) most_cells) is.1 in record {
      name = is.0.name;
      out = is.0.out;
      size = leb-true c.length most_cells p.0;
      count = leb-true (length c.cells) most_cells p.1;
      cells = all_each IsName [] c.cells is.0.cells;
    }) chains (all_both (IsGoodChain signals) (λ (c : Chain). is_short c ≡ true) chains good (all_passing is_short chains short))
