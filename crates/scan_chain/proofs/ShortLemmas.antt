-- The chains of one text are short, since each statement of a chain has its form.
use Rattle.std.proofs.Common.{◌≡◌, ℕ, Bool, true, false, cond, ◌&&◌, List, [], ◌∷◌, ◌++◌, Option, Some, None, length, refl, sym, ap, ◌∙◌}
use Rattle.std.specs.Prelude.{flat_map, nat_le, unwrap_or, ◌==◌}
use Rattle.std.specs.List.{list_all, list_any}
use Rattle.std.proofs.lemmas.Bool.{and_parts, and_from}
use Rattle.std.proofs.lemmas.List.Folds.{list_all-append}
use Rattle.text_bytes.specs.Limits.{most_cells}
use Rattle.stil_ast.specs.Data.Texts.{same, is_name}
use Rattle.stil_ast.specs.Data.Forms.{is_line, is_name_ref, is_optional_name}
use Rattle.stil_ast.specs.Data.BlockForms.{cell_count, is_chain_stmt, is_chain_decl, is_scan_block}
use Rattle.stil_ast.specs.Meaning.Signals.{names_of}
use Rattle.stil_ast.specs.Meaning.Chains.{Chain, chains_named, length_in, cells_in, out_in, scan_out_of, chain_with}
use Rattle.stil_ast.specs.Meaning.Bursts.{exec_scans}
use Rattle.stil_ast.specs.declared.scan.ScanBlock.{ScanBlock}
use Rattle.stil_ast.specs.declared.scan.ChainDecl.{ChainDecl}
use Rattle.stil_ast.specs.declared.scan.ChainStmt.{ChainStmt}
use Rattle.stil_ast.specs.declared.scan.ChainStmt.TheVariants.{Length, In, Out, Cells}
use Rattle.stil_ast.proofs.FormLemmas.{length-cells_of}
use Rattle.scan_chain.proofs.CellLemmas.{declared_chains}
use Rattle.scan_chain.proofs.WorkingLemmas.{distinct_behind-none}
use Rattle.scan_chain.specs.Working.{distinct_behind}
use Rattle.scan_chain.specs.Short.{is_short, ChainsAreShort}

-- what is made of items that pass passes
flat_map-all : {A B : Type 0} (q : A → Bool) (p : B → Bool) (f : A → List B)
    → ((x : A) → q x ≡ true → list_all p (f x) ≡ true) → (xs : List A) → list_all q xs ≡ true
    → list_all p (flat_map f xs) ≡ true
flat_map-all q p f each [] all = refl
flat_map-all q p f each (x ∷ xs) all =
    let parts = and_parts (q x) (list_all q xs) all in
    list_all-append p (f x) (flat_map f xs)
    ∙ and_from _ _ (each x parts.0) (flat_map-all q p f each xs parts.1)

-- chains that are told apart are among those that there are
distinct_chains-all : (p : Chain → Bool) (chains before : List Chain) → list_all p before ≡ true → list_all p chains ≡ true
    → list_all p (distinct_behind before chains) ≡ true
distinct_chains-all p [] before front all = front
distinct_chains-all p (c ∷ chains) before front all =
    let parts = and_parts (p c) (list_all p chains) all in
    let found = list_any (λ (b : Chain). b.scan_out == c.scan_out) before in
    distinct_chains-all p chains (cond found before (before ++ c ∷ [])) (either found parts.0) parts.1
  where
    either : (b : Bool) → p c ≡ true → list_all p (cond b before (before ++ c ∷ [])) ≡ true
    either true here = front
    either false here = list_all-append p before (c ∷ []) ∙ and_from _ _ front (and_from _ _ here refl)

-- the declarations of blocks that have their form have theirs
named-all : (scans : List ScanBlock) (name : List ℕ) → list_all is_scan_block scans ≡ true
    → list_all is_chain_decl (chains_named scans name) ≡ true
named-all scans name all =
    flat_map-all is_scan_block is_chain_decl (λ (s : ScanBlock). cond (same s.name name) s.chains []) in_block scans all
  where
    either : (b : Bool) (chains : List ChainDecl) → list_all is_chain_decl chains ≡ true
        → list_all is_chain_decl (cond b chains []) ≡ true
    either true chains h = h
    either false chains h = refl

    in_block : (s : ScanBlock) → is_scan_block s ≡ true → list_all is_chain_decl (cond (same s.name name) s.chains []) ≡ true
    in_block s h = either (same s.name name) s.chains (and_parts (is_optional_name s.name) (list_all is_chain_decl s.chains) h).1

-- the first statement has its form, and so have the others
first_stmt : (s : ChainStmt) (stmts : List ChainStmt) → list_all is_chain_stmt (s ∷ stmts) ≡ true → is_chain_stmt s ≡ true
first_stmt s stmts all = (and_parts (is_chain_stmt s) (list_all is_chain_stmt stmts) all).0

others : (s : ChainStmt) (stmts : List ChainStmt) → list_all is_chain_stmt (s ∷ stmts) ≡ true
    → list_all is_chain_stmt stmts ≡ true
others s stmts all = (and_parts (is_chain_stmt s) (list_all is_chain_stmt stmts) all).1

-- no more cells are listed than there may be
cells_in-short : (stmts : List ChainStmt) → list_all is_chain_stmt stmts ≡ true
    → nat_le (length (cells_in stmts)) most_cells ≡ true
cells_in-short [] all = refl
cells_in-short (Length n ∷ stmts) all = cells_in-short stmts (others (Length n) stmts all)
cells_in-short (In n ∷ stmts) all = cells_in-short stmts (others (In n) stmts all)
cells_in-short (Out n ∷ stmts) all = cells_in-short stmts (others (Out n) stmts all)
cells_in-short (Cells c ∷ stmts) all =
    let named = list_all is_name_ref c.cells in
    let few = nat_le (cell_count c.cells) most_cells in
    ap (λ n. nat_le n most_cells) (length-cells_of c)
    ∙ (and_parts named few (and_parts (named && few) (is_line c.line) (first_stmt (Cells c) stmts all)).0).1

-- no ScanLength is greater
length_in-short : (stmts : List ChainStmt) (cells : ℕ) → nat_le cells most_cells ≡ true
    → list_all is_chain_stmt stmts ≡ true → nat_le (unwrap_or (length_in stmts) cells) most_cells ≡ true
length_in-short [] cells few all = few
length_in-short (Length n ∷ stmts) cells few all = first_stmt (Length n) stmts all
length_in-short (In n ∷ stmts) cells few all = length_in-short stmts cells few (others (In n) stmts all)
length_in-short (Out n ∷ stmts) cells few all = length_in-short stmts cells few (others (Out n) stmts all)
length_in-short (Cells c ∷ stmts) cells few all = length_in-short stmts cells few (others (Cells c) stmts all)

-- a declaration that has its form makes a short chain
chain_with-short : (d : ChainDecl) (out : Option ℕ) → list_all is_chain_stmt d.stmts ≡ true
    → list_all is_short (chain_with d out) ≡ true
chain_with-short d None all = refl
chain_with-short d (Some out) all =
    let few = cells_in-short d.stmts all in
    and_from _ _ (and_from _ _ (length_in-short d.stmts (length (cells_in d.stmts)) few all) few) refl

stmts_of : (d : ChainDecl) → is_chain_decl d ≡ true → list_all is_chain_stmt d.stmts ≡ true
stmts_of d h = (and_parts (is_name d.name) (list_all is_chain_stmt d.stmts) (and_parts _ _ (and_parts _ (is_line d.line) h).0).0).1

-- the chains of one text are short
pub chains-are_short : ChainsAreShort
chains-are_short blocks e one =
    let names = names_of blocks in
    let decls = chains_named blocks.scans (exec_scans blocks e) in
    ap (list_all is_short) (sym (distinct_behind-none (declared_chains names decls)))
    ∙ distinct_chains-all is_short (declared_chains names decls) [] refl
    (flat_map-all is_chain_decl is_short (λ (d : ChainDecl). chain_with d (scan_out_of names (out_in d.stmts)))
    (λ d h. chain_with-short d (scan_out_of names (out_in d.stmts)) (stmts_of d h)) decls
    (named-all blocks.scans (exec_scans blocks e) one.each_scan_block))
