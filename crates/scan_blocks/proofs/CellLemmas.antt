-- The cells of a ScanCells statement that is read have their form, and are not too many.
use Rattle.std.proofs.Common.{◌≡◌, ℕ, true, nat_le, nat_lt, ◌^◌, List, [], ◌∷◌, Option, Some, None, Ok, refl, subst, ◌∙◌}
use Rattle.std.specs.Prelude.{option_map}
use Rattle.std.specs.Option.{option_and_then}
use Rattle.std.specs.List.{list_all}
use Rattle.std.specs.Cmp.Derive.{both_true}
use Rattle.std.proofs.lemmas.Bool.{and_parts, and_from}
use Rattle.std.proofs.lemmas.List.Folds.{list_all-append}
use Rattle.stil_form.specs.declared.fault.FormKind.TheVariants.{OutOfRange}
use Rattle.stil_form.specs.declared.part.SignKind.TheVariants as mark
use Rattle.stil_form.specs.Lexeme.{Lexeme, sign}
use Rattle.stil_form.specs.Words.{named_by}
use Rattle.text_bytes.specs.Limits.{most_cells}
use Rattle.stil_ast.specs.Data.Texts.{is_name}
use Rattle.stil_ast.specs.Data.Forms.{is_absent_or, is_range, is_name_ref}
use Rattle.stil_ast.specs.Data.BlockForms.{cell_count}
use Rattle.stil_ast.specs.declared.name.IndexRange.{IndexRange}
use Rattle.stil_ast.specs.declared.name.NameRef.{NameRef}
use Rattle.scan_blocks.specs.Cells.{cell_named, alone, range_by, cell_within, joined, cells_spelled, are_small, has_small, are_within, within_limits, cells_said}
use Rattle.pat_read.proofs.AcceptedLemmas.{said_at, small, is_name-named_by}
use Rattle.block_forms.proofs.FormLemmas.{made_where}

-- each cell that may be spelled has a name
abbrev Named : Option (List NameRef) → Type 0
Named None = Unit {0}
Named (Some cells) = list_all (λ (c : NameRef). is_name c.name) cells ≡ true

-- a cell that a token may name
named_by_one : (range : Option IndexRange) (o : Option (List ℕ)) → ((c : List ℕ) → o ≡ Some c → is_name c ≡ true)
    → Named (option_map (λ called. record { name = called; range = range } ∷ []) o)
named_by_one range None named = tt
named_by_one range (Some called) named = and_from (is_name called) true (named called refl) refl

one_named : (range : Option IndexRange) (one : Lexeme) → Named (cell_named range one)
one_named range one = named_by_one range (named_by one) (is_name-named_by one)

alone_named : (one : Lexeme) → Named (alone one)
alone_named (sign mark.Bang) = refl
alone_named one = one_named None one

-- the same with what may be indices
ranged_named : (range : Option IndexRange) (one : Lexeme)
    → Named (option_and_then (λ (r : IndexRange). cell_named (Some r) one) range)
ranged_named None one = tt
ranged_named (Some range) one = one_named (Some range) one

-- cells and others behind them
joined_named : (cells others : Option (List NameRef)) → Named cells → Named others → Named (joined cells others)
joined_named None others named behind = tt
joined_named (Some cells) None named behind = tt
joined_named (Some cells) (Some others) named behind =
    list_all-append (λ (c : NameRef). is_name c.name) cells others
    ∙ and_from (list_all (λ (c : NameRef). is_name c.name) cells) (list_all (λ (c : NameRef). is_name c.name) others) named behind

-- each cell that tokens spell has a name
spelled_named : (ls : List Lexeme) → Named (cells_spelled ls)
spelled_named [] = refl
spelled_named (one ∷ sign mark.Open ∷ at ∷ sign mark.Close ∷ rest) =
    joined_named (cell_within one at at) (cells_spelled rest) (ranged_named (range_by at at) one) (spelled_named rest)
spelled_named (one ∷ sign mark.Open ∷ from ∷ sign mark.Dot ∷ sign mark.Dot ∷ to ∷ sign mark.Close ∷ rest) =
    joined_named (cell_within one from to) (cells_spelled rest) (ranged_named (range_by from to) one) (spelled_named rest)
spelled_named (one ∷ rest) = joined_named (alone one) (cells_spelled rest) (alone_named one) (spelled_named rest)

-- indices of 32 bits
range_fits : (range : Option IndexRange) → are_small range ≡ true → is_absent_or is_range range ≡ true
range_fits None is = refl
range_fits (Some range) is =
    let parts = and_parts (nat_lt range.first (2 ^ 32)) (nat_lt range.last (2 ^ 32)) is in
    both_true (small range.first parts.0) (small range.last parts.1)

-- cells with names and such indices have their form
have_form : (cells : List NameRef) → list_all (λ (c : NameRef). is_name c.name) cells ≡ true
    → list_all has_small cells ≡ true → list_all is_name_ref cells ≡ true
have_form [] named is = refl
have_form (c ∷ cells) named is =
    let names = and_parts (is_name c.name) (list_all (λ (d : NameRef). is_name d.name) cells) named in
    let smalls = and_parts (has_small c) (list_all has_small cells) is in
    both_true (both_true names.0 (range_fits c.range smalls.0)) (have_form cells names.1 smalls.1)

-- the cells within their limits
abbrev AreCells : List NameRef → Type 0
AreCells cells = (list_all is_name_ref cells ≡ true) × (nat_le (cell_count cells) most_cells ≡ true)

within_are : (spelled : Option (List NameRef)) (cells : List NameRef) → Named spelled
    → within_limits spelled ≡ Ok cells → AreCells cells
within_are None cells named is = cc
within_are (Some spelled) cells named is =
    let parts = made_where (are_within spelled) OutOfRange spelled cells is in
    let limits = and_parts (list_all has_small spelled) (nat_le (cell_count spelled) most_cells) parts.0 in
    subst AreCells parts.1 (have_form spelled named limits.0, limits.1)

-- cells that are read have their form
pub cells_said-are : (first : ℕ) (ls : List Lexeme) (cells : List NameRef) → cells_said first ls ≡ Ok cells
    → AreCells cells
cells_said-are first [] cells is = cc
cells_said-are first (one ∷ rest) cells is =
    within_are (cells_spelled (one ∷ rest)) cells (spelled_named (one ∷ rest))
    (said_at first (within_limits (cells_spelled (one ∷ rest))) cells is)
