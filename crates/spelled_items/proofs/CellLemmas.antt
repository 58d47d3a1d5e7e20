-- The cells that are read of a ScanCells statement are those that its tokens spell.
use Rattle.std.proofs.Common.{◌≡◌, ◌<◌, ℕ, Bool, true, false, List, [], ◌∷◌, ◌++◌, length, Option, Some, None, Ok, Err, cond, nat_le, refl, sym, ap, subst, ◌∙◌, arith}
use Rattle.std.specs.List.{list_all}
use Rattle.std.proofs.lemmas.Bool.{leb-true, le-leb, and_parts, and_from, cond-true, cond-false}
use Rattle.stil_form.specs.declared.fault.FormFault.{FormFault}
use Rattle.stil_form.specs.declared.fault.FormFault.TheVariants.{Refused}
use Rattle.stil_form.specs.declared.fault.FormKind.{FormKind}
use Rattle.stil_form.specs.declared.fault.FormKind.TheVariants.{Shape, OutOfRange}
use Rattle.stil_form.specs.declared.part.SignKind.TheVariants as mark
use Rattle.stil_form.specs.Lexeme.{Lexeme, sign}
use Rattle.stil_form.specs.Words.{named_by}
use Rattle.stil_form.specs.Fronts.{index_by}
use Rattle.stil_form.specs.Setting.{at_statement}
use Rattle.text_bytes.specs.Limits.{most_cells}
use Rattle.stil_ast.specs.Data.BlockForms.{cell_count}
use Rattle.stil_ast.specs.declared.name.NameRef.{NameRef}
use Rattle.stil_ast.proofs.GroupItems.{none_is_some}
use Rattle.scan_blocks.specs.Cells.{alone, cell_within, joined, cells_spelled, has_small, are_within, within_limits, cells_said}
use Rattle.scan_blocks.proofs.WorkingLemmas.{cell_by, name_by}
use Rattle.pat_read.proofs.AcceptedLemmas.{said_at}
use Rattle.spelled_items.specs.SpelledCells.{SpellsCells, no_cells, skipped, one_name, one_index, one_range, AreWithin, AreCells, IsCellFault, no_token, no_spelling, beyond_limits}
use Rattle.spelled_items.specs.Laws.{CellsAreSpelled, CellsAreRefused}

-- a name opens no indices
no_open : (one : Lexeme) (called : List ℕ) → named_by one ≡ Some called → one ≡ sign mark.Open → ⊥
no_open one called is same = none_is_some called (sym (ap named_by same) ∙ is)

-- a token in front of one that opens no indices
before_other : (one other : Lexeme) (ls : List Lexeme) → (other ≡ sign mark.Open → ⊥)
    → cells_spelled (one ∷ other ∷ ls) ≡ joined (alone one) (cells_spelled (other ∷ ls))
before_other one (sign mark.Open) ls apart = absurd (apart refl)
before_other one other ls apart = refl

-- a token in front of cells that are spelled
before_cells : (one : Lexeme) (ls : List Lexeme) (cells : List NameRef) → SpellsCells ls cells
    → cells_spelled (one ∷ ls) ≡ joined (alone one) (cells_spelled ls)
before_cells one _ _ no_cells = refl
before_cells one _ _ (skipped rest cells more) = refl
before_cells one _ _ (one_name other called rest cells is more) =
    before_other one other rest (no_open other called is)
before_cells one _ _ (one_index other at called index rest cells is at_is more) =
    before_other one other (sign mark.Open ∷ at ∷ sign mark.Close ∷ rest) (no_open other called is)
before_cells one _ _ (one_range other from to called low high rest cells is from_is to_is more) =
    before_other one other (sign mark.Open ∷ from ∷ sign mark.Dot ∷ sign mark.Dot ∷ to ∷ sign mark.Close ∷ rest)
    (no_open other called is)

-- a name by itself
name_alone : (one : Lexeme) (called : List ℕ) → named_by one ≡ Some called
    → alone one ≡ Some (record { name = called; range = None } ∷ [])
name_alone (sign mark.Bang) called is = cc
name_alone one called is = ap name_by is

-- cells of the relation are those of the reading
spelled_is : (ls : List Lexeme) (cells : List NameRef) → SpellsCells ls cells → cells_spelled ls ≡ Some cells
spelled_is _ _ no_cells = refl
spelled_is _ _ (skipped rest cells more) =
    before_cells (sign mark.Bang) rest cells more ∙ ap (joined (Some [])) (spelled_is rest cells more)
spelled_is _ _ (one_name one called rest cells is more) =
    before_cells one rest cells more ∙ ap (λ front. joined front (cells_spelled rest)) (name_alone one called is)
    ∙ ap (joined (Some (record { name = called; range = None } ∷ []))) (spelled_is rest cells more)
spelled_is _ _ (one_index one at called index rest cells is at_is more) =
    ap (λ o. joined (cell_by o (index_by at) (index_by at)) (cells_spelled rest)) is
    ∙ ap (λ i. joined (cell_by (Some called) i i) (cells_spelled rest)) at_is
    ∙ ap (joined (cell_by (Some called) (Some index) (Some index))) (spelled_is rest cells more)
spelled_is _ _ (one_range one from to called low high rest cells is from_is to_is more) =
    ap (λ o. joined (cell_by o (index_by from) (index_by to)) (cells_spelled rest)) is
    ∙ ap (λ i. joined (cell_by (Some called) i (index_by to)) (cells_spelled rest)) from_is
    ∙ ap (λ i. joined (cell_by (Some called) (Some low) i) (cells_spelled rest)) to_is
    ∙ ap (joined (cell_by (Some called) (Some low) (Some high))) (spelled_is rest cells more)

-- what is joined: cells, and others behind them
record Joined (front behind : Option (List NameRef)) (all : List NameRef) : Type 0 where
  cells : List NameRef
  others : List NameRef
  are : front ≡ Some cells
  are_behind : behind ≡ Some others
  joins : cells ++ others ≡ all

joined_parts : (front behind : Option (List NameRef)) (all : List NameRef) → joined front behind ≡ Some all
    → Joined front behind all
joined_parts None behind all is = cc
joined_parts (Some cells) None all is = cc
joined_parts (Some cells) (Some others) all is =
    record { cells = cells; others = others; are = refl; are_behind = refl; joins = cc }

-- a token by itself in front of cells
name_spelled : (one : Lexeme) (ls : List Lexeme) (cells others : List NameRef) (o : Option (List ℕ))
    → named_by one ≡ o → name_by o ≡ Some cells
    → SpellsCells ls others → SpellsCells (one ∷ ls) (cells ++ others)
name_spelled one ls cells others None is front more = cc
name_spelled one ls cells others (Some called) is front more =
    let same : record { name = called; range = None } ∷ [] ≡ cells = cc in
    subst (λ (xs : List NameRef). SpellsCells (one ∷ ls) (xs ++ others)) same (one_name one called ls others is more)

alone_spelled : (one : Lexeme) (ls : List Lexeme) (cells others : List NameRef) → alone one ≡ Some cells
    → SpellsCells ls others → SpellsCells (one ∷ ls) (cells ++ others)
alone_spelled (sign mark.Bang) ls cells others front more =
    let same : [] ≡ cells = cc in
    subst (λ (xs : List NameRef). SpellsCells (sign mark.Bang ∷ ls) (xs ++ others)) same (skipped ls others more)
alone_spelled one ls cells others front more = name_spelled one ls cells others (named_by one) refl front more

-- a cell with one index in front of cells
index_spelled : (one at : Lexeme) (ls : List Lexeme) (cells others : List NameRef) (o : Option (List ℕ))
    (i : Option ℕ) → named_by one ≡ o → index_by at ≡ i → cell_by o i i ≡ Some cells → SpellsCells ls others
    → SpellsCells (one ∷ sign mark.Open ∷ at ∷ sign mark.Close ∷ ls) (cells ++ others)
index_spelled one at ls cells others o None is at_is front more = cc
index_spelled one at ls cells others None (Some index) is at_is front more = cc
index_spelled one at ls cells others (Some called) (Some index) is at_is front more =
    let same : record { name = called; range = Some (record { first = index; last = index }) } ∷ [] ≡ cells = cc in
    subst (λ (xs : List NameRef). SpellsCells (one ∷ sign mark.Open ∷ at ∷ sign mark.Close ∷ ls) (xs ++ others)) same
    (one_index one at called index ls others is at_is more)

-- a cell with two indices in front of cells
range_spelled : (one from to : Lexeme) (ls : List Lexeme) (cells others : List NameRef) (o : Option (List ℕ))
    (i j : Option ℕ) → named_by one ≡ o → index_by from ≡ i → index_by to ≡ j → cell_by o i j ≡ Some cells
    → SpellsCells ls others
    → SpellsCells (one ∷ sign mark.Open ∷ from ∷ sign mark.Dot ∷ sign mark.Dot ∷ to ∷ sign mark.Close ∷ ls) (cells ++ others)
range_spelled one from to ls cells others o None j is from_is to_is front more = cc
range_spelled one from to ls cells others o (Some low) None is from_is to_is front more = cc
range_spelled one from to ls cells others None (Some low) (Some high) is from_is to_is front more = cc
range_spelled one from to ls cells others (Some called) (Some low) (Some high) is from_is to_is front more =
    let same : record { name = called; range = Some (record { first = low; last = high }) } ∷ [] ≡ cells = cc in
    subst (λ (xs : List NameRef).
    SpellsCells (one ∷ sign mark.Open ∷ from ∷ sign mark.Dot ∷ sign mark.Dot ∷ to ∷ sign mark.Close ∷ ls) (xs ++ others)) same
    (one_range one from to called low high ls others is from_is to_is more)

-- cells of the reading are those of the relation
is_spelled : (ls : List Lexeme) (cells : List NameRef) → cells_spelled ls ≡ Some cells → SpellsCells ls cells
is_spelled [] cells is = let same : [] ≡ cells = cc in subst (SpellsCells []) same no_cells
is_spelled (one ∷ sign mark.Open ∷ at ∷ sign mark.Close ∷ rest) cells is =
    let j = joined_parts (cell_within one at at) (cells_spelled rest) cells is in
    subst (SpellsCells (one ∷ sign mark.Open ∷ at ∷ sign mark.Close ∷ rest)) j.joins
    (index_spelled one at rest j.cells j.others (named_by one) (index_by at) refl refl j.are
    (is_spelled rest j.others j.are_behind))
is_spelled (one ∷ sign mark.Open ∷ from ∷ sign mark.Dot ∷ sign mark.Dot ∷ to ∷ sign mark.Close ∷ rest) cells is =
    let j = joined_parts (cell_within one from to) (cells_spelled rest) cells is in
    subst (SpellsCells (one ∷ sign mark.Open ∷ from ∷ sign mark.Dot ∷ sign mark.Dot ∷ to ∷ sign mark.Close ∷ rest)) j.joins
    (range_spelled one from to rest j.cells j.others (named_by one) (index_by from) (index_by to) refl refl refl j.are
    (is_spelled rest j.others j.are_behind))
is_spelled (one ∷ rest) cells is =
    let j = joined_parts (alone one) (cells_spelled rest) cells is in
    subst (SpellsCells (one ∷ rest)) j.joins
    (alone_spelled one rest j.cells j.others j.are (is_spelled rest j.others j.are_behind))

-- cells within their limits, by the test
within_so : (cells : List NameRef) → AreWithin cells → are_within cells ≡ true
within_so cells w =
    and_from (list_all has_small cells) (nat_le (cell_count cells) most_cells) w.small (le-leb (cell_count cells) most_cells w.few)

so_within : (cells : List NameRef) → are_within cells ≡ true → AreWithin cells
so_within cells is =
    let parts = and_parts (list_all has_small cells) (nat_le (cell_count cells) most_cells) is in
    record { small = parts.0; few = leb-true (cell_count cells) most_cells parts.1 }

-- what is read of a token at least
said_from : (first : ℕ) (ls : List Lexeme) (spelled : Option (List NameRef)) → 0 < length ls
    → cells_spelled ls ≡ spelled → cells_said first ls ≡ at_statement first (within_limits spelled)
said_from first [] spelled some is = absurd (omega (arith, some))
said_from first (l ∷ ls) spelled some is = ap (λ o. at_statement first (within_limits o)) is

-- the cells of the relation are read
cells_read : (first : ℕ) (ls : List Lexeme) (cells : List NameRef) → AreCells ls cells → cells_said first ls ≡ Ok cells
cells_read first ls cells a =
    said_from first ls (Some cells) a.some (spelled_is ls cells a.spelled)
    ∙ ap (at_statement first) (cond-true (are_within cells) _ _ (within_so cells a.within))

-- what is read is spelled
within_by : (ls : List Lexeme) (spelled cells : List NameRef) (b : Bool) → are_within spelled ≡ b → 0 < length ls
    → SpellsCells ls spelled → cond b (Ok spelled) (Err OutOfRange) ≡ Ok cells → AreCells ls cells
within_by ls spelled cells true within some s is =
    let same : spelled ≡ cells = cc in
    subst (AreCells ls) same (record { some = some; spelled = s; within = so_within spelled within })
within_by ls spelled cells false within some s is = cc

read_by : (ls : List Lexeme) (cells : List NameRef) (spelled : Option (List NameRef)) → 0 < length ls
    → cells_spelled ls ≡ spelled → within_limits spelled ≡ Ok cells → AreCells ls cells
read_by ls cells None some spelled is = cc
read_by ls cells (Some found) some spelled is =
    within_by ls found cells (are_within found) refl some (is_spelled ls found spelled) is

read_cells : (first : ℕ) (ls : List Lexeme) (cells : List NameRef) → cells_said first ls ≡ Ok cells → AreCells ls cells
read_cells first [] cells is = cc
read_cells first (l ∷ ls) cells is =
    read_by (l ∷ ls) cells (cells_spelled (l ∷ ls)) (omega (arith)) refl
    (said_at first (within_limits (cells_spelled (l ∷ ls))) cells is)

-- the fault of tokens
abbrev HasFault : ℕ → List Lexeme → FormFault → Type 0
HasFault first ls fault = (kind : FormKind) × (fault ≡ Refused kind first) × IsCellFault ls kind

-- no cells are spelled where there is no reading
none_spelled : (ls : List Lexeme) → cells_spelled ls ≡ None → (cells : List NameRef) → SpellsCells ls cells → ⊥
none_spelled ls none cells s = none_is_some cells (sym none ∙ spelled_is ls cells s)

-- what is refused has its fault
beyond_by : (first : ℕ) (ls : List Lexeme) (fault : FormFault) (found : List NameRef) (b : Bool)
    → are_within found ≡ b → 0 < length ls → SpellsCells ls found
    → at_statement first (cond b (Ok found) (Err OutOfRange)) ≡ Err fault → HasFault first ls fault
beyond_by first ls fault found true within some s is = cc
beyond_by first ls fault found false within some s is =
    (OutOfRange, cc, beyond_limits ls found some s (λ w. let never : true ≡ false = sym (within_so found w) ∙ within in cc))

refused_by : (first : ℕ) (ls : List Lexeme) (fault : FormFault) (spelled : Option (List NameRef)) → 0 < length ls
    → cells_spelled ls ≡ spelled → at_statement first (within_limits spelled) ≡ Err fault → HasFault first ls fault
refused_by first ls fault None some spelled is = (Shape, cc, no_spelling ls (none_spelled ls spelled))
refused_by first ls fault (Some found) some spelled is =
    beyond_by first ls fault found (are_within found) refl some (is_spelled ls found spelled) is

refused_cells : (first : ℕ) (ls : List Lexeme) (fault : FormFault) → cells_said first ls ≡ Err fault
    → HasFault first ls fault
refused_cells first [] fault is = (Shape, cc, no_token)
refused_cells first (l ∷ ls) fault is =
    refused_by first (l ∷ ls) fault (cells_spelled (l ∷ ls)) (omega (arith)) refl is

-- tokens that spell no cells are refused
shape_by : (first : ℕ) (l : Lexeme) (ls : List Lexeme) (spelled : Option (List NameRef))
    → cells_spelled (l ∷ ls) ≡ spelled → ((cells : List NameRef) → SpellsCells (l ∷ ls) cells → ⊥)
    → at_statement first (within_limits spelled) ≡ Err (Refused Shape first)
shape_by first l ls None is none = refl
shape_by first l ls (Some found) is none = absurd (none found (is_spelled (l ∷ ls) found is))

shape_said : (first : ℕ) (ls : List Lexeme) → ((cells : List NameRef) → SpellsCells ls cells → ⊥)
    → cells_said first ls ≡ Err (Refused Shape first)
shape_said first [] none = refl
shape_said first (l ∷ ls) none = shape_by first l ls (cells_spelled (l ∷ ls)) refl none

-- cells that are not within their limits, by the test
not_within : (cells : List NameRef) (b : Bool) → are_within cells ≡ b → (AreWithin cells → ⊥) → b ≡ false
not_within cells true is beyond = absurd (beyond (so_within cells is))
not_within cells false is beyond = refl

-- what has a fault is refused
fault_said : (first : ℕ) (ls : List Lexeme) (kind : FormKind) → IsCellFault ls kind
    → cells_said first ls ≡ Err (Refused kind first)
fault_said first _ _ no_token = refl
fault_said first _ _ (no_spelling ls none) = shape_said first ls none
fault_said first _ _ (beyond_limits ls cells some s beyond) =
    said_from first ls (Some cells) some (spelled_is ls cells s)
    ∙ ap (at_statement first) (cond-false (are_within cells) _ _ (not_within cells (are_within cells) refl beyond))

-- the cells that are read are those that the tokens spell
pub cells_are_spelled : CellsAreSpelled
cells_are_spelled = λ first ls cells. (cells_read first ls cells, read_cells first ls cells)

-- cells are refused where the tokens have a fault, and for this fault
pub cells_are_refused : CellsAreRefused
cells_are_refused = λ first ls fault. (
  λ kind same is. fault_said first ls kind is ∙ ap (λ f. Err f) (sym same),
  refused_cells first ls fault,
)
