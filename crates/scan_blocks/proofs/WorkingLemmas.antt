-- One pass over the tokens of a ScanCells statement gives the cells that they spell.
use Rattle.std.proofs.Common.{◌≡◌, ℕ, List, [], ◌∷◌, Option, Some, None, Result, Err, refl, sym, ap, ◌∙◌}
use Rattle.std.specs.Prelude.{option_map}
use Rattle.std.specs.Option.{option_and_then}
use Rattle.stil_form.specs.declared.fault.FormFault.{FormFault}
use Rattle.stil_form.specs.declared.fault.FormFault.TheVariants.{Refused}
use Rattle.stil_form.specs.declared.fault.FormKind.TheVariants.{Shape}
use Rattle.stil_form.specs.declared.part.SignKind.TheVariants as mark
use Rattle.stil_form.specs.Lexeme.{Lexeme, word, name, text, sign}
use Rattle.stil_form.specs.Words.{named_by}
use Rattle.stil_form.specs.Fronts.{index_by, indices_of}
use Rattle.stil_form.specs.Setting.{at_statement}
use Rattle.answers.specs.Reading.{and_then, stepping}
use Rattle.stil_ast.specs.declared.name.IndexRange.{IndexRange}
use Rattle.stil_ast.specs.declared.name.NameRef.{NameRef}
use Rattle.stil_ast.proofs.GroupItems.{none_is_some}
use Rattle.scan_blocks.specs.declared.cells.CellsRead.{CellsRead}
use Rattle.scan_blocks.specs.Cells as definition
use Rattle.scan_blocks.specs.Cells.{alone, joined, cells_spelled, cells_said}
use Rattle.scan_blocks.specs.Working.{no_cells, with_cell, with_indices, named_cell, cell_begins, first_index, last_index, within_limits, ended, cells_step, cells_worked}
use Rattle.scan_blocks.proofs.LimitLemmas.{Left, one_added, added, limits}

-- what is read of tokens behind others
abbrev finished : ℕ → Result CellsRead FormFault → List Lexeme → Result (List NameRef) FormFault
finished first so_far ls =
    and_then (and_then so_far (λ r. stepping (cells_step first) r ls)) (λ read.
    at_statement first (ended read.cells read.awaited))

-- the same behind cells, where another one may begin
abbrev run : ℕ → Left → List Lexeme → Result (List NameRef) FormFault
run first c ls = finished first (at_statement first (cell_begins c (sign mark.Bang))) ls

-- the same behind a name
abbrev run_named : ℕ → Left → List ℕ → List Lexeme → Result (List NameRef) FormFault
run_named first c called ls = finished first (at_statement first (named_cell c (Some called))) ls

-- the same behind a name, a `[` and what may be an index
abbrev run_index : ℕ → Left → List ℕ → Option ℕ → List Lexeme → Result (List NameRef) FormFault
run_index first c called o ls = finished first (at_statement first (first_index c called o)) ls

-- the same behind what may be the last index
abbrev run_last : ℕ → Left → List ℕ → ℕ → Option ℕ → List Lexeme → Result (List NameRef) FormFault
run_last first c called low o ls = finished first (at_statement first (last_index c called low o)) ls

-- the fault of tokens that spell no cells
abbrev no_form : ℕ → Result (List NameRef) FormFault
no_form first = Err (Refused Shape first)

-- a token that may be a name, by what it names
by_name : (first : ℕ) (c : Left) (one : Lexeme) (o : Option (List ℕ)) (ls : List Lexeme) → named_by one ≡ o
    → (one ≡ sign mark.Bang → ⊥) → run first c (one ∷ ls) ≡ finished first (at_statement first (named_cell c o)) ls
by_name first c (word bytes) o ls is apart = ap (λ n. finished first (at_statement first (named_cell c n)) ls) is
by_name first c (name bytes) o ls is apart = ap (λ n. finished first (at_statement first (named_cell c n)) ls) is
by_name first c (text bytes) o ls is apart = ap (λ n. finished first (at_statement first (named_cell c n)) ls) is
by_name first c (sign mark.Bang) o ls is apart = absurd (apart refl)
by_name first c (sign kind) o ls is apart = ap (λ n. finished first (at_statement first (named_cell c n)) ls) is

-- a name is no `!`
no_bang : (one : Lexeme) (called : List ℕ) → named_by one ≡ Some called → one ≡ sign mark.Bang → ⊥
no_bang one called is same = none_is_some called (sym (ap named_by same) ∙ is)

-- a name in front
named_front : (first : ℕ) (c : Left) (one : Lexeme) (called : List ℕ) (ls : List Lexeme) → named_by one ≡ Some called
    → run first c (one ∷ ls) ≡ run_named first c called ls
named_front first c one called ls is = by_name first c one (Some called) ls is (no_bang one called is)

-- what is no name in front of a `[`
none_open : (first : ℕ) (c : Left) (one : Lexeme) (ls : List Lexeme) → named_by one ≡ None
    → run first c (one ∷ sign mark.Open ∷ ls) ≡ no_form first
none_open first c (sign mark.Bang) ls is = refl
none_open first c (word bytes) ls is = by_name first c (word bytes) None (sign mark.Open ∷ ls) is (λ e. cc)
none_open first c (name bytes) ls is = by_name first c (name bytes) None (sign mark.Open ∷ ls) is (λ e. cc)
none_open first c (text bytes) ls is = by_name first c (text bytes) None (sign mark.Open ∷ ls) is (λ e. cc)
none_open first c (sign kind) ls is = by_name first c (sign kind) None (sign mark.Open ∷ ls) is (λ e. cc)

-- the cells that may be spelled, behind others
abbrev told : ℕ → Left → Option (List NameRef) → Result (List NameRef) FormFault
told first c None = no_form first
told first c (Some cells) = at_statement first (within_limits (added c cells))

-- one cell more in front of others
told-one : (first : ℕ) (c : Left) (x : NameRef) (others : Option (List NameRef))
    → told first (one_added c x) others ≡ told first c (joined (Some (x ∷ [])) others)
told-one first c x None = refl
told-one first c x (Some cells) = refl

-- nothing in front of others
told-none : (first : ℕ) (c : Left) (others : Option (List NameRef))
    → told first c others ≡ told first c (joined (Some []) others)
told-none first c None = refl
told-none first c (Some cells) = refl

-- what has no form in front of others, or behind them
nothing_behind : (cells : Option (List NameRef)) → joined cells None ≡ None
nothing_behind None = refl
nothing_behind (Some cells) = refl

-- tokens that are to spell this
abbrev AreTold : ℕ → List Lexeme → Option (List NameRef) → Type 0
AreTold first ls others = (c : Left) → run first c ls ≡ told first c others

-- the cell of what may be a name, with what may be two indices
abbrev pub cell_by : Option (List ℕ) → Option ℕ → Option ℕ → Option (List NameRef)
cell_by o low high =
    option_and_then (λ (range : IndexRange).
    option_map (λ called. record { name = called; range = Some range } ∷ []) o)
    (option_and_then (λ first. option_map (λ last. record { first = first; last = last }) high) low)

-- without a name there is none
no_name : (low high : Option ℕ) → cell_by None low high ≡ None
no_name None high = refl
no_name (Some low) None = refl
no_name (Some low) (Some high) = refl

-- a cell with one index in front
one_by : (first : ℕ) (c : Left) (one at : Lexeme) (ls : List Lexeme) (others : Option (List NameRef))
    (o : Option (List ℕ)) (i : Option ℕ) → named_by one ≡ o → index_by at ≡ i → AreTold first ls others
    → run first c (one ∷ sign mark.Open ∷ at ∷ sign mark.Close ∷ ls) ≡ told first c (joined (cell_by o i i) others)
one_by first c one at ls others None i is at_is later =
    none_open first c one (at ∷ sign mark.Close ∷ ls) is
    ∙ sym (ap (λ cells. told first c (joined cells others)) (no_name i i))
one_by first c one at ls others (Some called) None is at_is later =
    named_front first c one called (sign mark.Open ∷ at ∷ sign mark.Close ∷ ls) is
    ∙ ap (λ i. run_index first c called i (sign mark.Close ∷ ls)) at_is
one_by first c one at ls others (Some called) (Some index) is at_is later =
    named_front first c one called (sign mark.Open ∷ at ∷ sign mark.Close ∷ ls) is
    ∙ ap (λ i. run_index first c called i (sign mark.Close ∷ ls)) at_is
    ∙ later (with_indices c called (indices_of (record { first = index; last = index })))
    ∙ told-one first c (record { name = called; range = Some (record { first = index; last = index }) }) others

-- a name, an index, two dots and what may be the last index in front
up_to_last : (first : ℕ) (c : Left) (one from to : Lexeme) (called : List ℕ) (low : ℕ) (o : Option ℕ)
    (ls : List Lexeme) → named_by one ≡ Some called → index_by from ≡ Some low → index_by to ≡ o
    → run first c (one ∷ sign mark.Open ∷ from ∷ sign mark.Dot ∷ sign mark.Dot ∷ to ∷ ls)
    ≡ run_last first c called low o ls
up_to_last first c one from to called low o ls is from_is to_is =
    named_front first c one called (sign mark.Open ∷ from ∷ sign mark.Dot ∷ sign mark.Dot ∷ to ∷ ls) is
    ∙ ap (λ i. run_index first c called i (sign mark.Dot ∷ sign mark.Dot ∷ to ∷ ls)) from_is
    ∙ ap (λ i. run_last first c called low i ls) to_is

-- a cell with two indices in front
two_by : (first : ℕ) (c : Left) (one from to : Lexeme) (ls : List Lexeme) (others : Option (List NameRef))
    (o : Option (List ℕ)) (i j : Option ℕ) → named_by one ≡ o → index_by from ≡ i → index_by to ≡ j
    → AreTold first ls others
    → run first c (one ∷ sign mark.Open ∷ from ∷ sign mark.Dot ∷ sign mark.Dot ∷ to ∷ sign mark.Close ∷ ls)
    ≡ told first c (joined (cell_by o i j) others)
two_by first c one from to ls others None i j is from_is to_is later =
    none_open first c one (from ∷ sign mark.Dot ∷ sign mark.Dot ∷ to ∷ sign mark.Close ∷ ls) is
    ∙ sym (ap (λ cells. told first c (joined cells others)) (no_name i j))
two_by first c one from to ls others (Some called) None j is from_is to_is later =
    named_front first c one called (sign mark.Open ∷ from ∷ sign mark.Dot ∷ sign mark.Dot ∷ to ∷ sign mark.Close ∷ ls) is
    ∙ ap (λ n. run_index first c called n (sign mark.Dot ∷ sign mark.Dot ∷ to ∷ sign mark.Close ∷ ls)) from_is
two_by first c one from to ls others (Some called) (Some low) None is from_is to_is later =
    up_to_last first c one from to called low None (sign mark.Close ∷ ls) is from_is to_is
two_by first c one from to ls others (Some called) (Some low) (Some high) is from_is to_is later =
    up_to_last first c one from to called low (Some high) (sign mark.Close ∷ ls) is from_is to_is
    ∙ later (with_indices c called (indices_of (record { first = low; last = high })))
    ∙ told-one first c (record { name = called; range = Some (record { first = low; last = high }) }) others

-- a `[` begins no cells
open_by : (low high : Option ℕ) (others : Option (List NameRef)) → joined (cell_by None low high) others ≡ None
open_by low high others = ap (λ cells. joined cells others) (no_name low high)

open_spells : (ls : List Lexeme) → cells_spelled (sign mark.Open ∷ ls) ≡ None
open_spells (sign mark.Open ∷ at ∷ sign mark.Close ∷ rest) = open_by (index_by at) (index_by at) (cells_spelled rest)
open_spells (sign mark.Open ∷ from ∷ sign mark.Dot ∷ sign mark.Dot ∷ to ∷ sign mark.Close ∷ rest) =
    open_by (index_by from) (index_by to) (cells_spelled rest)
open_spells ls = refl

-- a name whose `[` has no form behind it
malformed_by : (first : ℕ) (c : Left) (one : Lexeme) (ls : List Lexeme) (o : Option (List ℕ)) → named_by one ≡ o
    → ((called : List ℕ) → run_named first c called (sign mark.Open ∷ ls) ≡ no_form first)
    → run first c (one ∷ sign mark.Open ∷ ls) ≡ no_form first
malformed_by first c one ls None is none = none_open first c one ls is
malformed_by first c one ls (Some called) is none =
    named_front first c one called (sign mark.Open ∷ ls) is ∙ none called

malformed : (first : ℕ) (c : Left) (one : Lexeme) (ls : List Lexeme)
    → ((called : List ℕ) → run_named first c called (sign mark.Open ∷ ls) ≡ no_form first)
    → run first c (one ∷ sign mark.Open ∷ ls)
    ≡ told first c (joined (alone one) (cells_spelled (sign mark.Open ∷ ls)))
malformed first c one ls none =
    malformed_by first c one ls (named_by one) refl none
    ∙ sym (ap (told first c) (ap (joined (alone one)) (open_spells ls) ∙ nothing_behind (alone one)))

-- what has no form behind any index has none behind what may be an index
after_index : (first : ℕ) (c : Left) (called : List ℕ) (o : Option ℕ) (ls : List Lexeme)
    → ((low : ℕ) → run_index first c called (Some low) ls ≡ no_form first) → run_index first c called o ls ≡ no_form first
after_index first c called None ls none = refl
after_index first c called (Some low) ls none = none low

after_last : (first : ℕ) (c : Left) (called : List ℕ) (low : ℕ) (o : Option ℕ) (ls : List Lexeme)
    → ((high : ℕ) → run_last first c called low (Some high) ls ≡ no_form first)
    → run_last first c called low o ls ≡ no_form first
after_last first c called low None ls none = refl
after_last first c called low (Some high) ls none = none high

-- indices without form
bad_index : (first : ℕ) (c : Left) (one at : Lexeme) (ls : List Lexeme)
    → ((called : List ℕ) (low : ℕ) → run_index first c called (Some low) ls ≡ no_form first)
    → run first c (one ∷ sign mark.Open ∷ at ∷ ls)
    ≡ told first c (joined (alone one) (cells_spelled (sign mark.Open ∷ at ∷ ls)))
bad_index first c one at ls none =
    malformed first c one (at ∷ ls) (λ called. after_index first c called (index_by at) ls (none called))

bad_last : (first : ℕ) (c : Left) (one from to : Lexeme) (ls : List Lexeme)
    → ((called : List ℕ) (low high : ℕ) → run_last first c called low (Some high) ls ≡ no_form first)
    → run first c (one ∷ sign mark.Open ∷ from ∷ sign mark.Dot ∷ sign mark.Dot ∷ to ∷ ls)
    ≡ told first c (joined (alone one) (cells_spelled (sign mark.Open ∷ from ∷ sign mark.Dot ∷ sign mark.Dot ∷ to ∷ ls)))
bad_last first c one from to ls none =
    bad_index first c one from (sign mark.Dot ∷ sign mark.Dot ∷ to ∷ ls)
    (λ called low. after_last first c called low (index_by to) ls (none called low))

-- the cell of what may be a name, without indices
abbrev pub name_by : Option (List ℕ) → Option (List NameRef)
name_by o = option_map (λ called. record { name = called; range = None } ∷ []) o

-- a token by itself
alone_by : (first : ℕ) (c : Left) (one : Lexeme) (ls : List Lexeme) (others : Option (List NameRef))
    (o : Option (List ℕ)) → named_by one ≡ o → (one ≡ sign mark.Bang → ⊥)
    → ((called : List ℕ) → run_named first c called ls ≡ run first (with_cell c called None) ls)
    → AreTold first ls others
    → run first c (one ∷ ls) ≡ told first c (joined (name_by o) others)
alone_by first c one ls others None is apart by_itself later = by_name first c one None ls is apart
alone_by first c one ls others (Some called) is apart by_itself later =
    named_front first c one called ls is ∙ by_itself called ∙ later (with_cell c called None)
    ∙ told-one first c (record { name = called; range = None }) others

alone_told : (first : ℕ) (c : Left) (one : Lexeme) (ls : List Lexeme) (others : Option (List NameRef))
    → ((called : List ℕ) → run_named first c called ls ≡ run first (with_cell c called None) ls)
    → AreTold first ls others → run first c (one ∷ ls) ≡ told first c (joined (alone one) others)
alone_told first c (sign mark.Bang) ls others by_itself later = later c ∙ told-none first c others
alone_told first c (word bytes) ls others by_itself later =
    alone_by first c (word bytes) ls others (named_by (word bytes)) refl (λ e. cc) by_itself later
alone_told first c (name bytes) ls others by_itself later =
    alone_by first c (name bytes) ls others (named_by (name bytes)) refl (λ e. cc) by_itself later
alone_told first c (text bytes) ls others by_itself later =
    alone_by first c (text bytes) ls others None refl (λ e. cc) by_itself later
alone_told first c (sign kind) ls others by_itself later =
    alone_by first c (sign kind) ls others None refl (λ e. cc) by_itself later

-- the tokens spell what is told of them
are_told : (first : ℕ) (ls : List Lexeme) (c : Left) → run first c ls ≡ told first c (cells_spelled ls)
are_told first [] c = refl
are_told first (one ∷ []) c = alone_told first c one [] (Some []) (λ called. refl) (λ d. refl)
are_told first (one ∷ sign mark.Open ∷ []) c = malformed first c one [] (λ called. refl)
are_told first (one ∷ sign mark.Open ∷ at ∷ sign mark.Close ∷ rest) c =
    one_by first c one at rest (cells_spelled rest) (named_by one) (index_by at) refl refl (are_told first rest)
are_told first (one ∷ sign mark.Open ∷ from ∷ sign mark.Dot ∷ sign mark.Dot ∷ to ∷ sign mark.Close ∷ rest) c =
    two_by first c one from to rest (cells_spelled rest) (named_by one) (index_by from) (index_by to) refl refl refl
    (are_told first rest)
are_told first (one ∷ sign mark.Open ∷ from ∷ sign mark.Dot ∷ sign mark.Dot ∷ []) c =
    bad_index first c one from (sign mark.Dot ∷ sign mark.Dot ∷ []) (λ called low. refl)
are_told first (one ∷ sign mark.Open ∷ from ∷ sign mark.Dot ∷ sign mark.Dot ∷ to ∷ ls) c =
    bad_last first c one from to ls (λ called low high. refl)
are_told first (one ∷ sign mark.Open ∷ at ∷ ls) c = bad_index first c one at ls (λ called low. refl)
are_told first (one ∷ l ∷ ls) c =
    alone_told first c one (l ∷ ls) (cells_spelled (l ∷ ls)) (λ called. refl) (are_told first (l ∷ ls))

-- before the first token
told_first : (first : ℕ) (spelled : Option (List NameRef))
    → told first no_cells spelled ≡ at_statement first (definition.within_limits spelled)
told_first first None = refl
told_first first (Some cells) = ap (at_statement first) (limits no_cells cells)

-- the cells by one pass are those of the definition
pub cells_worked-said : (first : ℕ) (ls : List Lexeme) → cells_worked first ls ≡ cells_said first ls
cells_worked-said first [] = refl
cells_worked-said first (one ∷ rest) =
    are_told first (one ∷ rest) no_cells ∙ told_first first (cells_spelled (one ∷ rest))
