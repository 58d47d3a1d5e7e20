-- The cells of a ScanCells statement (IEEE 1450-1999, clause 20).
use Rattle.std.specs.Prelude.{ℕ, ◌^◌, ◌&&◌, nat_le, nat_lt, Bool, true, List, [], ◌∷◌, ◌++◌, Option, Some, None, option_map, if◌then◌else◌, Result, Ok, Err}
use Rattle.std.specs.Option.{option_and_then}
use Rattle.std.specs.List.{list_all}
use Rattle.stil_form.specs.declared.fault.FormFault.{FormFault}
use Rattle.stil_form.specs.declared.fault.FormKind.{FormKind}
use Rattle.stil_form.specs.declared.fault.FormKind.TheVariants.{Shape, OutOfRange}
use Rattle.stil_form.specs.declared.part.SignKind.TheVariants.{Open, Close, Dot, Bang}
use Rattle.stil_form.specs.Lexeme.{Lexeme, sign}
use Rattle.stil_form.specs.Words.{named_by}
use Rattle.stil_form.specs.Fronts.{index_by}
use Rattle.stil_form.specs.Setting.{at_statement}
use Rattle.text_bytes.specs.Limits.{most_cells}
use Rattle.stil_ast.specs.Data.BlockForms.{cell_count}
use Rattle.stil_ast.specs.declared.name.IndexRange.{IndexRange}
use Rattle.stil_ast.specs.declared.name.NameRef.{NameRef}

-- the cell that a token names, with these indices or without
abbrev pub cell_named : Option IndexRange → Lexeme → Option (List NameRef)
cell_named range one = option_map (λ called. record { name = called; range = range } ∷ []) (named_by one)

-- what a token says by itself: a `!` nothing, and a name a cell
abbrev pub alone : Lexeme → Option (List NameRef)
alone (sign Bang) = Some []
alone one = cell_named None one

-- the indices from one token to another
abbrev pub range_by : Lexeme → Lexeme → Option IndexRange
range_by from to =
    option_and_then (λ first. option_map (λ last. record { first = first; last = last }) (index_by to)) (index_by from)

-- the cell that a token names, with the indices from one token to another
abbrev pub cell_within : Lexeme → Lexeme → Lexeme → Option (List NameRef)
cell_within one from to = option_and_then (λ range. cell_named (Some range) one) (range_by from to)

-- cells and others behind them, where both have their form
abbrev pub joined : Option (List NameRef) → Option (List NameRef) → Option (List NameRef)
joined cells others = option_and_then (λ before. option_map (λ behind. before ++ behind) others) cells

-- the cells that tokens spell, if they spell cells: each is `name`, `name[n]` or `name[n..m]`, and a `!` is skipped
abbrev pub cells_spelled : List Lexeme → Option (List NameRef)
cells_spelled [] = Some []
cells_spelled (one ∷ sign Open ∷ at ∷ sign Close ∷ rest) = joined (cell_within one at at) (cells_spelled rest)
cells_spelled (one ∷ sign Open ∷ from ∷ sign Dot ∷ sign Dot ∷ to ∷ sign Close ∷ rest) =
    joined (cell_within one from to) (cells_spelled rest)
cells_spelled (one ∷ rest) = joined (alone one) (cells_spelled rest)

-- the indices of a cell, where it has some, are at most 2^32 - 1
abbrev pub are_small : Option IndexRange → Bool
are_small None = true
are_small (Some range) = nat_lt range.first (2 ^ 32) && nat_lt range.last (2 ^ 32)

-- the same of the cell
abbrev pub has_small : NameRef → Bool
has_small cell = are_small cell.range

-- cells are within their limits: each index, and how many they are
abbrev pub are_within : List NameRef → Bool
are_within cells = list_all has_small cells && nat_le (cell_count cells) most_cells

-- the cells that are spelled: all tokens have their form before one is out of range
abbrev pub within_limits : Option (List NameRef) → Result (List NameRef) FormKind
within_limits None = Err Shape
within_limits (Some cells) = if are_within cells then Ok cells else Err OutOfRange

-- `cell cell ..` of the statement with this first token, which has a token at least
abbrev pub cells_said : ℕ → List Lexeme → Result (List NameRef) FormFault
cells_said first [] = at_statement first (Err Shape)
cells_said first (one ∷ rest) = at_statement first (within_limits (cells_spelled (one ∷ rest)))
