-- The cells of a ScanCells statement, token by token: what the code keeps from one token to the next. The definition of
-- the cells is in Cells; both give one result (`cells_worked-said`).
use Rattle.std.specs.Prelude.{ℕ, ◌-◌, nat_le, List, [], ◌∷◌, ◌++◌, Option, Some, None, if◌then◌else◌, Result, Ok, Err}
use Rattle.stil_form.specs.declared.fault.FormFault.{FormFault}
use Rattle.stil_form.specs.declared.fault.FormKind.{FormKind}
use Rattle.stil_form.specs.declared.fault.FormKind.TheVariants.{Shape, OutOfRange}
use Rattle.stil_form.specs.declared.part.SignKind.TheVariants.{Open, Close, Dot, Bang}
use Rattle.stil_form.specs.Lexeme.{Lexeme, sign}
use Rattle.stil_form.specs.Words.{named_by}
use Rattle.stil_form.specs.Fronts.{index_by, indices_of}
use Rattle.stil_form.specs.Setting.{at_statement}
use Rattle.answers.specs.Reading.{and_then, stepping}
use Rattle.text_bytes.specs.Limits.{most_cells}
use Rattle.stil_ast.specs.Data.BlockForms.{cell_size}
use Rattle.stil_ast.specs.declared.name.IndexRange.{IndexRange}
use Rattle.stil_ast.specs.declared.name.NameRef.{NameRef}
use Rattle.scan_blocks.specs.declared.cells.Awaited.{Awaited}
use Rattle.scan_blocks.specs.declared.cells.Awaited.TheVariants as awaited
use Rattle.scan_blocks.specs.declared.cells.CellsLeft.{CellsLeft}
use Rattle.scan_blocks.specs.declared.cells.CellsRead.{CellsRead}

-- before the first cell: as many as a chain may have are left
abbrev pub no_cells : Option CellsLeft
no_cells = Some (record { cells = []; left = most_cells })

-- a name, or one name for each index, where so many are left
abbrev pub with_cell : Option CellsLeft → List ℕ → Option IndexRange → Option CellsLeft
with_cell None called range = None
with_cell (Some before) called range =
    if nat_le (cell_size range) before.left
    then Some (record {
      cells = before.cells ++ record { name = called; range = range } ∷ [];
      left = before.left - cell_size range;
    })
    else None

-- indices, each at most 2^32 - 1
abbrev pub with_indices : Option CellsLeft → List ℕ → Option (ℕ × ℕ) → Option CellsLeft
with_indices cells called None = None
with_indices cells called (Some pair) = with_cell cells called (Some (record { first = pair.0; last = pair.1 }))

-- more tokens are to be read
abbrev pub going_on : Option CellsLeft → Awaited → Result CellsRead FormKind
going_on cells next = Ok (record { cells = cells; awaited = next })

-- a cell that begins with a name
abbrev pub named_cell : Option CellsLeft → Option (List ℕ) → Result CellsRead FormKind
named_cell cells None = Err Shape
named_cell cells (Some called) = going_on cells (awaited.Indices called)

-- a cell begins: with a name, or a `!` that is skipped
abbrev pub cell_begins : Option CellsLeft → Lexeme → Result CellsRead FormKind
cell_begins cells (sign Bang) = going_on cells awaited.Cell
cell_begins cells one = named_cell cells (named_by one)

-- behind a name: a `[`, or another cell
abbrev pub behind_name : Option CellsLeft → List ℕ → Lexeme → Result CellsRead FormKind
behind_name cells called (sign Open) = going_on cells (awaited.First called)
behind_name cells called one = cell_begins (with_cell cells called None) one

-- the first index
abbrev pub first_index : Option CellsLeft → List ℕ → Option ℕ → Result CellsRead FormKind
first_index cells called None = Err Shape
first_index cells called (Some first) = going_on cells (awaited.Behind called first)

-- the indices of this name
abbrev pub indexed : Option CellsLeft → List ℕ → ℕ → ℕ → Result CellsRead FormKind
indexed cells called first last =
    going_on (with_indices cells called (indices_of (record { first = first; last = last }))) awaited.Cell

-- behind the first index: a `]`, or the first of two dots
abbrev pub behind_index : Option CellsLeft → List ℕ → ℕ → Lexeme → Result CellsRead FormKind
behind_index cells called first (sign Close) = indexed cells called first first
behind_index cells called first (sign Dot) = going_on cells (awaited.Dot called first)
behind_index cells called first _ = Err Shape

-- the second dot
abbrev pub second_dot : Option CellsLeft → List ℕ → ℕ → Lexeme → Result CellsRead FormKind
second_dot cells called first (sign Dot) = going_on cells (awaited.Last called first)
second_dot cells called first _ = Err Shape

-- the last index
abbrev pub last_index : Option CellsLeft → List ℕ → ℕ → Option ℕ → Result CellsRead FormKind
last_index cells called first None = Err Shape
last_index cells called first (Some last) = going_on cells (awaited.End called first last)

-- the `]` behind the last index
abbrev pub closed : Option CellsLeft → List ℕ → ℕ → ℕ → Lexeme → Result CellsRead FormKind
closed cells called first last (sign Close) = indexed cells called first last
closed cells called first last _ = Err Shape

-- what a token says, where this is awaited
abbrev pub part_said : Option CellsLeft → Awaited → Lexeme → Result CellsRead FormKind
part_said cells awaited.Cell one = cell_begins cells one
part_said cells (awaited.Indices called) one = behind_name cells called one
part_said cells (awaited.First called) one = first_index cells called (index_by one)
part_said cells (awaited.Behind called first) one = behind_index cells called first one
part_said cells (awaited.Dot called first) one = second_dot cells called first one
part_said cells (awaited.Last called first) one = last_index cells called first (index_by one)
part_said cells (awaited.End called first last) one = closed cells called first last one

-- the cells, where they are not too many, and no index is too large
abbrev pub within_limits : Option CellsLeft → Result (List NameRef) FormKind
within_limits None = Err OutOfRange
within_limits (Some read) = Ok read.cells

-- the statement ends where no index is open
abbrev pub ended : Option CellsLeft → Awaited → Result (List NameRef) FormKind
ended cells awaited.Cell = within_limits cells
ended cells (awaited.Indices called) = within_limits (with_cell cells called None)
ended cells (awaited.First called) = Err Shape
ended cells (awaited.Behind called first) = Err Shape
ended cells (awaited.Dot called first) = Err Shape
ended cells (awaited.Last called first) = Err Shape
ended cells (awaited.End called first last) = Err Shape

-- a token of the statement with this first token, behind those before it
abbrev pub cells_step : ℕ → CellsRead → Lexeme → Result CellsRead FormFault
cells_step first before one = at_statement first (part_said before.cells before.awaited one)

-- before the first token
abbrev pub cells_start : CellsRead
cells_start = record { cells = no_cells; awaited = awaited.Cell }

-- the cells of the statement with this first token, by one pass over its tokens
abbrev pub cells_worked : ℕ → List Lexeme → Result (List NameRef) FormFault
cells_worked first [] = at_statement first (Err Shape)
cells_worked first (one ∷ rest) =
    and_then (stepping (cells_step first) cells_start (one ∷ rest)) (λ read.
    at_statement first (ended read.cells read.awaited))
