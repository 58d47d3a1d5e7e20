-- Laws: what is read is what the tokens spell.
use Rattle.std.specs.Prelude.{◌≡◌, ℕ, List, Ok, Err}
use Rattle.stil_lex.specs.declared.token.Token.{Token}
use Rattle.stil_form.specs.declared.fault.FormKind.{FormKind}
use Rattle.stil_ast.specs.Meaning.Statements.{Item}
use Rattle.stil_form.specs.declared.fault.FormFault.{FormFault}
use Rattle.stil_form.specs.declared.fault.FormFault.TheVariants.{Refused}
use Rattle.stil_form.specs.Lexeme.{Lexeme}
use Rattle.stil_ast.specs.declared.name.NameRef.{NameRef}
use Rattle.pat_read.specs.Data.{data_of}
use Rattle.scan_blocks.specs.Cells.{cells_said}
use Rattle.spelled_items.specs.SpelledData.{Spells, StopsAt}
use Rattle.spelled_items.specs.SpelledCells.{AreCells, IsCellFault}

-- the items that are read of data are those that the tokens spell
abbrev pub DataAreSpelled : Type 0
DataAreSpelled = (bytes : List ℕ) (tokens : List Token) (items : List Item) →
    (Spells bytes tokens items → data_of bytes tokens ≡ Ok items)
    × (data_of bytes tokens ≡ Ok items → Spells bytes tokens items)

-- data are refused where the tokens spell items up to a fault, and for this fault
abbrev pub DataAreRefused : Type 0
DataAreRefused = (bytes : List ℕ) (tokens : List Token) (kind : FormKind) →
    (StopsAt bytes tokens kind → data_of bytes tokens ≡ Err kind)
    × (data_of bytes tokens ≡ Err kind → StopsAt bytes tokens kind)

-- the cells that are read of a statement with this first token are those that the tokens behind its keyword spell
abbrev pub CellsAreSpelled : Type 0
CellsAreSpelled = (first : ℕ) (lexemes : List Lexeme) (cells : List NameRef) →
    (AreCells lexemes cells → cells_said first lexemes ≡ Ok cells)
    × (cells_said first lexemes ≡ Ok cells → AreCells lexemes cells)

-- cells are refused at their statement where they have such a fault, and for no other
abbrev pub CellsAreRefused : Type 0
CellsAreRefused = (first : ℕ) (lexemes : List Lexeme) (fault : FormFault) →
    ((kind : FormKind) → fault ≡ Refused kind first → IsCellFault lexemes kind
    → cells_said first lexemes ≡ Err fault)
    × (cells_said first lexemes ≡ Err fault
    → (kind : FormKind) × (fault ≡ Refused kind first) × IsCellFault lexemes kind)
