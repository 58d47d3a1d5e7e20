-- The cells of a ScanCells statement: what its tokens spell, and how many they may be (IEEE 1450-1999, clause 20).
use Rattle.std.specs.Prelude.{◌≡◌, ◌<◌, ◌≤◌, ℕ, true, List, [], ◌∷◌, length, Some, None}
use Rattle.std.specs.List.{list_all}
use Rattle.stil_form.specs.declared.fault.FormKind.{FormKind}
use Rattle.stil_form.specs.declared.fault.FormKind.TheVariants.{Shape, OutOfRange}
use Rattle.stil_form.specs.declared.part.SignKind.TheVariants.{Open, Close, Dot, Bang}
use Rattle.stil_form.specs.Lexeme.{Lexeme, sign}
use Rattle.stil_form.specs.Words.{named_by}
use Rattle.stil_form.specs.Fronts.{index_by}
use Rattle.text_bytes.specs.Limits.{most_cells}
use Rattle.stil_ast.specs.Data.BlockForms.{cell_count}
use Rattle.stil_ast.specs.declared.name.NameRef.{NameRef}
use Rattle.scan_blocks.specs.Cells.{has_small}

-- tokens spell cells: nothing spells none; a `!` is skipped; a name is a cell, and a name with `[n]` or `[n..m]` stands
-- for one cell for each index
pub data SpellsCells : List Lexeme → List NameRef → Type 0 where
  no_cells : SpellsCells [] []
  skipped : (rest : List Lexeme) (cells : List NameRef) → SpellsCells rest cells
      → SpellsCells (sign Bang ∷ rest) cells
  one_name : (one : Lexeme) (called : List ℕ) (rest : List Lexeme) (cells : List NameRef)
      → named_by one ≡ Some called → SpellsCells rest cells
      → SpellsCells (one ∷ rest) (record { name = called; range = None } ∷ cells)
  one_index : (one at : Lexeme) (called : List ℕ) (index : ℕ) (rest : List Lexeme) (cells : List NameRef)
      → named_by one ≡ Some called → index_by at ≡ Some index → SpellsCells rest cells
      → SpellsCells (one ∷ sign Open ∷ at ∷ sign Close ∷ rest)
      (record { name = called; range = Some (record { first = index; last = index }) } ∷ cells)
  one_range : (one from to : Lexeme) (called : List ℕ) (first last : ℕ) (rest : List Lexeme) (cells : List NameRef)
      → named_by one ≡ Some called → index_by from ≡ Some first → index_by to ≡ Some last → SpellsCells rest cells
      → SpellsCells (one ∷ sign Open ∷ from ∷ sign Dot ∷ sign Dot ∷ to ∷ sign Close ∷ rest)
      (record { name = called; range = Some (record { first = first; last = last }) } ∷ cells)

-- cells within their limits: each index, and how many they are
pub record AreWithin (cells : List NameRef) : Type 0 where
  pub small : list_all has_small cells ≡ true
  pub few : cell_count cells ≤ most_cells

-- the cells of a statement, which has a token at least
pub record AreCells (lexemes : List Lexeme) (cells : List NameRef) : Type 0 where
  pub some : 0 < length lexemes
  pub spelled : SpellsCells lexemes cells
  pub within : AreWithin cells

-- why tokens are no cells: there is no token; they spell no cells; or the cells that they spell are beyond a limit
pub data IsCellFault : List Lexeme → FormKind → Type 0 where
  no_token : IsCellFault [] Shape
  no_spelling : (lexemes : List Lexeme) → ((cells : List NameRef) → SpellsCells lexemes cells → ⊥)
      → IsCellFault lexemes Shape
  beyond_limits : (lexemes : List Lexeme) (cells : List NameRef) → 0 < length lexemes
      → SpellsCells lexemes cells → (AreWithin cells → ⊥) → IsCellFault lexemes OutOfRange
