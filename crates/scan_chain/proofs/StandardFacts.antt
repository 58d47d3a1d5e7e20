-- Known chains and data, with the cells and the columns that they have.
use Rattle.std.proofs.Common.{◌≡◌, false, List, [], ◌∷◌, Some, None, refl, codes}
use Rattle.stil_ast.specs.Meaning.Arguments.{given, padding}
use Rattle.stil_ast.specs.Meaning.Chains.{Chain}
use Rattle.stil_ast.specs.Meaning.Shift.{column}
use Rattle.scan_chain.specs.Cell.{cell_of}
use Rattle.scan_chain.specs.Held.{entry_at}

-- a chain of three cells, two of which are listed, behind one without cells
abbrev known : List Chain
known =
    record { name = codes "short"; scan_out = 2; length = 0; cells = [] }
    ∷ record { name = codes "long"; scan_out = 5; length = 3; cells = codes "a" ∷ codes "b" ∷ [] } ∷ []

-- the third character is that of the cell next to scan-in
pub first_cell : cell_of known 5 3 ≡ Some (record { chain = codes "long"; name = codes "a" })
first_cell = refl

-- the last cell isn't listed
pub no_name : cell_of known 5 1 ≡ None
no_name = refl

-- there is no fourth cell, and no cell without a scan character
pub no_cell : cell_of known 5 4 ≡ None
no_cell = refl

pub no_mark : cell_of known 5 0 ≡ None
no_mark = refl

-- the third of four passes takes the first of two characters, where the data are padded in front
pub third_pass : column false 4 (given 48 ∷ given 49 ∷ []) ≡ padding ∷ padding ∷ given 48 ∷ given 49 ∷ []
third_pass = refl

pub first_place : entry_at (given 48 ∷ given 49 ∷ []) (Some 0) ≡ given 48
first_place = refl
