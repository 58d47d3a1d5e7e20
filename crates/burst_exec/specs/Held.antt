-- How the code holds the flat trees of an executive.
use Rattle.std.specs.Prelude.{◌≡◌, List, [], ◌∷◌, length}
use Rattle.stil_ast.specs.Meaning.ExecutiveData.{Tree}
use Rattle.stil_ast.specs.Meaning.Flat.{Flat}
use Rattle.macro_expand.specs.Scopes.{titles_in}
use Rattle.macro_expand.specs.declared.scope.BlockTitles.{BlockTitles}

-- trees with their titles, one by one
abbrev pub trees_in : List BlockTitles → List Flat → List Tree
trees_in [] flats = []
trees_in (t ∷ titles) [] = []
trees_in (t ∷ titles) (f ∷ flats) = record { titles = titles_in t; flat = f } ∷ trees_in titles flats

-- there are as many titles as trees
unfoldable pub AreEven : List BlockTitles → List Flat → Type 0
AreEven titles flats = length titles ≡ length flats
