-- Laws of flat trees.
use Rattle.std.specs.Prelude.{◌≡◌, ℕ, Bool}
use Rattle.stil_ast.specs.Meaning.Flat.{Flat, done, repeat, save}
use Rattle.stil_ast.specs.Meaning.Flattening.{joined}
use Rattle.stil_ast.specs.Meaning.ExecutiveData.{IsSameFlat}

-- trees are joined in any grouping
abbrev pub JoinedAssociates : Type 0
JoinedAssociates = (a b c : Flat) → joined (joined a b) c ≡ joined a (joined b c)

-- a tree with nothing behind it is itself
abbrev pub JoinedWithNothing : Type 0
JoinedWithNothing = (a : Flat) → joined a done ≡ a

-- trees that are as good stay so with as good ones behind them
abbrev pub SameIsJoined : Type 0
SameIsJoined = (a b c d : Flat) → IsSameFlat a b → IsSameFlat c d → IsSameFlat (joined a c) (joined b d)

-- trees that are as good stay so in a loop
abbrev pub SameIsRepeated : Type 0
SameIsRepeated =
    (count : ℕ) (a b c d : Flat) → IsSameFlat a b → IsSameFlat c d →
    IsSameFlat (repeat count a c) (repeat count b d)

-- trees that are as good stay so in a save
abbrev pub SameIsSaved : Type 0
SameIsSaved =
    (putting : Bool) (a b c d : Flat) → IsSameFlat a b → IsSameFlat c d →
    IsSameFlat (save putting a c) (save putting b d)

-- a tree is as good as itself
abbrev pub SameIsReflexive : Type 0
SameIsReflexive = (a : Flat) → IsSameFlat a a

-- what is as good as a tree that is as good as a third is as good as the third
abbrev pub SameIsTransitive : Type 0
SameIsTransitive = (a b c : Flat) → IsSameFlat a b → IsSameFlat b c → IsSameFlat a c
