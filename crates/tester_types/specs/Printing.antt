-- What a piece of a line prints as.
use Rattle.std.specs.Prelude.{ℕ, Bool, List, [], ◌∷◌, ◌++◌, ◌&&◌, nat_le, decimal, if◌then◌else◌}
use Rattle.std.specs.List.{list_all}
use Rattle.tester_types.specs.declared.printing.Piece.{Piece}
use Rattle.tester_types.specs.declared.printing.Piece.TheVariants.{Text, Number, Name, Title}

-- a byte that stands for itself in a name that is printed bare: 0x21 to 0x7E
abbrev pub is_bare : ℕ → Bool
is_bare byte = nat_le 33 byte && nat_le byte 126

-- a name in double quotes
abbrev pub quoted : List ℕ → List ℕ
quoted name = 34 ∷ (name ++ 34 ∷ [])

-- a name, bare where it isn't empty and all its bytes may stand bare, else in double quotes
abbrev pub printed_name : List ℕ → List ℕ
printed_name [] = quoted []
printed_name (byte ∷ bytes) = if list_all is_bare (byte ∷ bytes) then byte ∷ bytes else quoted (byte ∷ bytes)

-- the name of an executive or a block, which may be missing
abbrev pub printed_title : List ℕ → List ℕ
printed_title [] = 45 ∷ []
printed_title (byte ∷ bytes) = printed_name (byte ∷ bytes)

-- what a piece prints as
abbrev pub piece_text : Piece → List ℕ
piece_text (Text text) = text.now
piece_text (Number number) = decimal number
piece_text (Name name) = printed_name name.now
piece_text (Title name) = printed_title name.now
