-- The bytes of which the marks and quotes of a STIL text are made (the lexical part of IEEE 1450-1999, in ASCII).
use Rattle.std.specs.Prelude.{ℕ, Bool, false, ◌==◌, ◌&&◌, ◌||◌, List, [], ◌∷◌}
use Rattle.text_bytes.specs.Bytes.{is_blank, is_printable}

-- what ends a line
abbrev pub line_feed : ℕ
line_feed = 10

-- what stands at both ends of a Name
abbrev pub double_quote : ℕ
double_quote = 34

-- what stands at both ends of a Text
abbrev pub single_quote : ℕ
single_quote = 39

-- what stands in `//`, `/*` and `*/`, the marks of comments
abbrev pub slash : ℕ
slash = 47

-- what stands in `/*` and `*/`, and in the marks of annotations
abbrev pub star : ℕ
star = 42

-- what stands in `{*`, the mark that opens an annotation
abbrev pub open_brace : ℕ
open_brace = 123

-- what stands in `*}`, the mark that closes an annotation
abbrev pub close_brace : ℕ
close_brace = 125

-- what may stand between quotes
unfoldable pub may_be_quoted : ℕ → Bool
may_be_quoted b = is_printable b || is_blank b

-- the text begins with these two bytes
abbrev pub starts_pair : ℕ → ℕ → List ℕ → Bool
starts_pair first second [] = false
starts_pair first second (x ∷ []) = false
starts_pair first second (x ∷ y ∷ text) = x == first && y == second

-- the two bytes stand side by side somewhere in the text
abbrev pub has_pair : ℕ → ℕ → List ℕ → Bool
has_pair first second [] = false
has_pair first second (x ∷ text) = starts_pair first second (x ∷ text) || has_pair first second text
