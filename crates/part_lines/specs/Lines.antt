-- Lines of a text: each ends with one line feed.
use Rattle.std.specs.Prelude.{ℕ, ◌+◌, ◌==◌, Bool, not, List, ◌++◌, length, take, codes}
use Rattle.std.specs.List.{count_by, list_any}
use Rattle.std.specs.Str.{bytes_eq}

-- whether a byte is a line feed
abbrev pub is_feed : ℕ → Bool
is_feed b = b == 10

-- whether bytes have no line feed
abbrev pub is_one_line : List ℕ → Bool
is_one_line line = not (list_any is_feed line)

-- a line, ended
abbrev pub ended : List ℕ → List ℕ
ended line = line ++ codes "\n"

-- how many lines end in a text
abbrev pub lines_in : List ℕ → ℕ
lines_in text = count_by is_feed text

-- whether a line begins with this word and a blank
abbrev pub begins_so : List ℕ → List ℕ → Bool
begins_so word line = bytes_eq (take (length word + 1) line) (word ++ codes " ")
