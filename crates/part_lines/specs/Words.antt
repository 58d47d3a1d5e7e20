-- Names in a line, as they are printed.
use Rattle.std.specs.Prelude.{◌≡◌, ℕ, ◌-◌, ◌==◌, ◌&&◌, ◌||◌, ◌++◌, Bool, false, List, [], ◌∷◌, length, drop, codes}
use Rattle.std.specs.List.{list_all, list_any}
use Rattle.std.specs.Str.{bytes_eq}
use Rattle.tester_types.specs.Printing.{is_bare}

-- whether bytes end with a double quote
abbrev pub ends_quoted : List ℕ → Bool
ends_quoted bytes = bytes_eq (drop (length bytes - 1) bytes) (codes "\"")

-- whether bytes are a name as it is printed: one byte or more that may all stand bare, or what stands between two
-- double quotes
abbrev pub is_named : List ℕ → Bool
is_named [] = false
is_named (byte ∷ bytes) = list_all is_bare (byte ∷ bytes) || (byte == 34 && ends_quoted bytes)

-- whether a byte is the blank between words
abbrev pub is_gap : ℕ → Bool
is_gap byte = byte == 32

-- a line is this front, a blank, and this word without a blank
pub record IsLastWord (line front word : List ℕ) : Type 0 where
  pub one : list_any is_gap word ≡ false
  pub is : line ≡ front ++ 32 ∷ word
