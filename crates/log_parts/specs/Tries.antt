-- What a datalog says of the tries of a die, line by line, each line without its line feed.
use Rattle.std.specs.Prelude.{◌≡◌, ℕ, ◌+◌, ◌==◌, ◌&&◌, ◌||◌, Bool, true, false, List, [], ◌∷◌, ◌++◌, codes, decimal}
use Rattle.std.specs.List.{AllByRecursion}
use Rattle.text_bytes.specs.Bytes.{is_digit}
use Rattle.text_bytes.specs.Numbers.{are_digits}
use Rattle.tester_types.specs.Printing.{is_bare}
use Rattle.part_lines.specs.Lines.{is_one_line}

-- ---- the lines of a try

-- the line of the try of this number: how many cycles it finished, and how many fails there were
pub record IsTryLine (number : ℕ) (line : List ℕ) : Type 0 where
  pub cycles : List ℕ
  pub fails : List ℕ
  pub are_cycles : are_digits cycles ≡ true
  pub are_fails : are_digits fails ≡ true
  pub is : line ≡ codes "try " ++ decimal number ++ codes " cycles " ++ cycles ++ codes " fails " ++ fails

-- how the try ended: it passed, an executive failed, the plan or the desk stopped it, or the contact was lost
pub data IsVerdictLine (line : List ℕ) : Type 0 where
  passed : line ≡ codes "verdict pass" → IsVerdictLine line
  failed : (exec : List ℕ) → are_digits exec ≡ true → line ≡ codes "verdict fail " ++ exec → IsVerdictLine line
  by_plan : (batch : List ℕ) → are_digits batch ≡ true → line ≡ codes "verdict stopped " ++ batch ++ codes " plan"
      → IsVerdictLine line
  by_desk : (batch stops : List ℕ) → are_digits batch ≡ true → are_digits stops ≡ true
      → line ≡ codes "verdict stopped " ++ batch ++ codes " desk " ++ stops → IsVerdictLine line
  lost : (at : List ℕ) → are_digits at ≡ true → line ≡ codes "verdict contact " ++ at → IsVerdictLine line

-- ---- the line of a fail, by what may follow
-- Each of these says of bytes that they are one thing, and that what stands behind it follows. A name in double quotes
-- may hold blanks and double quotes, so a line may be read in more than one way: it is one where any of them is right.

-- whether nothing follows
abbrev pub is_end : List ℕ → Bool
is_end [] = true
is_end (byte ∷ bytes) = false

-- a byte of this kind
abbrev pub byte_then : (ℕ → Bool) → (List ℕ → Bool) → List ℕ → Bool
byte_then kind follows [] = false
byte_then kind follows (byte ∷ bytes) = kind byte && follows bytes

-- one byte of this kind or more
abbrev pub bytes_then : (ℕ → Bool) → (List ℕ → Bool) → List ℕ → Bool
bytes_then kind follows [] = false
bytes_then kind follows (byte ∷ bytes) = kind byte && (bytes_then kind follows bytes || follows bytes)

-- digits
abbrev pub digits_then : (List ℕ → Bool) → List ℕ → Bool
digits_then follows bytes = bytes_then is_digit follows bytes

-- a name that stands bare
abbrev pub bare_then : (List ℕ → Bool) → List ℕ → Bool
bare_then follows bytes = bytes_then is_bare follows bytes

-- whether a byte is a double quote
abbrev pub is_quote : ℕ → Bool
is_quote byte = byte == 34

-- any bytes, and the double quote that ends a name
abbrev pub quoted_then : (List ℕ → Bool) → List ℕ → Bool
quoted_then follows [] = false
quoted_then follows (byte ∷ bytes) = quoted_then follows bytes || (is_quote byte && follows bytes)

-- a name as it is printed
abbrev pub named_then : (List ℕ → Bool) → List ℕ → Bool
named_then follows bytes = bare_then follows bytes || byte_then is_quote (quoted_then follows) bytes

-- the blank between two words
abbrev pub gap_then : (List ℕ → Bool) → List ℕ → Bool
gap_then follows bytes = byte_then (λ byte. byte == 32) follows bytes

-- this word
abbrev pub word_then : List ℕ → (List ℕ → Bool) → List ℕ → Bool
word_then [] follows bytes = follows bytes
word_then (first ∷ word) follows [] = false
word_then (first ∷ word) follows (byte ∷ bytes) = byte == first && word_then word follows bytes

-- the letter of what was wanted, as a look that can fail has it: L, H, T, l, h or t
abbrev pub is_want : ℕ → Bool
is_want byte = byte == 76 || byte == 72 || byte == 84 || byte == 108 || byte == 104 || byte == 116

-- the letter of what was seen: 0, 1, X or Z
abbrev pub is_seen : ℕ → Bool
is_seen byte = byte == 48 || byte == 49 || byte == 88 || byte == 90

-- the name of a scan cell
abbrev pub is_cell : List ℕ → Bool
is_cell bytes = named_then is_end bytes

-- the name of a chain, and of a cell of it
abbrev pub is_chain : List ℕ → Bool
is_chain bytes = named_then (gap_then is_cell) bytes

-- nothing more, or the cell that the fail names
abbrev pub may_end : List ℕ → Bool
may_end bytes = is_end bytes || gap_then is_chain bytes

-- what was seen, and what follows
abbrev pub from_seen : List ℕ → Bool
from_seen bytes = byte_then is_seen may_end bytes

-- what was wanted, and what follows
abbrev pub from_want : List ℕ → Bool
from_want bytes = byte_then is_want (gap_then from_seen) bytes

-- the name of the signal, and what follows
abbrev pub from_signal : List ℕ → Bool
from_signal bytes = named_then (gap_then from_want) bytes

-- the time, and what follows
abbrev pub from_time : List ℕ → Bool
from_time bytes = digits_then (gap_then from_signal) bytes

-- the cycle, and what follows
abbrev pub from_cycle : List ℕ → Bool
from_cycle bytes = digits_then (gap_then from_time) bytes

-- the line of a fail: `fail CYCLE AT SIGNAL WANT SEEN`, and behind it nothing or ` CHAIN CELL`
abbrev pub is_fail_line : List ℕ → Bool
is_fail_line line = word_then (codes "fail ") from_cycle line && is_one_line line

-- ---- tries

-- the lines of a try: its first one, its fails and its verdict
pub record TryLog : Type 0 where
  pub head : List ℕ
  pub fails : List (List ℕ)
  pub verdict : List ℕ

-- one after another
abbrev pub try_lines : TryLog → List (List ℕ)
try_lines t = t.head ∷ (t.fails ++ t.verdict ∷ [])

-- the lines of fails
abbrev pub AreFails : List (List ℕ) → Type 0
AreFails fails = AllByRecursion (λ line. is_fail_line line ≡ true) fails

-- they are those of the try of this number
pub record IsTry (number : ℕ) (t : TryLog) : Type 0 where
  pub head : IsTryLine number t.head
  pub fails : AreFails t.fails
  pub verdict : IsVerdictLine t.verdict

-- tries that are numbered one after another, the first with this number
abbrev pub AreTries : ℕ → List TryLog → Type 0
AreTries number [] = Unit {0}
AreTries number (t ∷ later) = IsTry number t × AreTries (number + 1) later
