-- Data of an assignment: the items that tokens spell (IEEE 1450-1999, clause 21).
use Rattle.std.specs.Prelude.{◌≡◌, ℕ, ◌==◌, nat_le, Bool, true, false, List, [], ◌∷◌, ◌++◌, map, replicate, codes, Option, Some, None, Result, Ok, Err, if◌then◌else◌}
use Rattle.std.specs.List.{list_any}
use Rattle.stil_lex.specs.declared.token.Token.{Token}
use Rattle.stil_form.specs.declared.fault.FormKind.{FormKind}
use Rattle.stil_form.specs.declared.fault.FormKind.TheVariants.{Shape, LeftOut, OutOfRange}
use Rattle.stil_form.specs.declared.part.SignKind.TheVariants.{Hash, Percent, Backslash}
use Rattle.stil_form.specs.Lexeme.{Lexeme, word, sign, lexeme_at}
use Rattle.text_bytes.specs.Numbers.{number_by}
use Rattle.text_bytes.specs.Limits.{most_repeats}
use Rattle.stil_ast.specs.Meaning.Statements.{Item, a_character, hash, percent}
use Rattle.pat_read.specs.declared.fault.DataFault.{DataFault}
use Rattle.pat_read.specs.declared.fault.DataFault.TheVariants as fault
use Rattle.pat_read.specs.declared.data.Awaited.{Awaited}
use Rattle.pat_read.specs.declared.data.Awaited.TheVariants as awaited
use Rattle.answers.specs.Reading.{and_then}

-- a word has a `_`, which is no character of data
abbrev pub has_underscore : List ℕ → Bool
has_underscore bytes = list_any (λ byte. byte == 95) bytes

-- how often `rN` repeats: an `r`, and the number that the digits behind it are
abbrev pub times_by : List ℕ → Option ℕ
times_by [] = None
times_by (first ∷ digits) = if first == 114 then number_by digits else None

-- a form of data that this profile leaves out: a word behind a `\` that begins with h, d, l, m, j, e or w
abbrev pub is_left_out : List ℕ → Bool
is_left_out [] = false
is_left_out (first ∷ rest) = list_any (λ a_character. a_character == first) (codes "hdlmjew")

-- a unit: `#`, `%`, or a word of exactly one letter or digit
abbrev pub unit_of : Lexeme → Option Item
unit_of (sign Hash) = Some hash
unit_of (sign Percent) = Some percent
unit_of (word (byte ∷ [])) = if byte == 95 then None else Some (a_character byte)
unit_of _ = None

-- an item: a word gives its characters, `#` and `%` themselves; behind a `\`, which ends at a place, stands a word
abbrev pub item_said : Lexeme → ℕ → Result (List Item × Awaited) FormKind
item_said (word bytes) end = if has_underscore bytes then Err Shape else Ok (map a_character bytes, awaited.Item)
item_said (sign Hash) end = Ok (hash ∷ [], awaited.Item)
item_said (sign Percent) end = Ok (percent ∷ [], awaited.Item)
item_said (sign Backslash) end = Ok ([], awaited.Repeat end)
item_said _ end = Err Shape

-- a word behind a `\`, which may be directly behind it, and is `rN` or not
abbrev pub word_behind : Bool → List ℕ → Option ℕ → Result (List Item × Awaited) FormKind
word_behind true bytes (Some times) = Ok ([], awaited.OfUnit times)
word_behind adjacent bytes repeats = if is_left_out bytes then Err LeftOut else Err Shape

-- what stands behind a `\`: directly behind it `rN`, behind which its unit stands
abbrev pub repeat_said : Bool → Lexeme → Result (List Item × Awaited) FormKind
repeat_said adjacent (word bytes) = word_behind adjacent bytes (times_by bytes)
repeat_said adjacent _ = Err Shape

-- the unit, which stands this often
abbrev pub unit_said : ℕ → Option Item → Result (List Item × Awaited) FormKind
unit_said times None = Err Shape
unit_said times (Some item) =
    if nat_le times most_repeats then Ok (replicate times item, awaited.Item) else Err OutOfRange

-- what a token from one place to another says, where this is awaited: its items, and what is awaited behind it
abbrev pub token_said : Awaited → Lexeme → ℕ → ℕ → Result (List Item × Awaited) FormKind
token_said awaited.Item one start end = item_said one end
token_said (awaited.Repeat place) one start end = repeat_said (start == place) one
token_said (awaited.OfUnit times) one start end = unit_said times (unit_of one)

-- the same of a token of these bytes
abbrev pub said_by : List ℕ → Awaited → Token → Result (List Item × Awaited) FormKind
said_by bytes wanted token = token_said wanted (lexeme_at bytes token) token.start token.end

-- where data end nothing but an item may be awaited
abbrev pub ended : Awaited → Result (List Item) FormKind
ended awaited.Item = Ok []
ended (awaited.Repeat place) = Err Shape
ended (awaited.OfUnit times) = Err Shape

-- items in front of others
abbrev pub behind : List Item → Result (List Item) FormKind → Result (List Item) FormKind
behind items more = and_then more (λ rest. Ok (items ++ rest))

-- the items of tokens, where this is awaited first
abbrev pub data_from : List ℕ → Awaited → List Token → Result (List Item) FormKind
data_from bytes wanted [] = ended wanted
data_from bytes wanted (token ∷ tokens) =
    and_then (said_by bytes wanted token) (λ said. behind said.0 (data_from bytes said.1 tokens))

-- the items that tokens spell, or the kind of the first fault from the left
abbrev pub data_of : List ℕ → List Token → Result (List Item) FormKind
data_of bytes tokens = data_from bytes awaited.Item tokens

-- why tokens are no data
abbrev pub IsDataFault : List ℕ → List Token → DataFault → Type 0
IsDataFault bytes tokens fault.NoMemory = ⊥
IsDataFault bytes tokens fault.Shape = data_of bytes tokens ≡ Err Shape
IsDataFault bytes tokens fault.LeftOut = data_of bytes tokens ≡ Err LeftOut
IsDataFault bytes tokens fault.OutOfRange = data_of bytes tokens ≡ Err OutOfRange

-- what a token says behind items
abbrev pub said_behind : List Item → Result (List Item × Awaited) FormKind → Result (List Item × Awaited) FormKind
said_behind items said = and_then said (λ more. Ok (items ++ more.0, more.1))
