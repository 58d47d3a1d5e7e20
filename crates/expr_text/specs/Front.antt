-- The lexeme at the front of a text, and those of a whole text, as the code finds them. No public clause cites this
-- file.
use Rattle.std.specs.Prelude.{ℕ, pos, zero, suc, ◌+◌, ◌-◌, ◌^◌, Bool, false, ◌==◌, nat_lt, nat_le, ◌&&◌, if◌then◌else◌, List, [], ◌∷◌, length, take, drop, Option, Some, None, option_map}
use Rattle.std.specs.List.{prefix_len}
use Rattle.std.specs.Str.{bytes_eq}
use Rattle.expr_text.specs.Ratio.{Ratio, lowest}
use Rattle.expr_text.specs.Bytes.{double_quote, open_paren, point, may_be_quoted}
use Rattle.text_bytes.specs.Bytes.{is_blank, is_digit, begins_name, is_word, begins_with}
use Rattle.expr_text.specs.Lexeme.{Lexeme, literal, word, operator, opening, comma, closing, digits_from, fits, number_of, bound_text}
use Rattle.text_bytes.specs.Limits.{longest_name}
use Rattle.expr_text.specs.declared.unit.Unit.{Unit}
use Rattle.expr_text.specs.declared.unit.Unit.TheVariants.{Plain, Seconds, Milliseconds, Microseconds, Nanoseconds, Picoseconds, Femtoseconds}
use Rattle.expr_text.specs.declared.expr.Operator.TheVariants.{Plus, Minus, Times, Over}
use Rattle.expr_text.specs.declared.expr.Bound.{Bound}
use Rattle.expr_text.specs.declared.expr.Bound.TheVariants.{Least, Greatest}
use Rattle.expr_text.specs.declared.token.Number.{Number}

-- a number, if it is below 2^127
unfoldable pub capped : ℕ → Option ℕ
capped n = if nat_lt n (2 ^ 127) then Some n else None

-- the value of a literal, if it is in range
abbrev pub ranged : ℕ → ℕ → Option Ratio
ranged digits decimals = if fits digits decimals then Some (lowest (pos digits) (pos (10 ^ decimals))) else None

-- the text begins with this byte
abbrev pub begins : ℕ → List ℕ → Bool
begins byte text = begins_with (λ b. b == byte) text

-- the text begins with these two bytes
abbrev pub begins_pair : ℕ → ℕ → List ℕ → Bool
begins_pair first second [] = false
begins_pair first second (x ∷ text) = x == first && begins second text

-- the unit at the front, and how many bytes it has
unfoldable pub unit_front : List ℕ → Unit × ℕ
unit_front text =
    if begins 115 text then (Seconds, 1)
    else if begins_pair 109 115 text then (Milliseconds, 2)
    else if begins_pair 117 115 text then (Microseconds, 2)
    else if begins_pair 110 115 text then (Nanoseconds, 2)
    else if begins_pair 112 115 text then (Picoseconds, 2)
    else if begins_pair 102 115 text then (Femtoseconds, 2)
    else (Plain, 0)

-- the digits at the front
abbrev pub digits_of : List ℕ → List ℕ
digits_of text = take (prefix_len is_digit text) text

-- the decimals behind the whole digits
abbrev pub decimals_of : List ℕ → List ℕ
decimals_of [] = []
decimals_of (b ∷ text) = if b == point then digits_of text else []

-- how many bytes decimals have with their point
abbrev pub pointed_len : ℕ → ℕ
pointed_len zero = 0
pointed_len (suc n) = suc n + 1

-- how many bytes a number's digits and decimals have
abbrev pub number_len : List ℕ → ℕ
number_len text = prefix_len is_digit text + pointed_len (length (decimals_of (drop (prefix_len is_digit text) text)))

-- the number of all these digits, so many of them decimals
abbrev pub number_from : List ℕ → List ℕ → Unit → Number
number_from digits decimals unit = number_of (digits_from (digits_from 0 digits) decimals) (length decimals) unit

-- a number, and how many bytes it has
unfoldable pub number_front : List ℕ → Lexeme × ℕ
number_front text =
    let unit = unit_front (drop (number_len text) text) in (
      literal (number_from (digits_of text)
          (decimals_of (drop (prefix_len is_digit text) text)) unit.0),
      number_len text + unit.1,
    )

-- `min` or `max`
abbrev pub bound_of : List ℕ → Option Bound
bound_of bytes =
    if bytes_eq bytes (bound_text Least) then Some Least
    else if bytes_eq bytes (bound_text Greatest) then Some Greatest
    else None

-- how many bytes a `(` has with the blanks before it; 0, where there is none
unfoldable pub paren_len : List ℕ → ℕ
paren_len text = if begins open_paren (drop (prefix_len is_blank text) text) then prefix_len is_blank text + 1 else 0

-- a name, where it is short enough
unfoldable pub short_name : List ℕ → ℕ → Option (Lexeme × ℕ)
short_name bytes len = if nat_le (length bytes) longest_name then Some (word bytes, len) else None

-- a call, where a parenthesis stands behind its word, or a name
abbrev pub called : Option Bound → List ℕ → ℕ → Option (Lexeme × ℕ)
called None bytes paren = short_name bytes (length bytes)
called (Some bound) bytes zero = short_name bytes (length bytes)
called (Some bound) bytes (suc n) = Some (opening (Some bound), length bytes + suc n)

-- a name without quotes, or a call
unfoldable pub word_front : List ℕ → Option (Lexeme × ℕ)
word_front text =
    let bytes = take (prefix_len is_word text) text in
    called (bound_of bytes) bytes (paren_len (drop (prefix_len is_word text) text))

-- a name in quotes, from behind the first of them on
unfoldable pub quoted_front : List ℕ → Option (Lexeme × ℕ)
quoted_front rest =
    let len = prefix_len may_be_quoted rest in
    if begins double_quote (drop len rest) && nat_lt 0 len then short_name (take len rest) (len + 2) else None

-- a sign
unfoldable pub sign_front : ℕ → Option (Lexeme × ℕ)
sign_front b =
    if b == 43 then Some (operator Plus, 1)
    else if b == 45 then Some (operator Minus, 1)
    else if b == 42 then Some (operator Times, 1)
    else if b == 47 then Some (operator Over, 1)
    else if b == open_paren then Some (opening None, 1)
    else if b == 44 then Some (comma, 1)
    else if b == 41 then Some (closing, 1)
    else None

-- the lexeme at the front of a text that begins with no blank, and how many bytes it has
unfoldable pub front_of : List ℕ → Option (Lexeme × ℕ)
front_of [] = None
front_of (b ∷ rest) =
    if is_digit b then Some (number_front (b ∷ rest))
    else if begins_name b then word_front (b ∷ rest)
    else if b == double_quote then quoted_front rest
    else sign_front b

-- a lexeme before others
abbrev pub in_front : Lexeme → Option (List Lexeme) → Option (List Lexeme)
in_front l others = option_map (λ ls. l ∷ ls) others

-- what follows from the lexeme at the front
abbrev pub going : Option (Lexeme × ℕ) → (ℕ → Option (List Lexeme)) → Option (List Lexeme)
going None rest = None
going (Some front) rest = in_front front.0 (rest (front.1 - 1))

-- the lexemes of a text behind its first bytes, of which so many are skipped
unfoldable pub lexed : ℕ → List ℕ → Option (List Lexeme)
lexed skipped [] = Some []
lexed (suc skipped) (b ∷ text) = lexed skipped text
lexed zero (b ∷ text) = if is_blank b then lexed 0 text else going (front_of (b ∷ text)) (λ n. lexed n text)
