-- What stands at the front of a text, as the code finds it. No public clause cites this file.
use Rattle.std.specs.Prelude.{ℕ, ◌+◌, Bool, false, ◌==◌, nat_lt, ◌&&◌, if◌then◌else◌, List, [], ◌∷◌, length, take, drop, count_by, Option, Some, None, Result, Ok, Err}
use Rattle.std.specs.List.{prefix_len, position_or_len}
use Rattle.stil_lex.specs.Bytes.{line_feed, double_quote, single_quote, slash, star, open_brace, close_brace, may_be_quoted, starts_pair}
use Rattle.text_bytes.specs.Bytes.{is_blank, is_word, is_printing}
use Rattle.stil_lex.specs.declared.token.TokenKind.{TokenKind}
use Rattle.stil_lex.specs.declared.token.TokenKind.TheVariants.{Word, Name, Text, Sign}
use Rattle.stil_lex.specs.declared.token.Token.{Token}
use Rattle.stil_lex.specs.declared.fault.LexFault.{LexFault}
use Rattle.stil_lex.specs.declared.fault.LexFault.TheVariants.{BadByte, OpenQuote, OpenComment}
use Rattle.stil_lex.specs.declared.front.Front.{Front}

-- a gap of so many bytes
abbrev pub a_gap : ℕ → Front
a_gap n = record { kind = None; len = n }

-- a token of so many bytes
abbrev pub a_token : TokenKind → ℕ → Front
a_token kind n = record { kind = Some kind; len = n }

-- the token of a front from one place up to another on a line; a gap has none
abbrev pub kept : Option TokenKind → ℕ → ℕ → ℕ → List Token
kept None start end line = []
kept (Some kind) start end line = record { kind = kind; start = start; end = end; line = line } ∷ []

-- how many bytes stand before the first such pair; all, where there is none
abbrev pub pair_place : ℕ → ℕ → List ℕ → ℕ
pair_place first second [] = 0
pair_place first second (x ∷ text) = if starts_pair first second (x ∷ text) then 0 else 1 + pair_place first second text

-- the gap that the pair closes, where `opened` bytes open it
unfoldable pub closed_front : ℕ → ℕ → ℕ → ℕ → List ℕ → Result Front LexFault
closed_front at opened first second text =
    if pair_place first second (drop opened text) == length (drop opened text) then Err (OpenComment at)
    else Ok (a_gap (opened + pair_place first second (drop opened text) + 2))

-- the word is `Ann`
abbrev pub is_ann : List ℕ → Bool
is_ann [] = false
is_ann (x ∷ []) = false
is_ann (x ∷ y ∷ []) = false
is_ann (x ∷ y ∷ z ∷ []) = x == 65 && y == 110 && z == 110
is_ann (x ∷ y ∷ z ∷ w ∷ more) = false

-- how many bytes open the annotation behind `Ann`: blanks and `{*`; 0, where none is opened
unfoldable pub mark_len : List ℕ → ℕ
mark_len text =
    if starts_pair open_brace star (drop (prefix_len is_blank text) text) then prefix_len is_blank text + 2 else 0

-- a word, or the annotation that it opens
unfoldable pub word_front : ℕ → List ℕ → Result Front LexFault
word_front at text =
    if is_ann (take (prefix_len is_word text) text) && nat_lt 0 (mark_len (drop 3 text))
    then closed_front at (3 + mark_len (drop 3 text)) star close_brace text
    else Ok (a_token Word (prefix_len is_word text))

-- a Name or a Text, from behind its opening quote on
unfoldable pub quoted_front : ℕ → ℕ → TokenKind → List ℕ → Result Front LexFault
quoted_front at quote kind rest =
    if position_or_len (λ b. b == quote) rest == length rest then Err (OpenQuote at)
    else if nat_lt (prefix_len may_be_quoted (take (position_or_len (λ b. b == quote) rest) rest))
    (position_or_len (λ b. b == quote) rest)
    then Err (BadByte (at + 1 + prefix_len may_be_quoted (take (position_or_len (λ b. b == quote) rest) rest)))
    else Ok (a_token kind (position_or_len (λ b. b == quote) rest + 2))

-- a sign, or the comment that it opens
unfoldable pub sign_front : ℕ → ℕ → List ℕ → Result Front LexFault
sign_front at byte text =
    if starts_pair slash slash text then Ok (a_gap (position_or_len (λ b. b == line_feed) text))
    else if starts_pair slash star text then closed_front at 2 star slash text
    else Ok (a_token (Sign byte) 1)

-- what stands at the front of a text whose first byte has the place `at`
unfoldable pub front_of : ℕ → List ℕ → Result Front LexFault
front_of at [] = Ok (a_gap 0)
front_of at (b ∷ rest) =
    if is_word b then word_front at (b ∷ rest)
    else if is_blank b then Ok (a_gap 1)
    else if b == double_quote then quoted_front at double_quote Name rest
    else if b == single_quote then quoted_front at single_quote Text rest
    else if is_printing b then sign_front at b (b ∷ rest)
    else Err (BadByte at)

-- how many line feeds the code counts in a piece of this kind: a word and a sign have none
abbrev pub feeds_of : Option TokenKind → List ℕ → ℕ
feeds_of None text = count_by (λ b. b == line_feed) text
feeds_of (Some Word) text = 0
feeds_of (Some Name) text = count_by (λ b. b == line_feed) text
feeds_of (Some Text) text = count_by (λ b. b == line_feed) text
feeds_of (Some (Sign byte)) text = 0
