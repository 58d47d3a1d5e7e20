-- What the plain slow lexer asks of a text and the text behind it. No public clause cites this file.
use Rattle.std.specs.Prelude.{ℕ, ◌+◌, Bool, true, false, not, ◌==◌, nat_lt, ◌&&◌, ◌||◌, List, [], ◌∷◌, ◌≤◌, ◌<◌, length, take, drop, Option, Some, None}
use Rattle.std.specs.List.{list_all, position_or_len}
use Rattle.stil_lex.specs.Bytes.{line_feed, double_quote, single_quote, slash, star, close_brace, may_be_quoted, starts_pair}
use Rattle.text_bytes.specs.Bytes.{is_blank, is_word, is_printing, begins_with}
use Rattle.stil_lex.specs.Pieces.{IsGap, IsToken}
use Rattle.stil_lex.specs.declared.token.TokenKind.{TokenKind}
use Rattle.stil_lex.specs.Step.{pair_place, is_ann, mark_len}

-- one blank
abbrev pub blank_test : List ℕ → Bool
blank_test [] = false
blank_test (b ∷ []) = is_blank b
blank_test (b ∷ c ∷ text) = false

-- the first such pair ends the text
unfoldable pub closed_test : ℕ → ℕ → List ℕ → Bool
closed_test first second text = pair_place first second text + 2 == length text

-- nothing, or a text that begins with the byte
abbrev pub ends_or_begins : ℕ → List ℕ → Bool
ends_or_begins byte [] = true
ends_or_begins byte (b ∷ text) = b == byte

-- `//` and the rest of a line
unfoldable pub line_test : List ℕ → List ℕ → Bool
line_test text after =
    (starts_pair slash slash text && position_or_len (λ b. b == line_feed) text == length text)
    && ends_or_begins line_feed after

-- `/*` up to the first `*/`
unfoldable pub comment_test : List ℕ → Bool
comment_test text = starts_pair slash star text && closed_test star slash (drop 2 text)

-- `Ann`, blanks and `{*` at the front
abbrev pub opened_test : List ℕ → Bool
opened_test [] = false
opened_test (x ∷ []) = false
opened_test (x ∷ y ∷ []) = false
opened_test (x ∷ y ∷ z ∷ behind) = is_ann (x ∷ y ∷ z ∷ []) && nat_lt 0 (mark_len behind)

-- `Ann`, blanks and `{*`, up to the first `*}`
unfoldable pub annotation_test : List ℕ → Bool
annotation_test text = opened_test text && closed_test star close_brace (drop (mark_len (drop 3 text)) (drop 3 text))

-- a longest run that opens no annotation
unfoldable pub word_test : List ℕ → List ℕ → Bool
word_test text after =
    ((nat_lt 0 (length text) && list_all is_word text) && not (begins_with is_word after))
    && not (is_ann text && nat_lt 0 (mark_len after))

-- a gap
abbrev pub gap_test : List ℕ → List ℕ → Bool
gap_test text after = ((blank_test text || line_test text after) || comment_test text) || annotation_test text

-- what stands behind an opening quote, up to the first such quote, which ends it
unfoldable pub quoted_rest_test : ℕ → List ℕ → Bool
quoted_rest_test quote rest =
    position_or_len (λ b. b == quote) rest + 1 == length rest
    && list_all may_be_quoted (take (position_or_len (λ b. b == quote) rest) rest)

-- text between two quotes
abbrev pub quoted_test : ℕ → List ℕ → Bool
quoted_test quote [] = false
quoted_test quote (b ∷ rest) = b == quote && quoted_rest_test quote rest

-- no `/` before `/` or `*`
unfoldable pub comments_test : ℕ → List ℕ → Bool
comments_test byte after = byte == slash && (begins_with (λ b. b == slash) after || begins_with (λ b. b == star) after)

-- a sign
unfoldable pub sign_byte_test : ℕ → List ℕ → Bool
sign_byte_test byte after =
    ((is_printing byte && not (is_word byte)) && not (byte == double_quote || byte == single_quote))
    && not (comments_test byte after)

-- a sign that is the whole text
abbrev pub sign_test : List ℕ → List ℕ → Bool
sign_test [] after = false
sign_test (b ∷ []) after = sign_byte_test b after
sign_test (b ∷ c ∷ text) after = false

-- the text is a gap, or a token of the kind, before the text behind it
abbrev pub IsKind : Option TokenKind → List ℕ → List ℕ → Type 0
IsKind None text after = IsGap text after
IsKind (Some kind) text after = IsToken kind text after

-- so many bytes at the front of a text are a gap, or a token of the kind
pub record Begins (kind : Option TokenKind) (len : ℕ) (text : List ℕ) : Type 0 where
  pub within : len ≤ length text
  pub some : 0 < len
  pub is_kind : IsKind kind (take len text) (drop len text)
