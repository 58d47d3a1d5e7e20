-- What the plain slow search for a text's fault asks of a text. No public clause cites this file.
use Rattle.std.specs.Prelude.{◌≡◌, ℕ, Bool, false, not, ◌==◌, nat_lt, ◌&&◌, List, [], ◌∷◌, ◌≤◌, ◌<◌, length, take, drop, slice_index, Option}
use Rattle.std.specs.List.{position_or_len}
use Rattle.stil_lex.specs.Bytes.{slash, star, close_brace, may_be_quoted, starts_pair}
use Rattle.text_bytes.specs.Bytes.{is_blank, is_printing}
use Rattle.stil_lex.specs.Pieces.{Piece}
use Rattle.stil_lex.specs.Tokens.{spelled, ArePieces}
use Rattle.stil_lex.specs.Faults.{is_quote, HasBadQuoted, IsRefusal, place}
use Rattle.stil_lex.specs.Step.{pair_place, mark_len}
use Rattle.stil_lex.specs.Slow.{opened_test, Begins}
use Rattle.stil_lex.specs.declared.token.TokenKind.{TokenKind}
use Rattle.stil_lex.specs.declared.fault.LexFault.{LexFault}

-- a byte that begins no token and no gap
abbrev pub stray_test : List ℕ → Bool
stray_test [] = false
stray_test (b ∷ rest) = not (is_blank b) && not (is_printing b)

-- a quote without an end
abbrev pub open_quote_test : List ℕ → Bool
open_quote_test [] = false
open_quote_test (b ∷ rest) = is_quote b && position_or_len (λ c. c == b) rest == length rest

-- the pair stands nowhere in the text
unfoldable pub unclosed_test : ℕ → ℕ → List ℕ → Bool
unclosed_test first second text = pair_place first second text == length text

-- `/*` without `*/` behind it
unfoldable pub open_comment_test : List ℕ → Bool
open_comment_test text = starts_pair slash star text && unclosed_test star slash (drop 2 text)

-- `Ann`, blanks and `{*` without `*}` behind them
unfoldable pub open_annotation_test : List ℕ → Bool
open_annotation_test text =
    opened_test text && unclosed_test star close_brace (drop (mark_len (drop 3 text)) (drop 3 text))

-- behind an opening quote that ends stands, so many bytes further on and before the end, a byte that may not be quoted
unfoldable pub bad_rest_test : ℕ → List ℕ → ℕ → Bool
bad_rest_test quote rest skipped =
    (nat_lt (position_or_len (λ c. c == quote) rest) (length rest)
    && nat_lt skipped (position_or_len (λ c. c == quote) rest))
    && not (may_be_quoted (slice_index rest skipped))

-- such a byte in a quote at the front of the text
abbrev pub bad_quoted_test : List ℕ → ℕ → Bool
bad_quoted_test [] skipped = false
bad_quoted_test (b ∷ rest) skipped = is_quote b && bad_rest_test b rest skipped

-- the first such byte
pub record IsFirstBad (text : List ℕ) (skipped : ℕ) : Type 0 where
  pub within : skipped < length text
  pub here : HasBadQuoted text skipped
  pub smallest : (other : ℕ) → HasBadQuoted text other → skipped ≤ other

-- the refusal with the smallest place, by what stands at the front of a text whose first byte has the place `at`
pub record IsFirstRefusal (text : List ℕ) (at : ℕ) (fault : LexFault) : Type 0 where
  pub here : IsRefusal text at fault
  pub smallest : (other : LexFault) → IsRefusal text at other → place fault ≤ place other

-- the text is pieces up to the place, and no piece begins what stands behind it
pub record IsReadUpTo (bytes : List ℕ) (at : ℕ) : Type 0 where
  pub within : at ≤ length bytes
  pub pieces : List Piece
  pub each : ArePieces pieces (drop at bytes)
  pub whole : take at bytes ≡ spelled pieces
  pub stops : (kind : Option TokenKind) (len : ℕ) → Begins kind len (drop at bytes) → ⊥
