-- The fault of a text without tokens: the refusal with the smallest place.
use Rattle.std.specs.Prelude.{◌≡◌, ◌⊎◌, ℕ, ◌+◌, ◌≤◌, Bool, true, false, ◌==◌, ◌||◌, List, [], ◌∷◌, ◌++◌, length, Result, Ok, Err}
use Rattle.std.specs.List.{list_any}
use Rattle.stil_lex.specs.Bytes.{double_quote, single_quote, slash, star, close_brace, may_be_quoted, has_pair}
use Rattle.text_bytes.specs.Bytes.{is_blank, is_printing}
use Rattle.stil_lex.specs.Pieces.{Piece, ann, OpensAnnotation}
use Rattle.stil_lex.specs.Tokens.{spelled, ArePieces, tokens_of, Reads}
use Rattle.stil_lex.specs.declared.token.Token.{Token}
use Rattle.stil_lex.specs.declared.fault.LexFault.{LexFault}
use Rattle.stil_lex.specs.declared.fault.LexFault.TheVariants.{NoMemory, BadByte, OpenQuote, OpenComment}

-- the text begins with a byte that no token and no gap begins with
pub record IsStray (text : List ℕ) : Type 0 where
  pub byte : ℕ
  pub after : List ℕ
  pub spelled : text ≡ byte ∷ after
  pub no_blank : is_blank byte ≡ false
  pub no_print : is_printing byte ≡ false

-- the text begins with a quote
abbrev pub is_quote : ℕ → Bool
is_quote b = b == double_quote || b == single_quote

-- the text begins with a quote that ends, and `skipped` bytes behind the opening one stands a byte that may not be
-- quoted
pub record HasBadQuoted (text : List ℕ) (skipped : ℕ) : Type 0 where
  pub quote : ℕ
  pub front : List ℕ
  pub byte : ℕ
  pub back : List ℕ
  pub after : List ℕ
  pub spelled : text ≡ quote ∷ ((front ++ byte ∷ back) ++ quote ∷ after)
  pub quotes : is_quote quote ≡ true
  pub first : list_any (λ b. b == quote) (front ++ byte ∷ back) ≡ false
  pub bad : may_be_quoted byte ≡ false
  pub place : skipped ≡ length front

-- the text begins with a quote without an end
pub record HasOpenQuote (text : List ℕ) : Type 0 where
  pub quote : ℕ
  pub after : List ℕ
  pub spelled : text ≡ quote ∷ after
  pub quotes : is_quote quote ≡ true
  pub no_end : list_any (λ b. b == quote) after ≡ false

-- the text begins with a comment without an end
pub record HasOpenComment (text : List ℕ) : Type 0 where
  pub after : List ℕ
  pub spelled : text ≡ slash ∷ star ∷ after
  pub no_end : has_pair star slash after ≡ false

-- the text begins with an annotation without an end
pub record HasOpenAnnotation (text : List ℕ) : Type 0 where
  pub behind : List ℕ
  pub spelled : text ≡ ann ++ behind
  pub opens : OpensAnnotation behind
  pub no_end : has_pair star close_brace opens.rest ≡ false

-- a refusal by what stands at the front of a text whose first byte has the place `at`
abbrev pub IsRefusal : List ℕ → ℕ → LexFault → Type 0
IsRefusal text at NoMemory = ⊥
IsRefusal text at (BadByte place) =
    ((place ≡ at) × IsStray text) ⊎ ((skipped : ℕ) × (place ≡ at + 1 + skipped) × HasBadQuoted text skipped)
IsRefusal text at (OpenQuote place) = (place ≡ at) × HasOpenQuote text
IsRefusal text at (OpenComment place) = (place ≡ at) × (HasOpenComment text ⊎ HasOpenAnnotation text)

-- a refusal of a text: pieces, and behind them what stands at the front of the rest
pub record Refuses (bytes : List ℕ) (fault : LexFault) : Type 0 where
  pub pieces : List Piece
  pub rest : List ℕ
  pub each : ArePieces pieces rest
  pub whole : bytes ≡ spelled pieces ++ rest
  pub refusal : IsRefusal rest (length (spelled pieces)) fault

-- where a refusal stands in the text
abbrev pub place : LexFault → ℕ
place NoMemory = 0
place (BadByte at) = at
place (OpenQuote at) = at
place (OpenComment at) = at

-- the refusal with the smallest place
pub record IsFault (bytes : List ℕ) (fault : LexFault) : Type 0 where
  pub here : Refuses bytes fault
  pub smallest : (other : LexFault) → Refuses bytes other → place fault ≤ place other

-- the same, and these are the tokens of the pieces before it
abbrev pub IsFaultBehind : List ℕ → List Token → LexFault → Type 0
IsFaultBehind bytes read fault = (is : IsFault bytes fault) × (read ≡ tokens_of [] is.here.pieces)

-- these are the tokens of a text, or those before its fault, or there was no memory
abbrev pub ReadsOnto : List ℕ → List Token → Result Unit LexFault → Type 0
ReadsOnto bytes read (Ok done) = Reads bytes read
ReadsOnto bytes read (Err fault) = (fault ≡ NoMemory) ⊎ IsFaultBehind bytes read fault
