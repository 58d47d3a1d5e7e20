-- What the tokens of a whole text are.
use Rattle.std.specs.Prelude.{◌≡◌, ℕ, ◌+◌, ◌==◌, List, [], ◌∷◌, ◌++◌, length, count_by}
use Rattle.stil_lex.specs.Bytes.{line_feed}
use Rattle.stil_lex.specs.Pieces.{Piece, gap, token, spelling, IsPiece}
use Rattle.stil_lex.specs.declared.token.TokenKind.{TokenKind}
use Rattle.stil_lex.specs.declared.token.Token.{Token}

-- the spellings of the pieces, one after another
abbrev pub spelled : List Piece → List ℕ
spelled [] = []
spelled (p ∷ ps) = spelling p ++ spelled ps

-- each piece is one, where the text `after` stands behind the last
abbrev pub ArePieces : List Piece → List ℕ → Type 0
ArePieces [] after = Unit {0}
ArePieces (p ∷ ps) after = IsPiece p (spelled ps ++ after) × ArePieces ps after

-- one more than the line feeds of a text: the line at its end
abbrev pub line_behind : List ℕ → ℕ
line_behind text = 1 + count_by (λ b. b == line_feed) text

-- a token of this kind and spelling behind the text `before`
abbrev pub token_at : List ℕ → TokenKind → List ℕ → Token
token_at before kind text =
    record { kind = kind; start = length before; end = length before + length text; line = line_behind before }

-- the tokens among pieces that stand behind the text `before`
abbrev pub tokens_of : List ℕ → List Piece → List Token
tokens_of before [] = []
tokens_of before (gap text ∷ ps) = tokens_of (before ++ text) ps
tokens_of before (token kind text ∷ ps) = token_at before kind text ∷ tokens_of (before ++ text) ps

-- the bytes are the tokens' spellings in order, with gaps before, between and after them
pub record Reads (bytes : List ℕ) (tokens : List Token) : Type 0 where
  pub pieces : List Piece
  pub each : ArePieces pieces []
  pub whole : bytes ≡ spelled pieces
  pub are : tokens ≡ tokens_of [] pieces
