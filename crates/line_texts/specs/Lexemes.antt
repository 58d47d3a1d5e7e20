-- The lexemes of pieces.
use Rattle.std.specs.Prelude.{ℕ, ◌-◌, List, [], ◌∷◌, length}
use Rattle.stil_lex.specs.Pieces.{Piece, gap, token}
use Rattle.stil_lex.specs.Text.{quote_len, bytes_between}
use Rattle.stil_lex.specs.declared.token.TokenKind.{TokenKind}
use Rattle.stil_form.specs.Lexeme.{Lexeme, lexeme_from}

-- the text of a token of this kind that is spelled so
abbrev pub unquoted : TokenKind → List ℕ → List ℕ
unquoted kind text = bytes_between text (quote_len kind) (length text - quote_len kind)

-- the lexemes of pieces, in order; a gap has none
abbrev pub lexemes_in : List Piece → List Lexeme
lexemes_in [] = []
lexemes_in (gap text ∷ ps) = lexemes_in ps
lexemes_in (token kind text ∷ ps) = lexeme_from kind (unquoted kind text) ∷ lexemes_in ps
