-- When pieces are those of a text, and statements such as the grammar has them, by Booleans that compute.
use Rattle.std.specs.Prelude.{ℕ, suc, Bool, true, false, not, ◌&&◌, ◌||◌, ◌==◌, nat_lt, List, [], ◌∷◌, ◌++◌}
use Rattle.stil_lex.specs.Bytes.{double_quote, single_quote}
use Rattle.stil_lex.specs.Pieces.{Piece, gap, token}
use Rattle.stil_lex.specs.Tokens.{spelled}
use Rattle.stil_lex.specs.Slow.{gap_test, word_test, quoted_test, sign_byte_test}
use Rattle.stil_lex.specs.declared.token.TokenKind.{TokenKind}
use Rattle.stil_lex.specs.declared.token.TokenKind.TheVariants.{Word, Name, Text, Sign}
use Rattle.stil_tree.specs.Signs.{semicolon, open_brace, close_brace, is_kind}
use Rattle.stil_tree.specs.Grammar.{most_levels}
use Rattle.line_texts.specs.Said.{Said, no_more, space, statement, braced, count_of}

-- a text that is a sign of this byte
abbrev pub is_sign_text : ℕ → List ℕ → List ℕ → Bool
is_sign_text byte [] after = false
is_sign_text byte (b ∷ []) after = b == byte && sign_byte_test byte after
is_sign_text byte (b ∷ c ∷ text) after = false

-- a token of a kind, before the text behind it
abbrev pub is_token : TokenKind → List ℕ → List ℕ → Bool
is_token Word text after = word_test text after
is_token Name text after = quoted_test double_quote text
is_token Text text after = quoted_test single_quote text
is_token (Sign byte) text after = is_sign_text byte text after

-- a piece, before the text behind it
abbrev pub is_piece : Piece → List ℕ → Bool
is_piece (gap text) after = gap_test text after
is_piece (token kind text) after = is_token kind text after

-- pieces, before the text behind the last
abbrev pub are_pieces : List Piece → List ℕ → Bool
are_pieces [] after = true
are_pieces (p ∷ ps) after = is_piece p (spelled ps ++ after) && are_pieces ps after

-- a token that may stand in a head
abbrev pub in_head : TokenKind → Bool
in_head kind = not (is_kind semicolon kind || is_kind open_brace kind || is_kind close_brace kind)

-- no token is a delimiter
abbrev pub is_head : List Piece → Bool
is_head [] = true
is_head (gap text ∷ ps) = is_head ps
is_head (token kind text ∷ ps) = in_head kind && is_head ps

-- statements inside so many blocks are such as the grammar has them
abbrev pub fits : ℕ → Said → Bool
fits depth no_more = true
fits depth (space text more) = fits depth more
fits depth (statement head more) = (nat_lt 0 (count_of head) && is_head head) && fits depth more
fits depth (braced head body more) =
    (nat_lt depth most_levels && is_head head) && (fits (suc depth) body && fits depth more)
