-- Statements from a token on: what their heads are, and where the statements in them and behind them stand.
use Rattle.std.proofs.Common.{◌≡◌, ℕ, ◌+◌, List, ◌∷◌, ◌++◌, take, drop, sym, ap, ◌∙◌, append_assoc}
use Rattle.std.proofs.lemmas.List.{take_at, drop_at, drop-drop}
use Rattle.stil_lex.specs.Pieces.{Piece}
use Rattle.stil_lex.specs.declared.token.Token.{Token}
use Rattle.stil_tree.specs.Signs.{semicolon, open_brace, close_brace}
use Rattle.stil_form.specs.Lexeme.{Lexeme, lexemes_of}
use Rattle.line_texts.specs.Said.{Said, space, statement, braced, a_sign, pieces_of, count_of}
use Rattle.line_texts.specs.Lexemes.{lexemes_in}
use Rattle.line_texts.proofs.LexemeLemmas.{lexemes_in-append}
use Rattle.line_texts.proofs.SettingLemmas.{length-lexemes_in}

-- from this token on the lexemes are those of statements, with others behind them
pub record Stands (bytes : List ℕ) (tokens : List Token) (at : ℕ) (s : Said) : Type 0 where
  pub after : List Lexeme
  pub is : drop at (lexemes_of bytes tokens) ≡ lexemes_in (pieces_of s) ++ after

-- pieces in front of others
parted : (head rest : List Piece) (after : List Lexeme)
    → lexemes_in (head ++ rest) ++ after ≡ lexemes_in head ++ (lexemes_in rest ++ after)
parted head rest after =
    ap (λ (ls : List Lexeme). ls ++ after) (lexemes_in-append head rest)
    ∙ append_assoc (lexemes_in head) (lexemes_in rest) after

-- the lexemes of the first pieces
front_is : (all : List Lexeme) (at : ℕ) (head rest : List Piece) (after : List Lexeme)
    → drop at all ≡ lexemes_in (head ++ rest) ++ after → take (count_of head) (drop at all) ≡ lexemes_in head
front_is all at head rest after is =
    ap (take (count_of head)) (is ∙ parted head rest after)
    ∙ take_at (lexemes_in head) (lexemes_in rest ++ after) (count_of head) (length-lexemes_in head)

-- those behind them
rest_is : (all : List Lexeme) (at : ℕ) (head rest : List Piece) (after : List Lexeme)
    → drop at all ≡ lexemes_in (head ++ rest) ++ after → drop (at + count_of head) all ≡ lexemes_in rest ++ after
rest_is all at head rest after is =
    sym (drop-drop (count_of head) at all) ∙ ap (drop (count_of head)) (is ∙ parted head rest after)
    ∙ drop_at (lexemes_in head) (lexemes_in rest ++ after) (count_of head) (length-lexemes_in head)

-- those behind one sign more
behind_sign : (all : List Lexeme) (at : ℕ) (head : List Piece) (byte : ℕ) (rest : List Piece) (after : List Lexeme)
    → drop at all ≡ lexemes_in (head ++ (a_sign byte ∷ rest)) ++ after
    → drop (at + count_of head + 1) all ≡ lexemes_in rest ++ after
behind_sign all at head byte rest after is =
    sym (drop-drop 1 (at + count_of head) all) ∙ ap (drop 1) (rest_is all at head (a_sign byte ∷ rest) after is)

-- a gap in front changes nothing
pub unspaced : {bytes : List ℕ} {tokens : List Token} {at : ℕ} {gap : List ℕ} {more : Said}
    → Stands bytes tokens at (space gap more) → Stands bytes tokens at more
unspaced h = record { after = h.after; is = h.is }

-- the head of a statement
pub statement_head : {bytes : List ℕ} {tokens : List Token} {at : ℕ} {head : List Piece} {more : Said}
    → Stands bytes tokens at (statement head more)
    → take (count_of head) (drop at (lexemes_of bytes tokens)) ≡ lexemes_in head
statement_head {bytes} {tokens} {at} {head} {more} h =
    front_is (lexemes_of bytes tokens) at head (a_sign semicolon ∷ pieces_of more) h.after h.is

-- what is behind it
pub behind_statement : {bytes : List ℕ} {tokens : List Token} {at : ℕ} {head : List Piece} {more : Said}
    → Stands bytes tokens at (statement head more) → Stands bytes tokens (at + count_of head + 1) more
behind_statement {bytes} {tokens} {at} {head} {more} h = record {
  after = h.after;
  is = behind_sign (lexemes_of bytes tokens) at head semicolon (pieces_of more) h.after h.is;
}

-- the head of a statement with a block
pub braced_head : {bytes : List ℕ} {tokens : List Token} {at : ℕ} {head : List Piece} {body more : Said}
    → Stands bytes tokens at (braced head body more)
    → take (count_of head) (drop at (lexemes_of bytes tokens)) ≡ lexemes_in head
braced_head {bytes} {tokens} {at} {head} {body} {more} h =
    front_is (lexemes_of bytes tokens) at head
    (a_sign open_brace ∷ (pieces_of body ++ (a_sign close_brace ∷ pieces_of more))) h.after h.is

-- from its block on
opened : {bytes : List ℕ} {tokens : List Token} {at : ℕ} {head : List Piece} {body more : Said}
    → (h : Stands bytes tokens at (braced head body more))
    → drop (at + count_of head + 1) (lexemes_of bytes tokens)
    ≡ lexemes_in (pieces_of body ++ (a_sign close_brace ∷ pieces_of more)) ++ h.after
opened {bytes} {tokens} {at} {head} {body} {more} h =
    behind_sign (lexemes_of bytes tokens) at head open_brace (pieces_of body ++ (a_sign close_brace ∷ pieces_of more))
    h.after h.is

-- the statements in it
pub inside_braced : {bytes : List ℕ} {tokens : List Token} {at : ℕ} {head : List Piece} {body more : Said}
    → Stands bytes tokens at (braced head body more) → Stands bytes tokens (at + count_of head + 1) body
inside_braced {bytes} {tokens} {at} {head} {body} {more} h = record {
  after = lexemes_in (a_sign close_brace ∷ pieces_of more) ++ h.after;
  is = opened h ∙ parted (pieces_of body) (a_sign close_brace ∷ pieces_of more) h.after;
}

-- and those behind it
pub behind_braced : {bytes : List ℕ} {tokens : List Token} {at : ℕ} {head : List Piece} {body more : Said}
    → Stands bytes tokens at (braced head body more)
    → Stands bytes tokens (at + count_of head + 1 + count_of (pieces_of body) + 1) more
behind_braced {bytes} {tokens} {at} {head} {body} {more} h = record {
  after = h.after;
  is = behind_sign (lexemes_of bytes tokens) (at + count_of head + 1) (pieces_of body) close_brace (pieces_of more) h.after (opened h);
}
