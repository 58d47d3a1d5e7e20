-- Tokens by their kinds and texts, and the heads and blocks of statements.
use Rattle.std.specs.Prelude.{ℕ, List, ◌==◌, take, drop, map, Option, option_map, if◌then◌else◌}
use Rattle.stil_lex.specs.declared.token.Token.{Token}
use Rattle.stil_lex.specs.declared.token.TokenKind.{TokenKind}
use Rattle.stil_lex.specs.declared.token.TokenKind as kinds
use Rattle.stil_lex.specs.Text.{text_of}
use Rattle.stil_tree.specs.Trees.{Entry, entries}
use Rattle.stil_form.specs.declared.part.SignKind.{SignKind}
use Rattle.stil_form.specs.declared.part.SignKind.TheVariants.{Open, Close, Dot, Equals, Hash, Percent, Slash, Backslash, Colon, Plus, Minus, Bang, Other}
use Rattle.stil_form.specs.declared.part.Part.{Part}
use Rattle.stil_form.specs.declared.part.Part.TheVariants.{Word, Name, Text, Sign}
use Rattle.stil_form.specs.declared.source.Source.{Source}

-- a token without its place
pub data Lexeme : Type 0 where
  word : List ℕ → Lexeme
  name : List ℕ → Lexeme
  text : List ℕ → Lexeme
  sign : SignKind → Lexeme

-- the sign of a byte
abbrev pub sign_kind : ℕ → SignKind
sign_kind byte =
    if byte == 91 then Open
    else if byte == 93 then Close
    else if byte == 46 then Dot
    else if byte == 61 then Equals
    else if byte == 35 then Hash
    else if byte == 37 then Percent
    else if byte == 47 then Slash
    else if byte == 92 then Backslash
    else if byte == 58 then Colon
    else if byte == 43 then Plus
    else if byte == 45 then Minus
    else if byte == 33 then Bang
    else Other byte

-- a part without where its text lies in memory
abbrev pub lexeme_of : Part → Lexeme
lexeme_of (Word bytes) = word bytes.now
lexeme_of (Name bytes) = name bytes.now
lexeme_of (Text bytes) = text bytes.now
lexeme_of (Sign kind) = sign kind

-- a token of this kind with this text
abbrev pub lexeme_from : TokenKind → List ℕ → Lexeme
lexeme_from kinds.TheVariants.Word bytes = word bytes
lexeme_from kinds.TheVariants.Name bytes = name bytes
lexeme_from kinds.TheVariants.Text bytes = text bytes
lexeme_from (kinds.TheVariants.Sign byte) bytes = sign (sign_kind byte)

-- the lexeme of a token in its text
abbrev pub lexeme_at : List ℕ → Token → Lexeme
lexeme_at bytes token = lexeme_from token.kind (text_of bytes token)

-- the lexemes of tokens
abbrev pub lexemes_of : List ℕ → List Token → List Lexeme
lexemes_of bytes tokens = map (lexeme_at bytes) tokens

-- the lexemes of a text with its tokens
abbrev pub lexemes : Source → List Lexeme
lexemes source = lexemes_of source.bytes.now source.tokens.now

-- the head of a statement
abbrev pub head_of : List Lexeme → Entry → List Lexeme
head_of lexemes e = take e.count (drop e.first lexemes)

-- the statements of a statement's block
abbrev pub body_of : Entry → Option (List Entry)
body_of e = option_map entries e.body
