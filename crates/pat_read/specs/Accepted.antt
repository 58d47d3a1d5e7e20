-- What is read of the tokens of a text has its form (IEEE 1450-1999, clauses 6 and 21 to 24).
use Rattle.std.specs.Prelude.{◌≡◌, ◌<◌, ℕ, Bool, true, List, length, Ok}
use Rattle.std.specs.List.{list_all}
use Rattle.text_bytes.specs.Bytes.{is_word}
use Rattle.stil_lex.specs.declared.token.Token.{Token}
use Rattle.stil_tree.specs.Trees.{Trees}
use Rattle.stil_form.specs.Lexeme.{Lexeme, word, name, text, sign, lexeme_at}
use Rattle.stil_form.specs.Setting.{Setting, line_at}
use Rattle.stil_ast.specs.Data.Forms.{is_line}
use Rattle.stil_ast.specs.Data.Written.{Written}
use Rattle.stil_ast.specs.Data.BlockForms.{is_body}
use Rattle.pat_read.specs.declared.reader.BodyPlace.{BodyPlace}
use Rattle.pat_read.specs.Body.{is_pattern, body_of}

-- a word is of letters, digits and `_`
abbrev pub is_spelled : Lexeme → Bool
is_spelled (word bytes) = list_all is_word bytes
is_spelled (name bytes) = true
is_spelled (text bytes) = true
is_spelled (sign kind) = true

-- the words of tokens are
abbrev pub AreSpelled : List ℕ → List Token → Type 0
AreSpelled bytes tokens = list_all (λ t. is_spelled (lexeme_at bytes t)) tokens ≡ true

-- each token of a text has a line, counted from 1, in 32 bits
abbrev pub HasLines : Setting → Type 0
HasLines s = (i : ℕ) → i < length s.tokens → is_line (line_at s.tokens i) ≡ true

-- tokens as lexing gives them
pub record AreLexed (s : Setting) : Type 0 where
  pub lines : HasLines s
  pub words : AreSpelled s.bytes s.tokens

-- a body that is read has its form
abbrev pub BodiesHaveForm : Type 0
BodiesHaveForm = (s : Setting) (here : BodyPlace) (stmts : Trees) (body : Written) →
    AreLexed s → body_of s here stmts ≡ Ok body → is_body (is_pattern here) body ≡ true
