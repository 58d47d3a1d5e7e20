-- What statements are read by: a text with its tokens, and the words of its UserKeywords statements so far (IEEE
-- 1450-1999, clause 11).
use Rattle.std.specs.Prelude.{ℕ, not, List, [], filter, take, drop, slice_get, Option, Some, None, Result, Ok, Err}
use Rattle.std.specs.Option.{option_map_or}
use Rattle.stil_lex.specs.declared.token.Token.{Token}
use Rattle.stil_tree.specs.Trees.{Trees, Entry, entries}
use Rattle.stil_form.specs.declared.fault.FormKind.{FormKind}
use Rattle.stil_form.specs.declared.fault.FormFault.{FormFault}
use Rattle.stil_form.specs.declared.fault.FormFault.TheVariants.{Refused}
use Rattle.stil_form.specs.declared.setting.Reader.{Reader}
use Rattle.stil_form.specs.Lexeme.{Lexeme, lexemes_of, head_of}
use Rattle.stil_form.specs.Reading.{is_skipped}

-- a text with its tokens, and the words
pub record Setting : Type 0 where
  pub bytes : List ℕ
  pub tokens : List Token
  pub words : List (List ℕ)

-- the setting of these
abbrev pub setting : List ℕ → List Token → List (List ℕ) → Setting
setting bytes tokens words = record { bytes = bytes; tokens = tokens; words = words }

-- what a reader reads by
abbrev pub setting_of : Reader → Setting
setting_of reader = setting reader.source.bytes.now reader.source.tokens.now reader.words.now

-- the tokens of a statement's head
abbrev pub tokens_at : List Token → Entry → List Token
tokens_at tokens e = take e.count (drop e.first tokens)

-- the lexemes of a statement's head
abbrev pub lexemes_at : Setting → Entry → List Lexeme
lexemes_at s e = head_of (lexemes_of s.bytes s.tokens) e

-- the line of the token at an index
abbrev pub line_at : List Token → ℕ → ℕ
line_at tokens index = option_map_or (λ token. token.line) (slice_get tokens index) 0

-- a form's fault is one of the statement with this first token
abbrev pub at_statement : {X : Type 0} → ℕ → Result X FormKind → Result X FormFault
at_statement first (Ok said) = Ok said
at_statement first (Err kind) = Err (Refused kind first)

-- the statements of a block, where there is one
abbrev pub inner_of : Option Trees → List Entry
inner_of None = []
inner_of (Some inside) = entries inside

-- statements without those that begin with one of the words
abbrev pub unskipped : Setting → List Entry → List Entry
unskipped s es = filter (λ e. not (is_skipped s.words (lexemes_at s e))) es
