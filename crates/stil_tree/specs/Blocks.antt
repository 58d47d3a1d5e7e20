-- The block of a place: the statement outside all braces that is open there.
use Rattle.std.specs.Prelude.{◌≡◌, ◌⊎◌, ℕ, ◌+◌, ◌-◌, ◌≤◌, Bool, true, false, nat_lt, if◌then◌else◌, List, ◌∷◌, ◌++◌, length, fold, Option, Some, None, slice_get}
use Rattle.stil_lex.specs.declared.token.Token.{Token}
use Rattle.stil_lex.specs.declared.token.TokenKind.{TokenKind}
use Rattle.stil_lex.specs.declared.token.TokenKind.TheVariants.{Word, Name, Text, Sign}
use Rattle.stil_tree.specs.Signs.{semicolon, open_brace, close_brace, is_sign}

-- how many braces are open behind a token, where `open` were before it; a `}` without a `{` closes none
abbrev pub braces_behind : ℕ → Token → ℕ
braces_behind braces t =
    if is_sign open_brace t then braces + 1 else (if is_sign close_brace t then braces - 1 else braces)

-- how many braces are open behind these tokens
abbrev pub open_braces : List Token → ℕ
open_braces tokens = fold braces_behind 0 tokens

-- the token at the index ends a statement outside all braces: a `;` outside braces, or a `}` that closes the last open
-- brace
pub record EndsStatement (tokens : List Token) (index : ℕ) : Type 0 where
  pub front : List Token
  pub token : Token
  pub back : List Token
  pub spelled : tokens ≡ front ++ token ∷ back
  pub place : index ≡ length front
  pub ends : ((is_sign semicolon token ≡ true) × (open_braces front ≡ 0))
      ⊎ ((is_sign close_brace token ≡ true) × (open_braces front ≡ 1))

-- the statement outside all braces that is open behind the tokens begins at this index: where the one before it ended
pub record BeginsAt (tokens : List Token) (start : ℕ) : Type 0 where
  pub within : start ≤ length tokens
  pub after_end : (start ≡ 0) ⊎ ((before : ℕ) × (start ≡ before + 1) × EndsStatement tokens before)
  pub still_open : (index : ℕ) → start ≤ index → EndsStatement tokens index → ⊥

-- a token of this kind may be a block's name
abbrev pub may_name : TokenKind → Bool
may_name Word = true
may_name Name = true
may_name Text = false
may_name (Sign b) = false

-- the index, where a token stands there
abbrev pub keyword_at : List Token → ℕ → Option ℕ
keyword_at tokens index = if nat_lt index (length tokens) then Some index else None

-- the index, where this token may be a name
abbrev pub name_if : Option Token → ℕ → Option ℕ
name_if None index = None
name_if (Some t) index = if may_name t.kind then Some index else None

-- the indices of the keyword and the name of the block behind these tokens: the first token of the statement that is
-- open there, and its second where that is a Word or a Name
pub record IsBlock (tokens : List Token) (found : Option ℕ × Option ℕ) : Type 0 where
  pub start : ℕ
  pub begins : BeginsAt tokens start
  pub keyword : found.0 ≡ keyword_at tokens start
  pub name : found.1 ≡ name_if (slice_get tokens (start + 1)) (start + 1)
