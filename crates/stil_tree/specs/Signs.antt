-- The signs that end a statement, open a block and close one.
use Rattle.std.specs.Prelude.{ℕ, Bool, false, ◌==◌, ◌||◌}
use Rattle.stil_lex.specs.declared.token.Token.{Token}
use Rattle.stil_lex.specs.declared.token.TokenKind.{TokenKind}
use Rattle.stil_lex.specs.declared.token.TokenKind.TheVariants.{Word, Name, Text, Sign}

-- what ends a statement without a block
abbrev pub semicolon : ℕ
semicolon = 59

-- what opens a block
abbrev pub open_brace : ℕ
open_brace = 123

-- what closes a block
abbrev pub close_brace : ℕ
close_brace = 125

-- the kind is this sign
abbrev pub is_kind : ℕ → TokenKind → Bool
is_kind byte Word = false
is_kind byte Name = false
is_kind byte Text = false
is_kind byte (Sign b) = b == byte

-- the token is this sign
abbrev pub is_sign : ℕ → Token → Bool
is_sign byte t = is_kind byte t.kind

-- the token is one of the three signs, at which a head ends
abbrev pub is_delimiter : Token → Bool
is_delimiter t = is_sign semicolon t || is_sign open_brace t || is_sign close_brace t
