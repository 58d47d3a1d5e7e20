-- The text of a token: its spelling without the quotes.
use Rattle.std.specs.Prelude.{ℕ, ◌+◌, ◌-◌, List, take, drop}
use Rattle.stil_lex.specs.declared.token.TokenKind.{TokenKind}
use Rattle.stil_lex.specs.declared.token.TokenKind.TheVariants.{Word, Name, Text, Sign}
use Rattle.stil_lex.specs.declared.token.Token.{Token}

-- how many bytes a quote takes at each end
abbrev pub quote_len : TokenKind → ℕ
quote_len Word = 0
quote_len Name = 1
quote_len Text = 1
quote_len (Sign byte) = 0

-- the bytes from one place up to another
abbrev pub bytes_between : List ℕ → ℕ → ℕ → List ℕ
bytes_between bytes from to = take (to - from) (drop from bytes)

-- the text of a token of these bytes
abbrev pub text_of : List ℕ → Token → List ℕ
text_of bytes t = bytes_between bytes (t.start + quote_len t.kind) (t.end - quote_len t.kind)
