-- Tokens by their kinds and places, for known texts.
use Rattle.std.proofs.Common.{ℕ, ◌+◌}
use Rattle.stil_lex.specs.declared.token.Token.{Token}
use Rattle.stil_lex.specs.declared.token.TokenKind.{TokenKind}
use Rattle.stil_lex.specs.declared.token.TokenKind.TheVariants as kind

-- a token of the first line
abbrev pub token : TokenKind → ℕ → ℕ → Token
token what start end = record { kind = what; line = 1; start = start; end = end }

-- a word from one place to another
abbrev pub word : ℕ → ℕ → Token
word start end = token kind.Word start end

-- a sign of this byte at a place
abbrev pub mark : ℕ → ℕ → Token
mark byte start = token (kind.Sign byte) start (start + 1)

-- a `\` at a place
abbrev pub backslash : ℕ → Token
backslash start = mark 92 start
