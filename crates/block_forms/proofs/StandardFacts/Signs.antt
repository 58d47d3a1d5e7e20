-- Tokens of known texts by their kinds and places, all on the first line.
use Rattle.std.proofs.Common.{ℕ, ◌+◌}
use Rattle.stil_lex.specs.declared.token.Token.{Token}
use Rattle.stil_lex.specs.declared.token.TokenKind.{TokenKind}
use Rattle.stil_lex.specs.declared.token.TokenKind.TheVariants as kind

-- a token from one place to another
abbrev pub token : TokenKind → ℕ → ℕ → Token
token what start end = record { kind = what; line = 1; start = start; end = end }

-- a word, what stands in double quotes, and what stands in single quotes
abbrev pub word : ℕ → ℕ → Token
word start end = token kind.Word start end

abbrev pub name : ℕ → ℕ → Token
name start end = token kind.Name start end

abbrev pub text : ℕ → ℕ → Token
text start end = token kind.Text start end

-- a sign of this byte
abbrev pub mark : ℕ → ℕ → Token
mark byte start = token (kind.Sign byte) start (start + 1)
