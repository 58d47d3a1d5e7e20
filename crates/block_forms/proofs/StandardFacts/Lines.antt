-- Tokens of known texts on other lines than the first.
use Rattle.std.proofs.Common.{ℕ}
use Rattle.stil_lex.specs.declared.token.Token.{Token}

-- a token on a line
abbrev pub on : ℕ → Token → Token
on line token = record token { line = line }
