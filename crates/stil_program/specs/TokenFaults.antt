-- The fault of a text that has no tokens. Its line is that of its place, and its block is read from the tokens that end
-- before the place.
use Rattle.std.specs.Prelude.{ℕ, List, [], take}
use Rattle.stil_lex.specs.Tokens.{line_behind, tokens_of}
use Rattle.stil_lex.specs.Faults.{IsFault}
use Rattle.stil_lex.specs.declared.token.Token.{Token}
use Rattle.stil_lex.specs.declared.fault.LexFault.{LexFault}
use Rattle.stil_lex.specs.declared.fault.LexFault.TheVariants.{NoMemory, BadByte, OpenQuote, OpenComment}
use Rattle.stil_ast.specs.declared.fault.StilKind.TheVariants as stil
use Rattle.stil_ast.specs.declared.fault.StilFault.{StilFault}
use Rattle.stil_program.specs.Places.{IsToldBehind}

-- the line of a place: one more than the line feeds before it
abbrev pub line_of_place : List ℕ → ℕ → ℕ
line_of_place bytes at = line_behind (take at bytes)

-- what is told of a fault of tokens, before which these tokens are read
abbrev pub IsToldOf : List ℕ → List Token → LexFault → StilFault → Type 0
IsToldOf bytes read NoMemory fault = ⊥
IsToldOf bytes read (BadByte at) fault = IsToldBehind bytes read stil.BadByte (line_of_place bytes at) fault
IsToldOf bytes read (OpenQuote at) fault = IsToldBehind bytes read stil.OpenQuote (line_of_place bytes at) fault
IsToldOf bytes read (OpenComment at) fault = IsToldBehind bytes read stil.OpenComment (line_of_place bytes at) fault

-- the fault of a text without tokens is this one; before it the tokens of the text's pieces are read
pub record IsTokenFault (bytes : List ℕ) (fault : StilFault) : Type 0 where
  pub which : LexFault
  pub refused : IsFault bytes which
  pub told : IsToldOf bytes (tokens_of [] refused.here.pieces) which fault
