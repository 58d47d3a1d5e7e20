use Rattle.std.proofs.Common.{◌-◌, List, length, take}
use Rattle.stil_lex.specs.Tokens.{line_behind}
use Rattle.stil_lex.specs.declared.token.Token.{Token}
use Rattle.stil_lex.proofs.Loop.{IsRead}
use Rattle.stil_lex.proofs.slow_faults.pieces_len.Given as goal

abbrev pub invariant-loop-front : goal.invariant-loop-front
invariant-loop-front l = (tokens : List Token) × IsRead l.bytes l.at (line_behind (take l.at l.bytes)) tokens

abbrev pub decreases-loop-front : goal.decreases-loop-front
decreases-loop-front l = length l.bytes - l.at
