use Rattle.std.proofs.Common.{◌-◌, length}
use Rattle.stil_lex.proofs.Loop.{IsRead}
use Rattle.stil_lex.proofs.lexer.read_onto.Given as goal

abbrev pub invariant-loop-at : goal.invariant-loop-at
invariant-loop-at l = IsRead l.bytes l.at l.line l.tokens.items

abbrev pub decreases-loop-at : goal.decreases-loop-at
decreases-loop-at l = length l.bytes - l.at
