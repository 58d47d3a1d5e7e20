use Rattle.std.proofs.Common.{◌-◌, length, take}
use Rattle.stil_lex.specs.Tokens.{line_behind}
use Rattle.stil_lex.proofs.Loop.{IsRead}
use Rattle.stil_lex.proofs.slow.slow_lex.Given as goal

abbrev pub invariant-loop-at : goal.invariant-loop-at
invariant-loop-at l = IsRead l.bytes l.at (line_behind (take l.at l.bytes)) l.tokens.items

abbrev pub decreases-loop-at : goal.decreases-loop-at
decreases-loop-at l = length l.bytes - l.at
