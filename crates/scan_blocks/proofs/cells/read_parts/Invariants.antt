use Rattle.std.proofs.Common.{◌≡◌, drop}
use Rattle.answers.specs.Reading.{stepping}
use Rattle.stil_form.specs.Lexeme.{lexemes_of, lexemes}
use Rattle.scan_blocks.specs.Working.{cells_step, cells_start}
use Rattle.scan_blocks.proofs.cells.read_parts.Given as goal

-- what was read, and the rest, are the whole
abbrev pub invariant-loop-token : goal.invariant-loop-token
invariant-loop-token l =
    stepping (cells_step l.first) l.read (lexemes_of l.head.bytes.now (drop l.token-index l.token-items))
    ≡ stepping (cells_step l.first) cells_start (lexemes l.fn.head)
