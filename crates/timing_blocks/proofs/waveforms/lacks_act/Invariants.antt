use Rattle.std.proofs.Common.{◌≡◌, drop, true}
use Rattle.stil_form.specs.Lexeme.{lexemes, lexemes_of}
use Rattle.timing_blocks.specs.Working.{lacks_act}
use Rattle.timing_blocks.proofs.waveforms.lacks_act.Given as goal

-- those that are still to be looked at decide
abbrev pub invariant-loop-token : goal.invariant-loop-token
invariant-loop-token l =
    lacks_act l.at_act (lexemes_of l.rest.bytes.now (drop l.token-index l.rest.tokens.now)) ≡ lacks_act true (lexemes l.rest)
