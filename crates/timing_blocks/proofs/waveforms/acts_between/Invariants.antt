use Rattle.std.proofs.Common.{◌≡◌, drop, false, []}
use Rattle.stil_form.specs.Lexeme.{lexemes, lexemes_of}
use Rattle.timing_blocks.specs.Working.{acts_from}
use Rattle.timing_blocks.proofs.waveforms.acts_between.Given as goal

-- what was read, and the rest, are the whole
abbrev pub invariant-loop-token : goal.invariant-loop-token
invariant-loop-token l = acts_from l.slash_next l.acts.items (lexemes_of l.rest.bytes.now (drop l.token-index l.rest.tokens.now)) ≡ acts_from false [] (lexemes l.rest)
