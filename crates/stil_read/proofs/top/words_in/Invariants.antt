use Rattle.std.proofs.Common.{◌≡◌, drop}
use Rattle.stil_form.specs.Lexeme.{lexemes_of}
use Rattle.stil_read.specs.Top.{words_in}
use Rattle.stil_read.proofs.top.words_in.Given as goal

-- the words so far, and the rest, are the whole
abbrev pub invariant-loop-token : goal.invariant-loop-token
invariant-loop-token l =
    words_in l.first l.words (lexemes_of l.rest.bytes.now (drop l.token-index l.rest.tokens.now))
    ≡ words_in l.first l.fn.words (lexemes_of l.rest.bytes.now l.rest.tokens.now)
