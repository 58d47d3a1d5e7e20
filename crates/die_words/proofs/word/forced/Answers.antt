use Rattle.std.proofs.Common.{arith}
use Rattle.die_words.proofs.WordLemmas.{shows_forced}
use Rattle.die_words.proofs.word.forced.Goals as goal

pub returns-clause-shows : goal.returns-clause-shows
returns-clause-shows c = shows_forced c.args.word c.args.force (omega arith) (omega arith)

pub returns-clause-fits : goal.returns-clause-fits
returns-clause-fits c = record {
  each = λ k f x within fault shows. shows_forced c.args.word c.args.force (omega arith) (omega arith) k x f within shows fault;
}
