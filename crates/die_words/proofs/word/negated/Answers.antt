use Rattle.die_words.proofs.WordLemmas.{shows_negated}
use Rattle.die_words.proofs.word.negated.Goals as goal

pub returns : goal.returns
returns c = shows_negated c.args.word
