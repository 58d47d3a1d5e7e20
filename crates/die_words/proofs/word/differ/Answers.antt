use Rattle.die_words.proofs.WordLemmas.{shows_differ}
use Rattle.die_words.proofs.word.differ.Goals as goal

pub returns : goal.returns
returns c = shows_differ c.args.left c.args.right
