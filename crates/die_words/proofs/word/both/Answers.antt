use Rattle.die_words.proofs.WordLemmas.{shows_both}
use Rattle.die_words.proofs.word.both.Goals as goal

pub returns : goal.returns
returns c = shows_both c.args.left c.args.right
