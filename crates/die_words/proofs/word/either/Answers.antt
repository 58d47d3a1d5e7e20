use Rattle.die_words.proofs.WordLemmas.{shows_either}
use Rattle.die_words.proofs.word.either.Goals as goal

pub returns : goal.returns
returns c = shows_either c.args.left c.args.right
