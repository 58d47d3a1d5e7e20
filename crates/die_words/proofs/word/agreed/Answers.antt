use Rattle.die_words.proofs.WordLemmas.{shows_agreed}
use Rattle.die_words.proofs.word.agreed.Goals as goal

pub returns : goal.returns
returns c = shows_agreed c.args.own c.args.source
