use Rattle.die_words.proofs.FitLemmas.{AreRefreshed}
use Rattle.die_words.proofs.clocking.refresh_each.Given as goal

abbrev pub invariant-loop-n : goal.invariant-loop-n
invariant-loop-n l = AreRefreshed l.net l.forces l.held l.fn.words.items l.words.items l.pending l.nets l.n-index
