use Rattle.die_words.proofs.BoardLemmas.{FitNets-fresh}
use Rattle.die_words.proofs.nets.NetWords.of_net.Goals as goal

pub returns-clause-fit : goal.returns-clause-fit
returns-clause-fit c =
    FitNets-fresh c.args.net.now _ c.nets-count.result c.nets-count.ensures.whole c.nets-count.ensures.count
    c.in_ok-forces.ensures c.in_ok-offs.ensures c.in_ok-held.ensures c.in_ok-words.ensures c.in_ok-pending.ensures.seats
    c.in_ok-pending.ensures.pending
