use Rattle.die_words.proofs.FitLemmas.{AreRefreshed-none, AreRefreshed-more, AreRefreshed-all}
use Rattle.die_words.proofs.clocking.refresh_each.Goals as goal

pub loop-n-init : goal.loop-n-init
loop-n-init c = AreRefreshed-none c.args.net.now c.args.forces.now c.args.held.now c.args.words.now.items c.args.pending.now c.args.nets.now c.requires.waits

pub loop-n-preserved : goal.loop-n-preserved
loop-n-preserved c =
    let i = c.loop-n.n-index in
    AreRefreshed-more c.args.net.now c.args.forces.now c.args.held.now c.args.words.now.items c.loop-n.words.items c.put_word.new.words.items
    c.loop-n.pending c.put_word.new.pending c.args.nets.now i c.forced-word.result c.loop-n-test.true
    (c.requires.flip_flops i c.loop-n-test.true) c.forced-word.ensures.fits c.put_word.ensures.seats c.put_word.ensures.puts c.loop-n.invariant

pub returns-clause-fit : goal.returns-clause-fit
returns-clause-fit c =
    AreRefreshed-all c.args.net.now c.args.forces.now c.args.held.now c.args.words.now.items c.loop-n.words.items c.loop-n.pending
    c.args.nets.now c.loop-n.n-index c.loop-n-test.false c.loop-n.invariant
