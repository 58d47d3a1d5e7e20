use Rattle.burst_exec.proofs.TreeLemmas.{trees-push, even-push}
use Rattle.burst_exec.proofs.trees.Draft.put.Goals as goal

pub returns-clause-even : goal.returns-clause-even
returns-clause-even c =
    rw (c.in_ok-push.ensures.items, c.in_ok-push-2.ensures.items)
    (even-push c.args.self.now.titles.items c.args.self.now.flats.items c.args.titles c.args.flat c.requires)

pub returns-clause-one_more : goal.returns-clause-one_more
returns-clause-one_more c =
    rw (c.in_ok-push.ensures.items, c.in_ok-push-2.ensures.items)
    (trees-push c.args.self.now.titles.items c.args.self.now.flats.items c.args.titles c.args.flat c.requires)
