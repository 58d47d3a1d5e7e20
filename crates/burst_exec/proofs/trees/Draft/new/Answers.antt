use Rattle.burst_exec.proofs.TreeLemmas.{even-none}
use Rattle.burst_exec.proofs.trees.Draft.new.Goals as goal

pub returns-clause-even : goal.returns-clause-even
returns-clause-even c = rw (c.new.ensures.items, c.new-2.ensures.items) even-none
