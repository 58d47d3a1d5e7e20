use Rattle.packed_code.proofs.CountLemmas.{opens}
use Rattle.packed_code.proofs.cycle_sums.CycleSums.open.Goals as goal

pub returns : goal.returns
returns c = opens c.self.inside.height c.self.inside.sums c.args.self.now c.self.view_is c.requires c.self.invariant.1
