use Rattle.std.proofs.Common.{arith, ◌+◌, ◌-◌, ◌*◌, get_or, ◌≡◌}
use Rattle.packed_code.specs.Count.{capped}
use Rattle.packed_code.proofs.CountLemmas.{closes}
use Rattle.packed_code.proofs.cycle_sums.CycleSums.close.Goals as goal

pub returns : goal.returns
returns c =
    let value : c.at_most.result ≡ capped (c.args.times * get_or c.self.inside.sums (c.self.inside.height - 1) 0 + get_or c.self.inside.sums (c.self.inside.height - 1 - 1) 0) = omega arith in
    closes c.self.inside.height c.self.inside.sums c.args.self.now c.args.times c.at_most.result c.self.view_is c.requires c.self.invariant.0 c.self.invariant.1 value
