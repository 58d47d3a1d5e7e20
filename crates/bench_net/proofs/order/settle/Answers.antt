use Rattle.std.proofs.Common.{◌∙◌}
use Rattle.bench_net.proofs.SortLemmas.{SettlesOne-first}
use Rattle.bench_net.proofs.order.settle.Goals as goal

pub loop-rest-preserved : goal.loop-rest-preserved
loop-rest-preserved c =
    let one = SettlesOne-first c.loop-rest.left.items c.loop-rest.order.items c.loop-rest.rest.now c.settle_one.new.left.items c.settle_one.new.order.items 0 c.in-len1-up.len_at_least c.in_ok-settle_one.ensures.left c.in_ok-settle_one.ensures.order c.loop-rest.invariant.can in
    record { can = one.can; walk = one.walk ∙ c.loop-rest.invariant.walk }
