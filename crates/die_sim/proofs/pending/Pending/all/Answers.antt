use Rattle.std.proofs.Common.{List, ℕ, length, ap, arith}
use Rattle.die_sim.proofs.OrderLemmas.{length-order-le}
use Rattle.die_sim.proofs.PendingLemmas.{pending_gates}
use Rattle.die_sim.proofs.pending.Pending.all.Goals as goal

pub new-requires : goal.new-requires
new-requires c =
    let few = length-order-le c.args.net.now.net.drivers c.args.net.now.order c.order.ensures.whole.order in
    omega (arith, few, ap (λ (l : List ℕ). length l) c.order.ensures.order, c.order.ensures.whole.drivers, c.order.ensures.whole.small)

pub returns-clause-pending : goal.returns-clause-pending
returns-clause-pending c =
    let size = c.seat_all.ensures.size in
    let same = ap (λ (l : List ℕ). length l) c.order.ensures.order in
    pending_gates c.args.net.now.net.drivers c.args.net.now.order c.order.ensures.whole.order (record { places = c.seat_all.new.places.items; bits = c.seat_all.new.bits })
    (omega (arith, size, c.in_ok-bits.ensures.few)) (omega (arith, size, same, c.in_ok-bits.ensures.room)) c.seat_all.ensures.seated
