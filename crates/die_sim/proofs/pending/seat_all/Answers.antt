use Rattle.std.proofs.Common.{◌<◌, ◌+◌, ◌∙◌, ℕ, Bool, true, List, length, get_or, set, sym, subst, ap, arith, length-set}
use Rattle.die_sim.specs.Pending.{SeatedTo}
use Rattle.bench_net.proofs.SortLemmas.{gate_within}
use Rattle.die_sim.proofs.OrderLemmas.{gate_in_order, length-order-le}
use Rattle.die_sim.proofs.PendingLemmas.{SeatedTo-more}
use Rattle.die_sim.proofs.pending.seat_all.Goals as goal

pub overflow_cast-place : goal.overflow_cast-place
overflow_cast-place c =
    let few = length-order-le c.args.net.now.net.drivers c.args.net.now.order c.order-gate-items.ensures.whole.order in
    omega (arith, c.loop-place-test.true, few, ap (λ (l : List ℕ). length l) c.order-gate-items.ensures.order, c.order-gate-items.ensures.whole.drivers, c.order-gate-items.ensures.whole.small)

pub index_mut-requires : goal.index_mut-requires
index_mut-requires c =
    let within : c.loop-place.place < length c.args.net.now.order = subst (λ (l : List ℕ). c.loop-place.place < length l) c.order-gate-items.ensures.order c.loop-place-test.true in
    let gate = gate_within c.args.net.now.net.drivers _ (gate_in_order c.args.net.now.net.drivers c.args.net.now.order c.order-gate-items.ensures.whole.order c.loop-place.place within) in
    omega (arith, gate, ap (λ (l : List ℕ). get_or l c.loop-place.place 0) c.order-gate-items.ensures.order, c.order-gate-items.ensures.whole.drivers, c.loop-place.invariant.places, c.loop-place.places.ok)

pub loop-place-preserved : goal.loop-place-preserved
loop-place-preserved c =
    let order = c.args.net.now.order in
    let k = c.loop-place.place in
    let whole = c.order-gate-items.ensures.whole in
    let within : k < length order = subst (λ (l : List ℕ). k < length l) c.order-gate-items.ensures.order c.loop-place-test.true in
    let gate : get_or order k 0 < length c.loop-place.places.items = omega (arith, gate_within c.args.net.now.net.drivers (get_or order k 0) (gate_in_order c.args.net.now.net.drivers order whole.order k within), whole.drivers, c.loop-place.invariant.places) in
    let room : k < length c.loop-place.bits = omega (arith, within, c.requires.room, c.loop-place.invariant.size) in
    let more = SeatedTo-more c.args.net.now.net.drivers order whole.order c.loop-place.places.items c.loop-place.bits k within gate room c.loop-place.invariant.seated in
    let same = ap (λ (l : List ℕ). set c.loop-place.places.items (get_or l k 0) k) c.order-gate-items.ensures.order in
    record {
      seated = subst (λ (b : List Bool). SeatedTo order (set c.loop-place.places.items (get_or c.order-gate-items.result.now k 0) k) b (k + 1)) (sym c.set.ensures) (subst (λ (p : List ℕ). SeatedTo order p (set c.loop-place.bits k true) (k + 1)) (sym same) more);
      places = length-set c.loop-place.places.items (get_or c.order-gate-items.result.now k 0) k ∙ c.loop-place.invariant.places;
      size = ap (λ (b : List Bool). length b) c.set.ensures ∙ length-set c.loop-place.bits k true ∙ c.loop-place.invariant.size;
    }
