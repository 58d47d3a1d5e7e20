use Rattle.std.proofs.Common.{◌≡◌, ◌+◌, ◌*◌, ◌<◌, ◌≤◌, ◌∙◌, ℕ, List, length, get_or, sym, ap, subst, arith, length-append}
use Rattle.bench_net.specs.declared.gate.Driver.{Driver}
use Rattle.bench_net.specs.Wiring.{pins_of, is_gate, driver_at}
use Rattle.die_sim.proofs.OrderLemmas.{length-order-le, gate_in_order}
use Rattle.die_sim.proofs.CellLemmas.{net_within, gate_pins_few}
use Rattle.die_words.specs.declared.flat.Flat.{Flat}
use Rattle.die_words.specs.Flat.{IsFlat, AreFlatTo}
use Rattle.die_words.proofs.FlatLemmas.{AreFlatTo-more}
use Rattle.die_words.proofs.flat.Gates.of_net.Goals as goal

pub driver-requires : goal.driver-requires
driver-requires c =
    let order = c.order-gate-items.ensures.order in
    let within = subst (λ (l : List ℕ). c.loop-gate.gate-index < length l) order c.loop-gate-test.true in
    subst (λ (l : List ℕ). get_or l c.loop-gate.gate-index 0 < length c.args.net.now.net.names) (sym order)
    (net_within c.args.net.now c.order-gate-items.ensures.whole c.loop-gate.gate-index within)

pub flat_gate-requires-clause-gate : goal.flat_gate-requires-clause-gate
flat_gate-requires-clause-gate c =
    let order = c.order-gate-items.ensures.order in
    let whole = c.order-gate-items.ensures.whole in
    let k = c.loop-gate.gate-index in
    let drivers = c.args.net.now.net.drivers in
    let within : k < length c.args.net.now.order = subst (λ (l : List ℕ). k < length l) order c.loop-gate-test.true in
    let is : c.driver.result.now ≡ driver_at drivers (get_or c.args.net.now.order k 0) =
    c.driver.ensures ∙ ap (λ (l : List ℕ). driver_at drivers (get_or l k 0)) order in
    ap is_gate is ∙ gate_in_order drivers c.args.net.now.order whole.order k within

pub flat_gate-requires-clause-few : goal.flat_gate-requires-clause-few
flat_gate-requires-clause-few c =
    let order = c.order-gate-items.ensures.order in
    let whole = c.order-gate-items.ensures.whole in
    let k = c.loop-gate.gate-index in
    let drivers = c.args.net.now.net.drivers in
    let within : k < length c.args.net.now.order = subst (λ (l : List ℕ). k < length l) order c.loop-gate-test.true in
    let is : c.driver.result.now ≡ driver_at drivers (get_or c.args.net.now.order k 0) =
    c.driver.ensures ∙ ap (λ (l : List ℕ). driver_at drivers (get_or l k 0)) order in
    let few = gate_pins_few c.args.net.now whole k within in
    let so_far : length c.loop-gate.pins.items ≤ 1024 * k = c.loop-gate.invariant.few in
    omega (arith, few.1, ap (λ (d : Driver). length (pins_of d)) is, so_far, length-order-le drivers c.args.net.now.order whole.order, whole.drivers, whole.small, within)

pub loop-gate-preserved : goal.loop-gate-preserved
loop-gate-preserved c =
    let order = c.order-gate-items.ensures.order in
    let whole = c.order-gate-items.ensures.whole in
    let k = c.loop-gate.gate-index in
    let drivers = c.args.net.now.net.drivers in
    let within : k < length c.args.net.now.order = subst (λ (l : List ℕ). k < length l) order c.loop-gate-test.true in
    let is : c.driver.result.now ≡ driver_at drivers (get_or c.args.net.now.order k 0) =
    c.driver.ensures ∙ ap (λ (l : List ℕ). driver_at drivers (get_or l k 0)) order in
    let few = gate_pins_few c.args.net.now whole k within in
    let so_far : length c.loop-gate.pins.items ≤ 1024 * k = c.loop-gate.invariant.few in
    let front = c.in_ok-flat.ensures.front in
    let flat = subst (λ (d : Driver). IsFlat d c.flat_gate.new.pins.items c.in_ok-flat.flat) is c.in_ok-flat.ensures.flat in
    record {
      flat = subst (λ (gs : List Flat). AreFlatTo c.args.net.now gs c.flat_gate.new.pins.items (k + 1)) (sym c.in_ok-push.ensures.items)
          (AreFlatTo-more c.args.net.now c.loop-gate.gates.items c.loop-gate.pins.items c.flat_gate.new.pins.items k (length (pins_of c.driver.result.now)) c.in_ok-flat.flat c.loop-gate.invariant.flat front flat);
      few = omega (arith, few.1, so_far, front.few, ap (λ (d : Driver). length (pins_of d)) is, ap (λ (ps : List ℕ). length ps) front.is, length-append c.loop-gate.pins.items front.rest);
    }
