use Rattle.std.proofs.Common.{◌≡◌, ◌<◌, ◌≤◌, ◌+◌, ◌*◌, ◌∙◌, ℕ, List, length, get_or, sym, ap, subst, arith, length-append}
use Rattle.bench_net.specs.declared.gate.Driver.{Driver}
use Rattle.bench_net.specs.Wiring.{pins_of, pins_at}
use Rattle.die_sim.specs.declared.cells.Cell.{Cell}
use Rattle.die_sim.specs.Cells.{AreWiredTo, HoldsPins}
use Rattle.die_sim.proofs.OrderLemmas.{length-order-le}
use Rattle.die_sim.proofs.CellLemmas.{net_within, gate_pins_few, AreWiredTo-more}
use Rattle.die_sim.proofs.cells.Cells.wired.Goals as goal

pub driver-requires : goal.driver-requires
driver-requires c =
    let order = c.order-gate-items.ensures.order in
    let within = subst (λ (l : List ℕ). c.loop-gate.gate-index < length l) order c.loop-gate-test.true in
    subst (λ (l : List ℕ). get_or l c.loop-gate.gate-index 0 < length c.args.net.now.net.names) (sym order)
    (net_within c.args.net.now c.order-gate-items.ensures.whole c.loop-gate.gate-index within)

pub cell_of-requires-clause-few : goal.cell_of-requires-clause-few
cell_of-requires-clause-few c =
    let order = c.order-gate-items.ensures.order in
    let whole = c.order-gate-items.ensures.whole in
    let k = c.loop-gate.gate-index in
    let drivers = c.args.net.now.net.drivers in
    let within : k < length c.args.net.now.order = subst (λ (l : List ℕ). k < length l) order c.loop-gate-test.true in
    let is : c.pins_of.result.now ≡ pins_at drivers (get_or c.args.net.now.order k 0) =
    c.pins_of.ensures ∙ ap (λ (d : Driver). pins_of d) c.driver.ensures ∙ ap (λ (l : List ℕ). pins_at drivers (get_or l k 0)) order in
    let few = gate_pins_few c.args.net.now whole k within in
    let so_far : length c.loop-gate.pins.items ≤ 1024 * k = c.loop-gate.invariant.few in
    omega (arith, few.1, ap (λ (ps : List ℕ). length ps) is, so_far, length-order-le drivers c.args.net.now.order whole.order, whole.drivers, whole.small, within)

pub loop-gate-preserved : goal.loop-gate-preserved
loop-gate-preserved c =
    let order = c.order-gate-items.ensures.order in
    let whole = c.order-gate-items.ensures.whole in
    let k = c.loop-gate.gate-index in
    let drivers = c.args.net.now.net.drivers in
    let within : k < length c.args.net.now.order = subst (λ (l : List ℕ). k < length l) order c.loop-gate-test.true in
    let is : c.pins_of.result.now ≡ pins_at drivers (get_or c.args.net.now.order k 0) =
    c.pins_of.ensures ∙ ap (λ (d : Driver). pins_of d) c.driver.ensures ∙ ap (λ (l : List ℕ). pins_at drivers (get_or l k 0)) order in
    let few = gate_pins_few c.args.net.now whole k within in
    let so_far : length c.loop-gate.pins.items ≤ 1024 * k = c.loop-gate.invariant.few in
    let front = c.in_ok-cell.ensures.front in
    let holds = subst (λ (ps : List ℕ). HoldsPins c.cell_of.new.pins.items ps c.in_ok-cell.cell) is c.in_ok-cell.ensures.holds in
    record {
      wired = subst (λ (cs : List Cell). AreWiredTo c.args.net.now cs c.cell_of.new.pins.items (k + 1)) (sym c.in_ok-push.ensures.items)
          (AreWiredTo-more c.args.net.now c.loop-gate.cells.items c.loop-gate.pins.items c.cell_of.new.pins.items k (length c.pins_of.result.now) c.in_ok-cell.cell c.loop-gate.invariant.wired front holds);
      few = omega (arith, few.1, so_far, front.few, ap (λ (ps : List ℕ). length ps) is, ap (λ (ps : List ℕ). length ps) front.is, length-append c.loop-gate.pins.items front.rest);
    }
