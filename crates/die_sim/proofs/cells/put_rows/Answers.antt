use Rattle.std.proofs.Common.{◌≡◌, ◌<◌, ◌∙◌, ℕ, List, None, length, get_or, ap, subst, arith}
use Rattle.std.proofs.lemmas.List.{get_or_read}
use Rattle.bench_net.specs.declared.gate.Driver.{Driver}
use Rattle.bench_net.specs.Wiring.{driver_at}
use Rattle.die_sim.specs.declared.cells.Cell.{Cell}
use Rattle.die_sim.specs.Cells.{with_row, row_for, no_cell}
use Rattle.die_sim.proofs.CellLemmas.{net_within, HaveRows-more, SamePins-set}
use Rattle.die_sim.proofs.cells.put_rows.Goals as goal

pub bounds-fixed-gate : goal.bounds-fixed-gate
bounds-fixed-gate c =
    let order = c.order-gate-items.ensures.order in
    let within = subst (λ (l : List ℕ). c.loop-place.place < length l) order c.loop-place-test.true in
    let net = net_within c.args.net.now c.order-gate-items.ensures.whole c.loop-place.place within in
    omega (arith, net, c.requires.fixed, ap (λ (l : List ℕ). get_or l c.loop-place.place 0) order)

pub driver-requires : goal.driver-requires
driver-requires c =
    let order = c.order-gate-items.ensures.order in
    let within = subst (λ (l : List ℕ). c.loop-place.place < length l) order c.loop-place-test.true in
    let net = net_within c.args.net.now c.order-gate-items.ensures.whole c.loop-place.place within in
    omega (arith, net, ap (λ (l : List ℕ). get_or l c.loop-place.place 0) order)

pub loop-place-preserved : goal.loop-place-preserved
loop-place-preserved c =
    let order = c.order-gate-items.ensures.order in
    let k = c.loop-place.place in
    let drivers = c.args.net.now.net.drivers in
    let below : k < length c.args.net.now.order = subst (λ (l : List ℕ). k < length l) order c.loop-place-test.true in
    let within : k < length c.loop-place.cells.items = omega (arith, below, c.requires.count, c.loop-place.invariant.pins.count) in
    let row : c.row_for-row.result ≡ row_for (get_or c.args.fixed.now (get_or c.args.net.now.order k 0) None) (driver_at drivers (get_or c.args.net.now.order k 0)) =
    c.row_for-row.ensures
    ∙ ap (λ (d : Driver). row_for (get_or c.args.fixed.now (get_or c.order-gate-items.result.now k 0) None) d) c.driver.ensures
    ∙ ap (λ (l : List ℕ). row_for (get_or c.args.fixed.now (get_or l k 0) None) (driver_at drivers (get_or l k 0))) order in
    let cell : c.index.result.now ≡ get_or c.loop-place.cells.items k no_cell = get_or_read c.loop-place.cells.items k c.index.result.now within c.index.ensures no_cell in
    record {
      rows = HaveRows-more c.args.net.now c.args.fixed.now c.loop-place.cells.items k c.with_row.result c.index.result.now c.row_for-row.result within c.with_row.ensures row c.loop-place.invariant.rows;
      pins = SamePins-set c.args.cells.now.items c.loop-place.cells.items k c.with_row.result c.row_for-row.result within
          (c.with_row.ensures ∙ ap (λ (x : Cell). with_row x c.row_for-row.result) cell) c.loop-place.invariant.pins;
    }
