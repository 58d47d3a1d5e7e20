use Rattle.std.proofs.Common.{◌<◌, ◌≡◌, length, get_or, refl, arith}
use Rattle.std.proofs.lemmas.List.{get_or_read}
use Rattle.tester_types.specs.declared.level.Level.TheVariants.{Zero}
use Rattle.bench_net.specs.Wiring.{driver_at}
use Rattle.bench_net.specs.Gates.{level_at}
use Rattle.die_sim.specs.Moment.{captured}
use Rattle.die_sim.proofs.MomentLemmas.{flip_flop_within, CapturedTo-more}
use Rattle.std.proofs.Common.{ap, ◌∙◌}
use Rattle.bench_net.specs.declared.gate.Driver.{Driver}
use Rattle.tester_types.specs.declared.level.Level.{Level}
use Rattle.die_sim.proofs.moment.capture_each.Goals as goal

pub index-own-requires : goal.index-own-requires
index-own-requires c =
    let w = flip_flop_within c.args.net.now.net.drivers _ (c.requires.nets.each c.loop-n.n-index c.loop-n-test.true) in
    omega (arith, w, c.requires.whole.drivers, c.requires.held, c.loop-n.invariant.count, c.loop-n.held.ok)

pub driver-requires : goal.driver-requires
driver-requires c =
    let w = flip_flop_within c.args.net.now.net.drivers _ (c.requires.nets.each c.loop-n.n-index c.loop-n-test.true) in
    omega (arith, w, c.requires.whole.drivers)

pub captured-requires : goal.captured-requires
captured-requires c =
    let w = flip_flop_within c.args.net.now.net.drivers _ (c.requires.nets.each c.loop-n.n-index c.loop-n-test.true) in
    let wired = c.requires.whole.wired (get_or c.args.nets.now c.loop-n.n-index 0) w in
    rw (c.driver.ensures, c.requires.before, ← c.requires.whole.drivers) wired

pub index_mut-requires : goal.index_mut-requires
index_mut-requires c =
    let w = flip_flop_within c.args.net.now.net.drivers _ (c.requires.nets.each c.loop-n.n-index c.loop-n-test.true) in
    omega (arith, w, c.requires.whole.drivers, c.requires.held, c.loop-n.invariant.count, c.loop-n.held.ok)

pub loop-n-preserved : goal.loop-n-preserved
loop-n-preserved c =
    let n = get_or c.args.nets.now c.loop-n.n-index 0 in
    let w = flip_flop_within c.args.net.now.net.drivers n (c.requires.nets.each c.loop-n.n-index c.loop-n-test.true) in
    let within : n < length c.loop-n.held.items = omega (arith, w, c.requires.whole.drivers, c.requires.held, c.loop-n.invariant.count) in
    let own : c.index-own.result.now ≡ level_at c.loop-n.held.items n = get_or_read c.loop-n.held.items n c.index-own.result.now within c.index-own.ensures Zero in
    CapturedTo-more c.args.net.now.net.drivers c.args.edge c.args.before.now c.args.held.now.items c.loop-n.held.items c.args.nets.now c.loop-n.n-index n c.captured.result refl within
    (c.captured.ensures ∙ ap (λ (d : Driver). captured d c.args.edge c.index-own.result.now c.args.before.now) c.driver.ensures ∙ ap (λ (l : Level). captured (driver_at c.args.net.now.net.drivers n) c.args.edge l c.args.before.now) own)
    c.loop-n.invariant
