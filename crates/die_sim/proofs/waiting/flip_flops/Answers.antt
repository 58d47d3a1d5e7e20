use Rattle.std.proofs.Common.{List, ℕ, length, ap, arith}
use Rattle.bench_net.specs.Wiring.{driver_at}
use Rattle.die_sim.specs.Walk.{is_flip_flop}
use Rattle.die_sim.proofs.MomentLemmas.{AreFlipFlops-more}
use Rattle.die_sim.proofs.WaitingLemmas.{length-pushed-le}
use Rattle.die_sim.proofs.waiting.flip_flops.Goals as goal

pub loop-n-preserved : goal.loop-n-preserved
loop-n-preserved c =
    let drivers = c.args.net.now.net.drivers in
    let n = c.loop-n.n in
    let is = c.in_ok-push_flip_flop.ensures in
    let more = length-pushed-le (is_flip_flop (driver_at drivers n)) c.loop-n.list.items n in
    record {
      all = AreFlipFlops-more drivers c.loop-n.list.items c.push_flip_flop.new.list.items n is c.loop-n.invariant.all;
      few = omega (arith, more, ap (λ (xs : List ℕ). length xs) is, c.loop-n.invariant.few);
    }
