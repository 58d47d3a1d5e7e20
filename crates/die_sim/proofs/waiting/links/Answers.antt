use Rattle.std.proofs.Common.{◌≡◌, ◌+◌, ◌<◌, ◌++◌, ◌∷◌, [], ◌∙◌, ℕ, List, length, get_or, set, sym, ap, subst, arith}
use Rattle.std.proofs.lemmas.List.{get_or_read}
use Rattle.bench_net.specs.declared.gate.Driver.{Driver}
use Rattle.bench_net.specs.declared.gate.Driver.TheVariants.{Dff}
use Rattle.bench_net.specs.Wiring.{driver_at, IsWired}
use Rattle.die_sim.specs.Waiting.{first_at, AreLinkedTo}
use Rattle.die_sim.proofs.MomentLemmas.{flip_flop_within}
use Rattle.die_sim.proofs.WaitingLemmas.{AreLinkedTo-more}
use Rattle.die_sim.proofs.waiting.links.Goals as goal

pub loop-place-preserved : goal.loop-place-preserved
loop-place-preserved c =
    let drivers = c.args.net.now.net.drivers in
    let k = c.loop-place.place in
    let n = get_or c.args.nets.now k 0 in
    let pin = c.d_net-pin.result in
    let firsts = c.loop-place.firsts.items in
    let nexts = c.loop-place.nexts.items in
    let was = c.loop-place.invariant in
    let is : driver_at drivers n ≡ Dff pin = sym c.driver.ensures ∙ c.d_net-pin.ensures in
    let flip = flip_flop_within drivers n (c.requires.flip_flops.each k c.loop-place-test.true) in
    let wired = subst (λ (d : Driver). IsWired (length drivers) d) is (c.requires.whole.wired n flip) in
    let room : pin < length firsts = omega (arith, wired, was.size) in
    let read : c.index.result.now ≡ first_at firsts pin = get_or_read firsts pin c.index.result.now room c.index.ensures 0 in
    let pushed : c.push.new.self.items ≡ nexts ++ first_at firsts pin ∷ [] = c.in_ok-push.ensures.items ∙ ap (λ (x : ℕ). nexts ++ x ∷ []) read in
    subst (λ (xs : List ℕ). AreLinkedTo drivers c.args.nets.now (set firsts pin (k + 1)) xs (k + 1)) (sym pushed)
    (AreLinkedTo-more drivers c.args.nets.now firsts nexts k pin is wired was)
