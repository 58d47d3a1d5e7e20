use Rattle.std.proofs.Common.{◌<◌, Bool, List, true, length, ap, ◌∙◌, arith, length-set}
use Rattle.die_sim.proofs.WaitingLemmas.{waits_more}
use Rattle.die_sim.proofs.waiting.set_each.Goals as goal

pub loop-place-preserved : goal.loop-place-preserved
loop-place-preserved c =
    let was = c.loop-place.invariant in
    let room : c.loop-place.place < length c.loop-place.bits = omega (arith, c.loop-place-test.true, c.requires, was.size) in
    record {
      size = ap (λ (b : List Bool). length b) c.set.ensures ∙ length-set c.loop-place.bits c.loop-place.place true ∙ was.size;
      all = waits_more c.loop-place.bits c.set.new.self c.loop-place.place c.set.ensures room was.all;
    }
