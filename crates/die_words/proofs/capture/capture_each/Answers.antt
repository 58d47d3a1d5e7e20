use Rattle.std.proofs.Common.{◌∙◌, refl, arith}
use Rattle.die_words.proofs.CaptureLemmas.{HasCaptured-none, HasCaptured-more, HasCaptured-all, source_within, other_net}
use Rattle.die_words.proofs.capture.capture_each.Goals as goal

pub loop-place-init : goal.loop-place-init
loop-place-init c = record {
  count = refl;
  lanes = λ was now means k v own before held.
      HasCaptured-none c.args.net.now.net.drivers was now v own c.args.held.now.items c.args.nets.now k held;
  others = λ n e. refl;
}

pub capture_one-requires-clause-net : goal.capture_one-requires-clause-net
capture_one-requires-clause-net c =
    let there = source_within c.args.net.now c.requires.whole c.args.nets.now c.args.sources.now c.loop-place.place c.requires.registers c.loop-place-test.true in
    omega (arith, there.0, c.loop-place.invariant.count, c.requires.held)

pub capture_one-requires-clause-source : goal.capture_one-requires-clause-source
capture_one-requires-clause-source c =
    let there = source_within c.args.net.now c.requires.whole c.args.nets.now c.args.sources.now c.loop-place.place c.requires.registers c.loop-place-test.true in
    omega (arith, there.1, c.requires.before)

pub loop-place-preserved : goal.loop-place-preserved
loop-place-preserved c =
    let i = c.loop-place.place in
    let there = source_within c.args.net.now c.requires.whole c.args.nets.now c.args.sources.now i c.requires.registers c.loop-place-test.true in
    record {
      count = c.capture_one.ensures.count ∙ c.loop-place.invariant.count;
      lanes = λ was now means k v own before held.
          HasCaptured-more c.args.net.now.net.drivers was now v own c.args.before.now c.loop-place.held.items c.capture_one.new.held.items
          c.args.nets.now c.args.sources.now i k c.args.rise c.requires.registers c.loop-place-test.true c.requires.before
          (c.loop-place.invariant.count ∙ c.requires.held) c.capture_one.ensures.count there.1 means
          (c.capture_one.ensures.here k) c.capture_one.ensures.others before
          (c.loop-place.invariant.lanes was now means k v own before held);
      others = λ n e. c.capture_one.ensures.others n (other_net c.args.net.now.net.drivers c.args.nets.now c.args.sources.now i n c.requires.registers c.loop-place-test.true e)
          ∙ c.loop-place.invariant.others n e;
    }

pub returns-clause-lanes : goal.returns-clause-lanes
returns-clause-lanes c = λ was now means k v own before held.
    HasCaptured-all c.args.net.now.net.drivers was now v own c.loop-place.held.items c.args.nets.now c.args.sources.now
    c.loop-place.place k c.requires.registers c.loop-place-test.false (c.loop-place.invariant.count ∙ c.requires.held)
    (c.loop-place.invariant.lanes was now means k v own before held)
