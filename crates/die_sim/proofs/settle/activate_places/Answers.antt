use Rattle.std.proofs.Common.{◌∙◌}
use Rattle.die_sim.proofs.ReaderLemmas.{activates_more}
use Rattle.die_sim.proofs.settle.activate_places.Goals as goal

pub loop-place-preserved : goal.loop-place-preserved
loop-place-preserved c =
    let was = c.loop-place.invariant in
    let same = c.set_at.ensures.seats in
    record {
      activates = λ order seats all. activates_more order c.args.places.now c.args.pending.now c.loop-place.pending c.set_at.new.self
          c.loop-place.place-index c.loop-place-test.true seats all was.seats c.set_at.ensures.sets (was.activates order seats all);
      seats = record { places = same.places ∙ was.seats.places; size = same.size ∙ was.seats.size };
    }
