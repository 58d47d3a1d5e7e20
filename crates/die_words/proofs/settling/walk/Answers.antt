use Rattle.std.proofs.Common.{◌<◌, ◌≤◌, ◌+◌, ℕ, List, length, get_or, arith, subst}
use Rattle.die_words.specs.Fits.{VisitsWord}
use Rattle.die_words.proofs.FitLemmas.{AreDoneTo-more, AreDoneTo-on, GatesWait-visited, GatesFit-done}
use Rattle.die_words.proofs.settling.walk.Goals as goal

pub loop-place-preserved : goal.loop-place-preserved
loop-place-preserved c =
    let net = c.args.net.now in
    let place = c.loop-place.place in
    let forces = c.args.forces.now in
    let start = c.args.words.now.items in
    let old = c.loop-place.words.items in
    let new = c.visit.new.words.items in
    let is = c.order-order.ensures.order in
    let next = c.next-place-in-loop-place in
    let within : place < length net.order = subst (λ (l : List ℕ). place < length l) is c.loop-place-test.true in
    let v = subst (λ (l : List ℕ). VisitsWord net forces (get_or l place 0) old new c.loop-place.pending c.visit.new.pending) is c.visit.ensures.visits in
    let waits = GatesWait-visited net c.requires.whole forces start old new c.loop-place.pending c.visit.new.pending place within v c.visit.ensures.seats c.loop-place.invariant.waits in
    let seats = c.visit.ensures.seats in
    record {
      done = AreDoneTo-on net c.requires.whole forces start new c.visit.new.pending (place + 1) next.result
          (λ i a b l. next.ensures.skipped (get_or net.order i 0) (omega (arith, seats.here i l, a)) (omega (arith, seats.here i l, b))) waits
          (AreDoneTo-more net c.requires.whole forces start old new c.loop-place.pending c.visit.new.pending place within v c.loop-place.invariant.done);
      waits = waits;
    }

pub returns-clause-gates : goal.returns-clause-gates
returns-clause-gates c =
    GatesFit-done c.args.net.now c.requires.whole c.args.forces.now c.args.words.now.items c.loop-place.words.items c.loop-place.place
    (subst (λ (l : List ℕ). length l ≤ c.loop-place.place) c.order-order.ensures.order c.loop-place-test.false) c.loop-place.invariant.done
