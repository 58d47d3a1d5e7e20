use Rattle.std.proofs.Common.{◌≡◌, ◌∙◌, ◌<◌, ◌≤◌, ℕ, ◌+◌, List, length, get_or, ap, subst, arith}
use Rattle.bench_net.specs.Circuit.{Circuit}
use Rattle.die_sim.specs.Settling.{circuit_of, drivers_of, VisitsGate}
use Rattle.die_sim.proofs.WalkLemmas.{visited, WalkedTo-on, WalkedTo-settled, WalkedTo-clear}
use Rattle.die_sim.proofs.settle.walk.Goals as goal

pub loop-place-preserved : goal.loop-place-preserved
loop-place-preserved c =
    let w = c.args.wiring.now in
    let held = c.args.held.now in
    let start = c.args.nets.now in
    let old = c.loop-place.nets in
    let new = c.visit.new.nets in
    let order = (circuit_of w).order in
    let is : c.order-order.result.now ≡ order = c.order-order.ensures.order ∙ ap (λ (k : Circuit). k.order) c.deref.ensures in
    let within : c.loop-place.place < length order = subst (λ (l : List ℕ). c.loop-place.place < length l) is c.loop-place-test.true in
    let v = subst (λ (l : List ℕ). VisitsGate w held (get_or l c.loop-place.place 0) old new) is (c.visit.ensures.visits held) in
    let done = visited (drivers_of w) c.requires.wiring.whole.wired order c.requires.wiring.whole.order w.fixed.items held start.levels.items old.levels.items new.levels.items start.pending old.pending new.pending c.loop-place.place c.loop-place.count within c.loop-place.invariant.walked v in
    let seats = c.visit.ensures.seated.seats in
    let next = c.next-place-in-loop-place in
    record {
      walked = WalkedTo-on (drivers_of w) w.fixed.items held order start.levels.items new.levels.items start.pending new.pending (c.loop-place.place + 1) next.result (c.loop-place.count + 1) next.ensures.onward
          (λ i a b l. next.ensures.skipped (get_or order i 0) (omega (arith, seats.here i l, a)) (omega (arith, seats.here i l, b))) done;
      active = λ l. next.ensures.found (get_or order next.result 0) (seats.here next.result l) (omega (arith, l, seats.room));
      nets = record {
        held_count = c.requires.nets.held_count;
        seated = c.visit.ensures.seated;
        rest = c.visit.ensures.rest held c.loop-place.invariant.nets.rest;
      };
    }

pub returns-clause-settled : goal.returns-clause-settled
returns-clause-settled c =
    let w = c.args.wiring.now in
    let is : c.order-order.result.now ≡ (circuit_of w).order = c.order-order.ensures.order ∙ ap (λ (k : Circuit). k.order) c.deref.ensures in
    WalkedTo-settled (drivers_of w) c.requires.wiring.whole.wired (circuit_of w).order
    c.requires.wiring.whole.order w.fixed.items c.args.held.now c.args.nets.now.levels.items
    c.loop-place.nets.levels.items c.args.nets.now.pending c.loop-place.nets.pending c.loop-place.place c.loop-place.count
    (subst (λ (xs : List ℕ). length xs ≤ c.loop-place.place) is c.loop-place-test.false)
    c.loop-place.invariant.walked c.requires.sources

pub returns-clause-clear : goal.returns-clause-clear
returns-clause-clear c =
    let w = c.args.wiring.now in
    let is : c.order-order.result.now ≡ (circuit_of w).order = c.order-order.ensures.order ∙ ap (λ (k : Circuit). k.order) c.deref.ensures in
    WalkedTo-clear (drivers_of w) (circuit_of w).order c.requires.wiring.whole.order w.fixed.items
    c.args.held.now c.args.nets.now.levels.items c.loop-place.nets.levels.items c.args.nets.now.pending c.loop-place.nets.pending
    c.loop-place.place c.loop-place.count
    (subst (λ (xs : List ℕ). length xs ≤ c.loop-place.place) is c.loop-place-test.false)
    c.loop-place.invariant.walked
