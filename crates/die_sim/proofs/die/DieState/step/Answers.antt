use Rattle.std.proofs.Common.{◌≤◌, List, ℕ, Bool, length, take, sym, ap, subst, ◌∙◌, arith}
use Rattle.std.specs.Prelude.{count_by}
use Rattle.std.specs.Arc.{arc_value}
use Rattle.tester_types.specs.declared.level.Level.{Level}
use Rattle.bench_net.specs.Circuit.{Circuit}
use Rattle.die_sim.specs.declared.image.Binding.{Binding}
use Rattle.die_sim.specs.Die.{Settled, Die}
use Rattle.die_sim.specs.Moment.{Captures, put_all}
use Rattle.die_sim.specs.Settling.{drivers_of}
use Rattle.die_sim.specs.Spread.{IsSpread}
use Rattle.die_sim.specs.Waiting.{AreAtRest}
use Rattle.die_sim.specs.Walk.{MayCapture}
use Rattle.die_sim.proofs.StepLemmas.{sources_refreshed, spread_carries}
use Rattle.die_sim.proofs.WaitingLemmas.{MayCapture-waiting, AreAtRest-captured, AreAtRest-driven, bound_at}
use Rattle.die_sim.proofs.WalkLemmas.{Refreshes-then}
use Rattle.die_sim.proofs.die.DieState.step.Goals as goal

pub capture_each-requires-clause-nets : goal.capture_each-requires-clause-nets
capture_each-requires-clause-nets c =
    let s = c.self.inside.nets in
    let held = c.self.inside.held.items in
    let edge = c.clock_edge-edge.result in
    let may = MayCapture-waiting (drivers_of c.self.inside.wiring) edge s.levels.items held s.waiting c.take-count.new.self c.take-count.result c.take-count.new.list.items c.self.invariant.nets.rest c.take-count.ensures.taken in
    let there = subst (λ (k : Circuit). MayCapture k.net.drivers edge s.levels.items held (take c.take-count.result c.take-count.new.list.items)) (sym c.deref-net.ensures) may in
    subst (λ (v : List Level). MayCapture c.deref-net.result.now.net.drivers edge v held (take c.take-count.result c.deref.result.now)) (sym c.as_slice-before.ensures.value)
    (subst (λ (ns : List ℕ). MayCapture c.deref-net.result.now.net.drivers edge s.levels.items held ns) (ap (take c.take-count.result) (sym c.deref.ensures.value)) there)

pub refresh_each-requires-clause-nets : goal.refresh_each-requires-clause-nets
refresh_each-requires-clause-nets c =
    let was = c.self.invariant.nets in
    let s = c.self.inside.nets in
    let w = c.self.inside.wiring in
    let old = c.self.inside.held.items in
    let edge = c.clock_edge-edge.result in
    let kept = c.capture_each.new.held.items in
    let waiting = c.take-count.new.self in
    let there = subst (λ (v : List Level). Captures c.deref-net.result.now.net.drivers edge v old kept) c.as_slice-before.ensures.value c.capture_each.ensures in
    let captures = subst (λ (k : Circuit). Captures k.net.drivers edge s.levels.items old kept) c.deref-net.ensures there in
    let after = AreAtRest-captured (drivers_of w) edge s.levels.items old s.waiting waiting c.take-count.result c.take-count.new.list.items was.rest c.take-count.ensures.taken kept captures in
    let put = c.put_all.ensures.all ∙ ap (λ (b : Binding). put_all b.nets kept c.args.drives.now) c.deref-bind.ensures in
    let bound = bound_at (drivers_of w) (arc_value w.bind).nets c.self.invariant.device.bound in
    let driven = AreAtRest-driven (drivers_of w) kept c.put_all.new.held.items s.levels.items waiting (arc_value w.bind).nets c.args.drives.now bound put after in
    record {
      held_count =
          ap (λ (v : List Level). length v) c.as_slice-held.ensures.value ∙ c.put_all.ensures.count
          ∙ c.capture_each.ensures.count ∙ was.held_count;
      seated = record { levels_count = was.seated.levels_count; seats = was.seated.seats; wakers = driven.wakers };
      rest = subst (λ (v : List Level). AreAtRest (drivers_of w) v s.levels.items waiting) (sym c.as_slice-held.ensures.value) driven;
    }

pub walk-requires-clause-sources : goal.walk-requires-clause-sources
walk-requires-clause-sources c =
    let w = c.self.inside.wiring in
    let s = c.self.inside.nets in
    let old = c.self.inside.held.items in
    let edge = c.clock_edge-edge.result in
    let kept = c.capture_each.new.held.items in
    let there = subst (λ (v : List Level). Captures c.deref-net.result.now.net.drivers edge v old kept) c.as_slice-before.ensures.value c.capture_each.ensures in
    let captures = subst (λ (k : Circuit). Captures k.net.drivers edge s.levels.items old kept) c.deref-net.ensures there in
    let may = MayCapture-waiting (drivers_of w) edge s.levels.items old s.waiting c.take-count.new.self c.take-count.result c.take-count.new.list.items c.self.invariant.nets.rest c.take-count.ensures.taken in
    let put = c.put_all.ensures.all ∙ ap (λ (b : Binding). put_all b.nets kept c.args.drives.now) c.deref-bind.ensures in
    sources_refreshed (drivers_of w) w.fixed.items edge old kept c.as_slice-held.result.now s.levels.items c.refresh_each.new.nets.levels.items c.refresh_driven.new.nets.levels.items
    s.pending c.refresh_each.new.nets.pending c.refresh_driven.new.nets.pending (take c.take-count.result c.deref.result.now) (arc_value w.bind).nets c.args.drives.now
    c.self.invariant.settled captures (c.as_slice-held.ensures.value ∙ put) (subst (λ (ns : List ℕ). MayCapture (drivers_of w) edge s.levels.items old ns) (ap (take c.take-count.result) (sym c.deref.ensures.value)) may)
    c.refresh_each.ensures.refreshes c.refresh_each.ensures.each c.refresh_driven.ensures.refreshes c.refresh_driven.ensures.driven

pub invariant_of-self : goal.invariant_of-self
invariant_of-self c =
    let was = c.self.invariant in
    let w = c.self.inside.wiring in
    let levels = c.walk.new.nets.levels.items in
    record {
      device = was.device;
      wiring = was.wiring;
      nets = record {
        held_count = c.put_all.ensures.count ∙ c.capture_each.ensures.count ∙ was.nets.held_count;
        seated = c.walk.ensures.nets.seated;
        rest = subst (λ (v : List Level). AreAtRest (drivers_of w) v levels c.walk.new.nets.waiting) c.as_slice-held.ensures.value c.walk.ensures.nets.rest;
      };
      settled = subst (λ (v : List Level). Settled (drivers_of w) w.fixed.items v levels) c.as_slice-held.ensures.value c.walk.ensures.settled;
      clear = c.walk.ensures.clear;
      room = omega (arith, was.room, c.take-count.ensures.size);
    }

pub returns-clause-bound : goal.returns-clause-bound
returns-clause-bound c =
    let w = c.self.inside.wiring in
    let s = c.self.inside.nets in
    let mid = c.refresh_each.new.nets in
    let new = c.refresh_driven.new.nets in
    let last = c.walk.new.nets.levels.items in
    let refreshes = Refreshes-then (drivers_of w) w.fixed.items c.as_slice-held.result.now s.levels.items mid.levels.items new.levels.items
    s.pending mid.pending new.pending c.refresh_each.ensures.refreshes c.refresh_driven.ensures.refreshes in
    let bound : (set : ℕ → Bool) → IsSpread (drivers_of w) s.levels.items last set → c.walk.result ≤ count_by set (arc_value w.net).order =
    λ set spread. c.walk.ensures.bound set (spread_carries (drivers_of w) w.fixed.items c.as_slice-held.result.now s.levels.items new.levels.items last
    s.pending new.pending refreshes c.self.invariant.clear c.walk.ensures.kept set spread) in
    subst (λ (d : Die). (set : ℕ → Bool) → IsSpread d.device.circuit.net.drivers d.state.levels last set → c.walk.result ≤ count_by set d.device.circuit.order) c.self.view_is bound
