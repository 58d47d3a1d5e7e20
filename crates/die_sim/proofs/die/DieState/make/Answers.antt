use Rattle.std.proofs.Common.{rules, ◌∙◌, List, Option, length, ap, subst, arith}
use Rattle.std.specs.Prelude.{unwrap_or}
use Rattle.std.specs.Arc.{arc_value}
use Rattle.std.proofs.lemmas.List.{length-map, length-replicate}
use Rattle.tester_types.specs.declared.level.Level.TheVariants.{X}
use Rattle.tester_types.specs.declared.level.Level.{Level}
use Rattle.bench_net.specs.Circuit.{Circuit, IsWhole}
use Rattle.die_sim.specs.Die.{Settled}
use Rattle.die_sim.specs.Pending.{AreSeats}
use Rattle.die_sim.specs.Waiting.{AreAtRest, AreWakers}
use Rattle.die_sim.proofs.WaitingLemmas.{AreAtRest-all}
use Rattle.die_sim.proofs.die.DieState.make.Goals as goal

pub settle_first-requires-clause-nets : goal.settle_first-requires-clause-nets
settle_first-requires-clause-nets c =
    let names = c.nets-count.ensures.count ∙ ap (λ (k : Circuit). length k.net.names) c.deref.ensures in
    let old = c.in_ok-waiting.waiting in
    let wakers = subst (λ (k : Circuit). AreWakers k.net.drivers old) c.deref-3.ensures c.in_ok-waiting.ensures in
    let rest = AreAtRest-all _ c.as_slice-4.result.now c.in_ok-levels.levels.items old c.wake_all.new.self wakers c.wake_all.ensures.links c.wake_all.ensures.all in
    record {
      held_count =
          ap (λ (v : List Level). length v) (c.as_slice-4.ensures.value ∙ c.in_ok-held.ensures)
          ∙ length-replicate {A = Level} c.nets-count.result X ∙ names;
      seated = record {
        levels_count =
            ap (λ (v : List Level). length v) c.in_ok-levels.ensures
            ∙ length-map c.as_slice-2.result.now (λ f. unwrap_or f X)
            ∙ ap (λ (f : List (Option Level)). length f) c.as_slice-2.ensures.value
            ∙ c.in_ok-fixed.ensures.count ∙ names;
        seats = subst (λ (k : Circuit). AreSeats k.order c.in_ok-pending.pending) c.deref-2.ensures c.in_ok-pending.ensures.seats;
        wakers = rest.wakers;
      };
      rest = rest;
    }

pub invariant_of-result : goal.invariant_of-result
invariant_of-result c =
    let names = c.nets-count.ensures.count ∙ ap (λ (k : Circuit). length k.net.names) c.deref.ensures in
    let whole = subst (λ (k : Circuit). IsWhole k) c.deref.ensures c.nets-count.ensures.whole in
    let drivers = (arc_value c.in_ok-net.net).net.drivers in
    let levels = c.settle_first.new.nets.levels.items in
    record {
      device = search rules;
      wiring = search rules;
      nets = record {
        held_count = ap (λ (v : List Level). length v) c.in_ok-held.ensures ∙ length-replicate {A = Level} c.nets-count.result X ∙ names;
        seated = c.settle_first.ensures.nets.seated;
        rest = subst (λ (h : List Level). AreAtRest drivers h levels c.settle_first.new.nets.waiting) c.as_slice-4.ensures.value c.settle_first.ensures.nets.rest;
      };
      settled = subst (λ (h : List Level). Settled drivers c.in_ok-fixed.fixed.items h levels) c.as_slice-4.ensures.value c.settle_first.ensures.settled;
      clear = c.settle_first.ensures.clear;
      room = omega (arith, c.in_ok-list.ensures, names, whole.drivers);
    }
