use Rattle.std.proofs.Common.{rules, ◌∙◌, List, Option, length, ap, subst}
use Rattle.std.specs.Prelude.{unwrap_or}
use Rattle.std.proofs.lemmas.List.{length-map, length-replicate}
use Rattle.tester_types.specs.declared.level.Level.{Level}
use Rattle.tester_types.specs.declared.level.Level.TheVariants.{X}
use Rattle.bench_net.specs.Circuit.{Circuit}
use Rattle.die_sim.specs.Die.{Settled}
use Rattle.die_sim.specs.Pending.{AreSeats}
use Rattle.die_sim.specs.Settling.{drivers_of}
use Rattle.die_sim.specs.Waiting.{AreAtRest}
use Rattle.die_sim.proofs.WaitingLemmas.{AreAtRest-all}
use Rattle.die_sim.proofs.die.DieState.lay.Goals as goal

pub settle_first-requires-clause-nets : goal.settle_first-requires-clause-nets
settle_first-requires-clause-nets c =
    let was = c.self.invariant.nets in
    let rest = AreAtRest-all (drivers_of c.self.inside.wiring) c.as_slice-held.result.now c.put_first.new.levels.items c.self.inside.nets.waiting c.wake_all.new.self
    was.seated.wakers c.wake_all.ensures.links c.wake_all.ensures.all in
    record {
      held_count =
          ap (λ (v : List Level). length v) (c.as_slice-held.ensures.value ∙ c.forget.ensures)
          ∙ length-replicate {A = Level} (length c.self.inside.held.items) X ∙ was.held_count;
      seated = record {
        levels_count =
            ap (λ (v : List Level). length v) c.put_first.ensures
            ∙ length-map c.as_slice-fixed.result.now (λ f. unwrap_or f X)
            ∙ ap (λ (f : List (Option Level)). length f) c.as_slice-fixed.ensures.value
            ∙ c.fix_anew.ensures.count ∙ c.self.invariant.wiring.fixed_count;
        seats = subst (λ (k : Circuit). AreSeats k.order c.activate_all.new.pending) c.deref-net.ensures c.activate_all.ensures.seats;
        wakers = rest.wakers;
      };
      rest = rest;
    }

pub invariant_of-self : goal.invariant_of-self
invariant_of-self c =
    let was = c.self.invariant in
    let drivers = drivers_of c.self.inside.wiring in
    let levels = c.settle_first.new.nets.levels.items in
    let fixed = c.fix_anew.new.fixed.items in
    record {
      device = record { bound = was.device.bound; fixed = c.fix_anew.ensures.count ∙ was.device.fixed };
      wiring = search rules;
      nets = record {
        held_count =
            ap (λ (v : List Level). length v) c.forget.ensures
            ∙ length-replicate {A = Level} (length c.self.inside.held.items) X ∙ was.nets.held_count;
        seated = c.settle_first.ensures.nets.seated;
        rest = subst (λ (v : List Level). AreAtRest drivers v levels c.settle_first.new.nets.waiting) c.as_slice-held.ensures.value c.settle_first.ensures.nets.rest;
      };
      settled = subst (λ (v : List Level). Settled drivers fixed v levels) c.as_slice-held.ensures.value c.settle_first.ensures.settled;
      clear = c.settle_first.ensures.clear;
      room = was.room;
    }
