use Rattle.std.proofs.Common.{◌+◌, take, sym, subst}
use Rattle.die_sim.specs.declared.image.Bind.{Bind}
use Rattle.die_sim.specs.declared.image.Binding.{Binding}
use Rattle.die_sim.specs.Settling.{drivers_of}
use Rattle.die_sim.specs.Walk.{HasLevel, HaveDriven}
use Rattle.die_sim.proofs.WalkLemmas.{Refreshes-then, HaveDriven-more}
use Rattle.die_sim.proofs.settle.refresh_driven.Goals as goal

pub loop-signal-preserved : goal.loop-signal-preserved
loop-signal-preserved c =
    let w = c.args.wiring.now in
    let held = c.args.held.now in
    let start = c.args.nets.now in
    let old = c.loop-signal.nets in
    let new = c.refresh_bound.new.nets in
    let at = c.loop-signal.signal-index in
    let drives = c.args.drives.now in
    let was = subst (λ (b : Binding). HaveDriven w.fixed.items held old.levels.items b.nets (take at drives)) (sym c.deref.ensures) c.loop-signal.invariant.driven in
    let driven = HaveDriven-more (drivers_of w) w.fixed.items held old.levels.items new.levels.items old.pending new.pending c.deref.result.now.nets drives _ at c.loop-signal-test.true c.refresh_bound.ensures.refreshes
    (subst (λ (b : Bind). HasLevel w.fixed.items held new.levels.items b) c.bind_at.ensures c.refresh_bound.ensures.here) was in
    record {
      refreshes = Refreshes-then (drivers_of w) w.fixed.items held start.levels.items old.levels.items new.levels.items start.pending old.pending new.pending c.loop-signal.invariant.refreshes c.refresh_bound.ensures.refreshes;
      driven = subst (λ (b : Binding). HaveDriven w.fixed.items held new.levels.items b.nets (take (at + 1) drives)) c.deref.ensures driven;
      nets = c.refresh_bound.ensures.nets;
    }
