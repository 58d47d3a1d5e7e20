use Rattle.std.proofs.Common.{sym, subst}
use Rattle.std.specs.Arc.{arc_value}
use Rattle.bench_net.specs.Circuit.{Circuit}
use Rattle.die_sim.specs.declared.image.Binding.{Binding}
use Rattle.die_sim.specs.Stepped.{stepped}
use Rattle.die_words.specs.Lanes.{Lanes, IsLaneOf}
use Rattle.die_words.specs.Board.{lanes_at}
use Rattle.die_words.proofs.dies.DieWords.step.Goals as goal

pub returns-clause-lanes : goal.returns-clause-lanes
returns-clause-lanes c = λ k device state within h.
    let w = c.self.inside in
    let nets = c.step_nets.new.nets in
    let clock = c.clock_after-clock.result in
    let next = stepped device state c.args.drives.now in
    let before =
    subst (λ (b : Binding). IsLaneOf (lanes_at c.deref-2.result.now b w.clock w.nets) k device state) (sym c.deref-3.ensures)
    (subst (λ (x : Circuit). IsLaneOf (lanes_at x (arc_value w.bind) w.clock w.nets) k device state) (sym c.deref-2.ensures)
    (subst (λ (s : Lanes). IsLaneOf s k device state) (sym c.self.view_is) h)) in
    subst (λ (x : Circuit). IsLaneOf (lanes_at x (arc_value w.bind) clock nets) k device next) c.deref-2.ensures
    (subst (λ (b : Binding). IsLaneOf (lanes_at c.deref-2.result.now b clock nets) k device next) c.deref-3.ensures
    (c.step_nets.ensures.lanes k device state within before))
