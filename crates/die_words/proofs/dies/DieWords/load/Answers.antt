use Rattle.std.proofs.Common.{◌∷◌, [], length, get_or, sym, ap, ◌∙◌, subst}
use Rattle.std.specs.Arc.{arc_value}
use Rattle.tester_types.specs.declared.level.Level.TheVariants.{X}
use Rattle.bench_net.specs.Circuit.{Circuit}
use Rattle.die_sim.specs.declared.image.Binding.{Binding}
use Rattle.die_sim.specs.Die.{IsOfNet, fixed_of}
use Rattle.die_sim.specs.Stepped.{first_state}
use Rattle.die_words.specs.Lanes.{Lanes, IsLaneOf}
use Rattle.die_words.specs.Board.{image_at, lanes_at}
use Rattle.die_words.proofs.dies.DieWords.load.Goals as goal

pub returns-clause-lanes : goal.returns-clause-lanes
returns-clause-lanes c = λ k d device l net fixed_is.
    let w = c.self.inside in
    let nets = c.load_nets.new.nets in
    let fault = get_or c.args.faults.now k d ∷ [] in
    let net_there =
    subst (λ (b : Binding). IsOfNet device (image_at c.deref.result.now b)) (sym c.deref-2.ensures)
    (subst (λ (x : Circuit). IsOfNet device (image_at x (arc_value w.bind))) (sym c.deref.ensures)
    (subst (λ (s : Lanes). IsOfNet device s.image) (sym c.self.view_is) net)) in
    let fixed_there =
    fixed_is
    ∙ ap (λ (s : Lanes). fixed_of (length s.image.circuit.net.names) fault) (sym c.self.view_is)
    ∙ ap (λ (x : Circuit). fixed_of (length x.net.names) fault) (sym c.deref.ensures) in
    subst (λ (x : Circuit). IsLaneOf (lanes_at x (arc_value w.bind) X nets) k device (first_state device)) c.deref.ensures
    (subst (λ (b : Binding). IsLaneOf (lanes_at c.deref.result.now b X nets) k device (first_state device)) c.deref-2.ensures
    (c.load_nets.ensures.lanes k d device l net_there fixed_there))
