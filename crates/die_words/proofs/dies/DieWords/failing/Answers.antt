use Rattle.std.proofs.Common.{◌≡◌, refl, sym, ap, ◌∙◌, subst}
use Rattle.std.specs.Arc.{arc_value}
use Rattle.die_sim.specs.declared.image.Bind.{Bind}
use Rattle.die_sim.specs.declared.image.Bind.TheVariants as bind
use Rattle.die_sim.specs.declared.image.Binding.{Binding}
use Rattle.die_sim.specs.Die.{bind_at, IsNetBind}
use Rattle.die_words.specs.Lanes.{Lanes, IsLaneOf}
use Rattle.die_words.proofs.BoardLemmas.{net_fails}
use Rattle.die_words.proofs.dies.DieWords.failing.Goals as goal

pub returns-in-Input : goal.returns-in-Input
returns-in-Input c = λ k device state within h.
    let w = c.self.inside in
    let n = c.in-Input.n in
    let is : bind_at (arc_value w.bind).nets c.args.signal ≡ bind.Input n =
    ap (λ (b : Binding). bind_at b.nets c.args.signal) (sym c.deref.ensures) ∙ sym c.bind_at.ensures ∙ c.in-Input.is in
    let net = subst (λ (b : Bind). IsNetBind (arc_value w.net).net.drivers b) is (c.self.invariant.0.bound c.args.signal) in
    net_fails (arc_value w.net) (arc_value w.bind) w.clock w.nets k device state n c.args.signal c.failing_net.result c.args.look
    (bind.Input n) c.self.invariant.1 net.0 refl is (subst (λ (s : Lanes). IsLaneOf s k device state) (sym c.self.view_is) h)
    (λ x own f. c.failing_net.ensures k x own f within)

pub returns-in-Output : goal.returns-in-Output
returns-in-Output c = λ k device state within h.
    let w = c.self.inside in
    let n = c.in-Output.n in
    let is : bind_at (arc_value w.bind).nets c.args.signal ≡ bind.Output n =
    ap (λ (b : Binding). bind_at b.nets c.args.signal) (sym c.deref.ensures) ∙ sym c.bind_at.ensures ∙ c.in-Output.is in
    let net = subst (λ (b : Bind). IsNetBind (arc_value w.net).net.drivers b) is (c.self.invariant.0.bound c.args.signal) in
    net_fails (arc_value w.net) (arc_value w.bind) w.clock w.nets k device state n c.args.signal c.failing_net-in-Output.result c.args.look
    (bind.Output n) c.self.invariant.1 net refl is (subst (λ (s : Lanes). IsLaneOf s k device state) (sym c.self.view_is) h)
    (λ x own f. c.failing_net-in-Output.ensures k x own f within)
