use Rattle.std.proofs.Common.{◌≡◌, ◌∙◌, ◌<◌, None, length, ap, sym, subst, arith}
use Rattle.std.specs.Arc.{arc_value}
use Rattle.bench_net.specs.declared.gate.Driver.TheVariants.{Input}
use Rattle.bench_net.specs.Wiring.{driver_at}
use Rattle.bench_net.specs.Circuit.{Circuit}
use Rattle.die_sim.specs.declared.image.Binding.{Binding}
use Rattle.measure.proofs.OneInputLemmas.{IsSound-one}
use Rattle.measure.proofs.dies.image.Goals as goal

pub invariant_of-result : goal.invariant_of-result
invariant_of-result c =
    let net : arc_value c.in_ok-new.field-0 ≡ c.args.net = c.in_ok-new.ensures.ok in
    let bind : arc_value c.in_ok-new-2.field-0 ≡ record { clock = None; nets = c.from_vec-nets.result } = c.in_ok-new-2.ensures.ok in
    let some : 0 < length c.args.net.net.drivers = omega (arith, c.if-nets-eq0.false, c.nets.ensures.count, c.nets.ensures.whole.drivers) in
    let input : driver_at c.args.net.net.drivers 0 ≡ Input = c.is_input.ensures.0 c.if-not-is_input.false in
    IsSound-one (record { circuit = arc_value c.in_ok-new.field-0; clock = (arc_value c.in_ok-new-2.field-0).clock; binds = (arc_value c.in_ok-new-2.field-0).nets; faults = c.from_vec.result })
    (ap (λ (b : Binding). b.nets) bind ∙ c.from_vec-nets.ensures ∙ c.in_ok-vec.ensures.items) (c.from_vec.ensures ∙ c.new-3.ensures.items)
    (subst (λ (n : Circuit). 0 < length n.net.drivers) (sym net) some)
    (subst (λ (n : Circuit). driver_at n.net.drivers 0 ≡ Input) (sym net) input)
