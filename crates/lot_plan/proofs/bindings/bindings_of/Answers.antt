use Rattle.std.proofs.Common.{◌∷◌, ◌++◌, [], ◌+◌, ap, sym, ◌∙◌, map, drop, subst}
use Rattle.std.proofs.lemmas.List.{drop_all, append-nil, map-append}
use Rattle.std.proofs.lemmas.List.Elements.{All-nil}
use Rattle.std.specs.Prelude.{All}
use Rattle.std.specs.Arc.{arc_value}
use Rattle.bench_net.specs.Circuit.{IsWhole}
use Rattle.lot_plan.specs.Views.{needed_by}
use Rattle.lot_plan.specs.Refusal.{first_unbound, binding_by}
use Rattle.text_bytes.proofs.ListLemmas.{drop-item}
use Rattle.lot_plan.proofs.BindLemmas.{whole-more, bound-more, each-more}
use Rattle.lot_plan.proofs.bindings.bindings_of.Goals as goal

pub loop-net-preserved : goal.loop-net-preserved
loop-net-preserved c =
    let at = ap (map arc_value) (drop-item c.args.nets.now c.loop-net.net-index c.net-item.result c.loop-net-test.true
    c.net-item.is) in
    let needs = map needed_by c.args.pins.now in
    record {
      whole = λ rest. c.loop-net.invariant.whole
          (whole-more (map arc_value (drop (c.loop-net.net-index + 1) c.args.nets.now)) (arc_value c.net-item.result)
          (map arc_value (drop c.loop-net.net-index c.args.nets.now)) at (rw (c.deref.ensures) at c.in_ok-binds.ensures.1)
          rest);
      bound = bound-more needs (map arc_value (drop (c.loop-net.net-index + 1) c.args.nets.now)) (arc_value c.net-item.result)
          (map arc_value (drop c.loop-net.net-index c.args.nets.now)) c.in_ok-binds.binds _ at
          (rw (c.deref.ensures) at c.in_ok-binds.ensures.0)
          c.loop-net.invariant.bound;
      each = each-more c.args.clock needs (map arc_value c.loop-net.bindings.items)
          (map arc_value c.add_binding.new.bindings.items)
          (map arc_value (drop (c.loop-net.net-index + 1) c.args.nets.now)) (arc_value c.net-item.result)
          (map arc_value (drop c.loop-net.net-index c.args.nets.now)) c.in_ok-binds.binds _
          (arc_value c.in_ok-binding.binding) at
          (rw (c.deref.ensures) at c.in_ok-binds.ensures.0) c.in_ok-binding.ensures
          (ap (map arc_value) c.in_ok-add_binding.ensures
          ∙ map-append arc_value c.loop-net.bindings.items (c.in_ok-binding.binding ∷ []))
          c.loop-net.invariant.each;
    }

pub returns : goal.returns
returns c =
    let none = ap (map arc_value) (drop_all c.loop-net.net-index c.args.nets.now c.loop-net-test.false) in
    record {
      whole = c.loop-net.invariant.whole (subst (All IsWhole) (sym none) (All-nil IsWhole));
      bound = sym c.loop-net.invariant.bound ∙ ap (first_unbound (map needed_by c.args.pins.now)) none;
      each = sym (append-nil (map arc_value c.loop-net.bindings.items))
          ∙ sym (ap (λ cs. map arc_value c.loop-net.bindings.items ++ map
          (binding_by c.args.clock (map needed_by c.args.pins.now)) cs) none)
          ∙ c.loop-net.invariant.each;
    }
