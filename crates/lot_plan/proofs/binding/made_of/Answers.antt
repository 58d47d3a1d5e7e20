use Rattle.std.proofs.Common.{◌∙◌, List, ap, map, subst}
use Rattle.std.specs.Arc.{arc_value}
use Rattle.std.proofs.lemmas.List.{length-map}
use Rattle.packed_code.specs.declared.parts.CodeSignal.{CodeSignal}
use Rattle.lot_plan.specs.Needs.{needs_of, clock_of}
use Rattle.lot_plan.specs.Refusal.{AreBindings}
use Rattle.lot_plan.specs.Bound.{Bound}
use Rattle.lot_plan.proofs.ReadyLemmas.{is-bound, ready-in, stored-in}
use Rattle.lot_plan.proofs.binding.made_of.Goals as goal

pub dies_of-requires : goal.dies_of-requires
dies_of-requires c =
    let b : Bound = record {
      rows = c.args.rows.now;
      program = c.args.code.now;
      circuits = map arc_value c.args.nets.now;
    } in
    let signals = c.requires.signals in
    let found = subst (λ (l : List CodeSignal). AreBindings (map arc_value c.args.nets.now) (needs_of c.args.rows.now l) (clock_of c.args.rows.now l)
    (map arc_value c.in_ok-bindings.bindings.items)) signals c.in_ok-bindings.ensures in
    let bound = is-bound b c.requires.kept (length-map c.args.nets.now arc_value ∙ c.requires.files)
    found.whole
    c.in_ok-check_rows.ensures found.bound in
    ready-in b (map arc_value c.deref-3.result.now) (map arc_value c.in_ok-bindings.bindings.items) c.deref-2.result.now
    c.in_ok-groups.groups.items bound
    found.each c.in_ok-groups.ensures (ap (map arc_value) c.deref-3.ensures.value)
    c.deref-2.ensures.value

pub returns : goal.returns
returns c =
    let b : Bound = record {
      rows = c.args.rows.now;
      program = c.args.code.now;
      circuits = map arc_value c.args.nets.now;
    } in
    let signals = c.requires.signals in
    let found = subst (λ (l : List CodeSignal). AreBindings (map arc_value c.args.nets.now) (needs_of c.args.rows.now l) (clock_of c.args.rows.now l)
    (map arc_value c.in_ok-bindings.bindings.items)) signals c.in_ok-bindings.ensures in
    let bound = is-bound b c.requires.kept (length-map c.args.nets.now arc_value ∙ c.requires.files)
    found.whole
    c.in_ok-check_rows.ensures found.bound in
    record {
      bound = bound;
      wired = ap (map arc_value) c.from_vec.ensures ∙ found.each;
      dies = stored-in b (map arc_value c.deref-3.result.now) (map arc_value c.in_ok-bindings.bindings.items)
          c.deref-2.result.now c.in_ok-groups.groups.items
          c.lot_of.result.tries c.in_ok-dies.dies bound found.each c.in_ok-groups.ensures
          (ap (map arc_value) c.deref-3.ensures.value)
          c.deref-2.ensures.value (ap (λ l. l.tries) c.lot_of.ensures) c.in_ok-dies.ensures;
    }
