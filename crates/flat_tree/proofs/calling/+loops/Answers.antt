use Rattle.std.proofs.Common.{rules, ◌≡◌, ap, sym, subst, ◌∙◌, OnOk, List, [], ◌∷◌, arith}
use Rattle.std.proofs.lemmas.List.{nil_from_length}
use Rattle.flat_tree.specs.Counts.{body_count}
use Rattle.flat_tree.specs.Slots.{whole_front, wholes_flat}
use Rattle.flat_tree.specs.Kept.{loops_in}
use Rattle.stil_ast.specs.Meaning.Flat.{Flat, done}
use Rattle.stil_ast.specs.Meaning.Flattening.{joined}
use Rattle.flat_tree.specs.declared.flat.Whole.{Whole}
use Rattle.flat_tree.proofs.FlatLemmas.{joined-done}
use Rattle.flat_tree.proofs.SlotLemmas.{bodies_alone, loops_alone, rest_bodies-le}
use Rattle.flat_tree.proofs.KeptLemmas.{loops_more}
use Rattle.flat_tree.proofs.calling.+loops.Goals as goal

pub add_loops-loop-whole-preserved : goal.add_loops-loop-whole-preserved
add_loops-loop-whole-preserved t c =
    let inv = c.loop-whole.invariant in
    let whole = c.in-Some.whole in
    let rest = c.next.new.self.rest.items in
    let was : c.loop-whole.whole-iterator.rest.items ≡ whole ∷ rest = c.in-Some.ensures.steps.0 in
    record {
      can_go = search rules;
      ends = search rules;
      few =
          omega (
            arith,
            inv.few,
            ap (λ (xs : List Whole). body_count (wholes_flat xs)) was,
            rest_bodies-le whole rest,
          );
      made =
          loops_more c.loop-whole.loops c.add_loop.new.loops whole rest c.in_ok-add_loop.ensures
          ∙ (ap (λ (xs : List Whole). joined c.loop-whole.loops (loops_in (wholes_flat xs))) (sym was) ∙ inv.made);
    }

pub add_loops-returns : goal.add_loops-returns
add_loops-returns t c =
    let inv = c.loop-whole.invariant in
    let none : c.loop-whole.whole-iterator.rest.items ≡ [] = nil_from_length _ (omega (arith, c.loop-whole.whole-iterator.rest.ok.0, c.in-None.ensures.steps.0)) in
    sym (joined-done c.loop-whole.loops)
    ∙ (ap (λ (xs : List Whole). joined c.loop-whole.loops (loops_in (wholes_flat xs))) (sym none) ∙ inv.made)

pub loops_of-add_loops-requires : goal.loops_of-add_loops-requires
loops_of-add_loops-requires t c =
    let own = c.body.inside in
    let few = bodies_alone own.slots.items own.wholes.items c.body.invariant in
    (omega (arith, few, ap body_count c.body.view_is, c.decreases), tt)

pub loops_of-returns : goal.loops_of-returns
loops_of-returns t c =
    let own = c.body.inside in
    c.in_ok-add_loops.ensures
    ∙ (ap (λ (f : Flat). joined f (loops_in (wholes_flat own.wholes.items))) c.new-loops.ensures
    ∙ (sym (loops_alone own.slots.items own.wholes.items c.body.invariant) ∙ ap loops_in c.body.view_is))

pub add_loop-add_loops-requires : goal.add_loop-add_loops-requires
add_loop-add_loops-requires t c =
    let own = c.body.inside in
    let few = bodies_alone own.slots.items own.wholes.items c.body.invariant in
    let body = ap body_count (c.body.view_is ∙ c.into_inner-body.ensures) in
    let whole = ap (λ (w : Whole). body_count (whole_front w done)) c.in-Save.is in
    (omega (arith, few, body, whole, c.decreases), tt)

pub add_loop-returns-in-Cycle : goal.add_loop-returns-in-Cycle
add_loop-returns-in-Cycle t c = rw c.in-Cycle.is (sym (joined-done c.args.loops.now))

pub add_loop-returns-in-Save : goal.add_loop-returns-in-Save
add_loop-returns-in-Save t c =
    let own = c.body.inside in
    subst (λ (f : Flat). OnOk c.add_loops.result (c.add_loops.new.loops ≡ joined c.args.loops.now f))
    (sym (loops_alone own.slots.items own.wholes.items c.body.invariant)
    ∙ (ap loops_in (c.body.view_is ∙ c.into_inner-body.ensures)
    ∙ (sym (joined-done (loops_in c.in-Save.body.value))
    ∙ ap (λ (w : Whole). loops_in (whole_front w done)) (sym c.in-Save.is))))
    c.add_loops.ensures
