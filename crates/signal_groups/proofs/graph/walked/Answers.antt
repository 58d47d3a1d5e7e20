use Rattle.std.proofs.Common.{ℕ, List, ap, ◌∙◌, arith}
use Rattle.stil_ast.specs.Meaning.Members.{added}
use Rattle.std.proofs.lemmas.List.{get_or_read}
use Rattle.signal_groups.specs.Graph.{needs_at}
use Rattle.signal_groups.proofs.GraphLemmas.{found-starts, found-goes_on, found-few, found-is_done}
use Rattle.signal_groups.proofs.graph.walked.Goals as goal

pub loop-at-init : goal.loop-at-init
loop-at-init c = record {
  marked = c.in_ok-add_all.ensures.marked;
  count = c.add_all.ensures.count ∙ c.in_ok-marks.ensures.count;
  found = found-starts c.args.graph.now c.args.from.now c.add_all.new.members.items c.requires.within
      (c.in_ok-add_all.ensures.members ∙ ap (λ (ms : List ℕ). added ms c.args.from.now) c.new-order.ensures.items);
}

pub loop-at-smaller : goal.loop-at-smaller
loop-at-smaller c =
    let few = found-few c.args.graph.now c.args.from.now c.loop-at.order.items c.loop-at.at c.loop-at.invariant.found in
    omega (arith, few, c.loop-at-test.true, c.len.ensures)

pub loop-at-preserved : goal.loop-at-preserved
loop-at-preserved c = record {
  marked = c.in_ok-add_all-2.ensures.marked;
  count = c.add_all-in-loop-at.ensures.count ∙ c.loop-at.invariant.count;
  found = found-goes_on c.args.graph.now c.args.from.now c.loop-at.order.items c.add_all-in-loop-at.new.members.items c.loop-at.at
      c.requires.below c.loop-at.invariant.found (omega (arith, c.loop-at-test.true, c.len.ensures))
      (c.in_ok-add_all-2.ensures.members
      ∙ ap (λ (needs : List ℕ). added c.loop-at.order.items needs) (c.needs_at-needs.ensures ∙ ap (needs_at c.args.graph.now) (get_or_read c.loop-at.order.items c.loop-at.at c.index.result.now (omega (arith, c.loop-at-test.true, c.len.ensures)) c.index.ensures 0)));
}

pub returns : goal.returns
returns c = λ t.
    c.loop-at.invariant.marked.each t
    ∙ found-is_done c.args.graph.now c.args.from.now c.loop-at.order.items c.loop-at.at c.loop-at.invariant.found
    (omega (arith, c.loop-at-test.false, c.len.ensures)) t
