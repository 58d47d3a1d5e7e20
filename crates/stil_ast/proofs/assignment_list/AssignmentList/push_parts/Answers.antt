use Rattle.std.proofs.Common.{arith}
use Rattle.stil_ast.specs.Data.AssignmentCuts.{KeptAssignment, FitsHead}
use Rattle.stil_ast.proofs.CutLemmas.{one_further_with, still_kept_with}
use Rattle.stil_ast.proofs.assignment_list.AssignmentList.push_parts.Goals as goal

-- what is kept of the parts
further : goal.In_ok-add_all → KeptAssignment
further c =
    let parts = c.args.parts in
    record { reference = parts.reference; bytes = parts.bytes.now; runs = parts.runs.now; line = parts.line }

-- it fits into a head
fits : (c : goal.In_ok-add_all) → FitsHead (further c)
unfolding further
fits c =
    record {
      reference_fits = c.kind_numbers-size.ensures.fits;
      bytes_fit = omega (arith, c.in_ok-counted.ensures.same, c.in_ok-counted.ensures.short);
      runs_fit = omega (arith, c.in_ok-counted-2.ensures.same, c.in_ok-counted-2.ensures.short);
      line_fits = search (arith, c.ranges.parts);
      repeats = c.requires;
    }

pub invariant_of-self-2 : goal.invariant_of-self-2
unfolding further
invariant_of-self-2 c =
    let list = c.self.inside in
    rw (c.in_ok-add_all.ensures.texts, c.in_ok-add_all.ensures.runs)
    (still_kept_with list.texts.items list.runs.items (further c) _ _ c.self.invariant (fits c)
    (rw (← c.in_ok-counted.ensures.same, ← c.in_ok-counted-2.ensures.same) c.head_bytes-front.ensures)
    c.kind_numbers-size.ensures.numbers)

pub returns-clause-added : goal.returns-clause-added
unfolding further
returns-clause-added c =
    let list = c.self.inside in
    rw (c.in_ok-add_all.ensures.texts, c.in_ok-add_all.ensures.runs, ← c.self.view_is)
    (one_further_with list.texts.items list.runs.items (further c) _ _ c.self.invariant (fits c)
    (rw (← c.in_ok-counted.ensures.same, ← c.in_ok-counted-2.ensures.same) c.head_bytes-front.ensures)
    c.kind_numbers-size.ensures.numbers)
