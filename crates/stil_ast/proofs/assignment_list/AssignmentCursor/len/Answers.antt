use Rattle.std.proofs.Common.{inl, arith, ap, ◌∙◌, length}
use Rattle.stil_ast.proofs.CutLemmas.{count_is_length, length-assignments_kept}
use Rattle.stil_ast.proofs.assignment_list.AssignmentCursor.len.Goals as goal

pub count-requires-clause-fits : goal.count-requires-clause-fits
count-requires-clause-fits c =
    let left = c.self.inside in
    inl (omega (arith, length-assignments_kept left.texts.now left.runs.now, c.self.ranges, c.self.told))

pub returns : goal.returns
returns c = count_is_length _ c.count.result c.count.ensures.ran ∙ ap length c.self.view_is
