use Rattle.stil_ast.proofs.CutLemmas.{assignments_kept-none}
use Rattle.stil_ast.proofs.assignment_list.AssignmentList.clear.Goals as goal

pub returns : goal.returns
returns c = rw (c.clear.ensures.items, c.clear-2.ensures.items) assignments_kept-none
