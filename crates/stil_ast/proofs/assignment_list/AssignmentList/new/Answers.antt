use Rattle.stil_ast.proofs.CutLemmas.{assignments_kept-none}
use Rattle.stil_ast.proofs.assignment_list.AssignmentList.new.Goals as goal

pub returns : goal.returns
returns c = rw (c.new.ensures.items, c.new-2.ensures.items) assignments_kept-none
