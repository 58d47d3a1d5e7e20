use Rattle.stil_ast.proofs.CutLemmas.{is_empty-texts}
use Rattle.stil_ast.proofs.assignment_list.AssignmentList.is_empty.Goals as goal

pub returns : goal.returns
returns c =
    let list = c.self.inside in
    rw (c.is_empty.ensures, list.texts.ok.0, ← c.self.view_is) (is_empty-texts list.texts.items list.runs.items c.self.invariant)
