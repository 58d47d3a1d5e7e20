use Rattle.std.proofs.Common.{◌∙◌, sym, arith}
use Rattle.stil_ast.proofs.CutLemmas.{behind_front, none_in_front}
use Rattle.stil_ast.proofs.assignment_list.AssignmentCursorIterator.next.Goals as goal

pub split_at-requires : goal.split_at-requires
split_at-requires c =
    (behind_front _ _ _ _ c.self.invariant (sym c.in_ok-head.ensures)).bytes_there

pub split_at-requires-2 : goal.split_at-requires-2
split_at-requires-2 c =
    (behind_front _ _ _ _ c.self.invariant (sym c.in_ok-head.ensures)).runs_there

pub invariant_of-self : goal.invariant_of-self
invariant_of-self c =
    rw (c.split_at.ensures.back, c.split_at-2.ensures.back)
    (behind_front _ _ _ _ c.self.invariant (sym c.in_ok-head.ensures)).others

pub returns-clause-steps : goal.returns-clause-steps
returns-clause-steps c =
    let behind = behind_front _ _ _ _ c.self.invariant (sym c.in_ok-head.ensures) in
    rw (c.split_at.ensures.front, c.split_at.ensures.back, c.split_at-2.ensures.front, c.split_at-2.ensures.back)
    (record { first = sym c.self.view_is ∙ behind.holds; repeats = behind.repeats })

pub returns-in_err-head-clause-steps : goal.returns-in_err-head-clause-steps
returns-in_err-head-clause-steps c =
    let left = c.self.inside in
    let none = sym c.self.view_is ∙ none_in_front left.texts.now left.runs.now c.self.invariant (sym c.in_err-head.ensures) in
    rw c.from_residual.ensures (record { first = (none, none); repeats = search })

pub returns-clause-goes : goal.returns-clause-goes
returns-clause-goes c =
    let behind = behind_front _ _ _ _ c.self.invariant (sym c.in_ok-head.ensures) in
    rw (← c.self.view_is, behind.holds, c.split_at.ensures.back, c.split_at-2.ensures.back) (search (arith))
