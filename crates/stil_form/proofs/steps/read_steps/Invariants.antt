use Rattle.std.proofs.Common.{◌≡◌, map, drop}
use Rattle.stil_tree.specs.Trees.{entry_of}
use Rattle.answers.specs.Reading.{stepping}
use Rattle.stil_form.proofs.steps.read_steps.Given as goal

-- the state, and the rest, are the whole
abbrev pub invariant-loop-stmt : goal.invariant-loop-stmt
invariant-loop-stmt g l =
    stepping (g.F.StepForm.step l.form) l.state (map entry_of (drop l.stmt-index l.stmts))
    ≡ stepping (g.F.StepForm.step l.form) l.fn.start (map entry_of l.stmts)
