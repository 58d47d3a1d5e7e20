use Rattle.std.proofs.Common.{◌≡◌, map, drop}
use Rattle.stil_tree.specs.Trees.{entry_of}
use Rattle.answers.specs.Reading.{stepping}
use Rattle.stil_form.specs.Setting.{setting_of, unskipped}
use Rattle.stil_form.proofs.steps.read_unskipped_steps.Given as goal

-- the state and the rest are the start and the whole
abbrev pub invariant-loop-stmt : goal.invariant-loop-stmt
invariant-loop-stmt g l =
    stepping (g.F.StepForm.step l.form) l.state (unskipped (setting_of l.reader) (map entry_of (drop l.stmt-index l.stmts)))
    ≡ stepping (g.F.StepForm.step l.form) l.fn.start (unskipped (setting_of l.reader) (map entry_of l.stmts))
