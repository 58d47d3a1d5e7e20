use Rattle.std.proofs.Common.{◌≡◌, map, drop}
use Rattle.stil_tree.specs.Trees.{entry_of}
use Rattle.stil_form.specs.Reading.{reading}
use Rattle.stil_form.specs.Setting.{setting_of, unskipped}
use Rattle.pat_read.specs.Body.{judge_assignment, assignments_of}
use Rattle.pat_read.proofs.reader.take_assignments.Given as goal

-- what was read, and the rest, are the whole
abbrev pub invariant-loop-stmt : goal.invariant-loop-stmt
invariant-loop-stmt l =
    reading (judge_assignment (setting_of l.form)) l.read
    (unskipped (setting_of l.form) (map entry_of (drop l.stmt-index l.stmts)))
    ≡ assignments_of (setting_of l.form) (map entry_of l.stmts)
