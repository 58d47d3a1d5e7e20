use Rattle.std.proofs.Common.{◌≡◌, map, drop, []}
use Rattle.stil_tree.specs.Trees.{entry_of}
use Rattle.answers.specs.Reading.{reading}
use Rattle.stil_form.specs.Setting.{setting_of, unskipped}
use Rattle.stil_form.proofs.reader.read_unskipped.Given as goal

-- what was read, and the rest, are the whole
abbrev pub invariant-loop-stmt : goal.invariant-loop-stmt
invariant-loop-stmt g l =
    reading (g.F.Form.judge l.form) l.read.items (unskipped (setting_of l.reader) (map entry_of (drop l.stmt-index l.stmts)))
    ≡ reading (g.F.Form.judge l.form) [] (unskipped (setting_of l.reader) (map entry_of l.stmts))
