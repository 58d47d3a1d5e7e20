use Rattle.std.proofs.Common.{◌≡◌, ◌+◌, map, drop, []}
use Rattle.stil_tree.specs.Trees.{entry_of, trees_from}
use Rattle.stil_form.specs.Setting.{setting_of, inner_of}
use Rattle.pat_read.specs.Body.{body_from}
use Rattle.pat_read.proofs.BodyLemmas.{weight}
use Rattle.pat_read.proofs.reader.+body.Given as goal

-- what was read, and the rest, are the whole
abbrev pub invariant-read_stmts-loop-stmt : goal.invariant-read_stmts-loop-stmt
invariant-read_stmts-loop-stmt l =
    body_from (setting_of l.form) l.top l.read.items (trees_from (map entry_of (drop l.stmt-index l.stmts)))
    ≡ body_from (setting_of l.form) l.top [] (trees_from (map entry_of l.stmts))

-- each call is of fewer statements
abbrev pub decreases-read_stmts : goal.decreases-read_stmts
decreases-read_stmts l = weight (trees_from (map entry_of l.stmts.now))

abbrev pub decreases-read_stmt : goal.decreases-read_stmt
decreases-read_stmt l = 2 + weight (trees_from (inner_of (entry_of l.stmt.now).body))

abbrev pub decreases-read_action : goal.decreases-read_action
decreases-read_action l = 1 + weight (trees_from (map entry_of l.stmts.now))
