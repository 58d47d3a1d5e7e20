use Rattle.std.proofs.Common.{◌≡◌, map, drop}
use Rattle.stil_tree.specs.Trees.{entry_of}
use Rattle.answers.specs.Reading.{reading}
use Rattle.stil_form.specs.Setting.{setting_of, unskipped}
use Rattle.scan_blocks.specs.Chains.{judge_stmt, with_words, stmts_in}
use Rattle.scan_blocks.proofs.chain.read_stmts.Given as goal

-- what was read, and the rest, are the whole
abbrev pub invariant-loop-stmt : goal.invariant-loop-stmt
invariant-loop-stmt l =
    reading (judge_stmt (setting_of l.reader)) l.read.items
    (with_words (setting_of l.reader) (unskipped (setting_of l.reader) (map entry_of (drop l.stmt-index l.stmts))))
    ≡ stmts_in (setting_of l.reader) (map entry_of l.stmts)
