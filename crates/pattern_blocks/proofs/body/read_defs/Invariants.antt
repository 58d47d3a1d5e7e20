use Rattle.std.proofs.Common.{◌≡◌, ◌++◌, map, drop}
use Rattle.stil_tree.specs.Trees.{entry_of}
use Rattle.answers.specs.Reading.{reading}
use Rattle.stil_form.specs.Setting.{setting_of, unskipped}
use Rattle.block_forms.specs.Heads.{under}
use Rattle.pattern_blocks.specs.Defs.{judge_def, names_of, defs_in}
use Rattle.pattern_blocks.proofs.body.read_defs.Given as goal

-- what was read, and the rest, are the whole; the names are those of what was read
abbrev pub invariant-loop-stmt : goal.invariant-loop-stmt
invariant-loop-stmt l =
    (reading (judge_def (setting_of l.reader) l.place l.title l.fn.declared) l.read.items
    (unskipped (setting_of l.reader) (map entry_of (drop l.stmt-index l.stmts)))
    ≡ defs_in (setting_of l.reader) l.place l.title l.fn.declared (map entry_of l.stmts))
    × (l.declared ≡ l.fn.declared ++ under l.title (names_of l.read.items))
