use Rattle.std.proofs.Common.{◌≡◌, ◌++◌, map, drop}
use Rattle.stil_tree.specs.Trees.{entry_of}
use Rattle.stil_form.specs.Reading.{reading}
use Rattle.stil_form.specs.Setting.{setting_of, unskipped}
use Rattle.block_forms.specs.Heads.{under}
use Rattle.timing_blocks.specs.Timings.{judge_table, tables_of, table_names}
use Rattle.timing_blocks.proofs.timings.read_tables.Given as goal

-- what was read, and the rest, are the whole; and the names of what was read stand behind those declared before
abbrev pub invariant-loop-stmt : goal.invariant-loop-stmt
invariant-loop-stmt l =
    (reading (judge_table (setting_of l.reader) l.fn.declared l.title) l.tables.items
    (unskipped (setting_of l.reader) (map entry_of (drop l.stmt-index l.stmts)))
    ≡ tables_of (setting_of l.reader) l.fn.declared l.title (map entry_of l.stmts))
    × (l.declared ≡ l.fn.declared ++ under l.title (table_names l.tables.items))
