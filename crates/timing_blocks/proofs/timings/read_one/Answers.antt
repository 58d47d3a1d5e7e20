use Rattle.std.proofs.Common.{List, [], ◌∷◌, ◌++◌, map, ℕ, ap, sym, ◌∙◌}
use Rattle.stil_tree.specs.Trees.{entry_of}
use Rattle.stil_form.specs.Setting.{setting_of}
use Rattle.timing_blocks.proofs.TableLemmas.{name-table_of}
use Rattle.timing_blocks.proofs.timings.read_one.Goals as goal

pub returns-clause-names : goal.returns-clause-names
returns-clause-names c =
    c.in_ok-add.ensures
    ∙ ap (λ (called : List ℕ). c.args.declared.now ++ (c.args.title.now, called) ∷ [])
    (sym (name-table_of (setting_of c.args.reader.now) c.in_ok-called.called.now c.line_at-line.result
    (map entry_of c.inner_of.result.now) c.in_ok-table.table c.in_ok-table.ensures))
