use Rattle.std.proofs.Common.{List, map, Result, ap, subst, ◌∙◌}
use Rattle.stil_tree.specs.Trees.{Entry, entry_of}
use Rattle.answers.specs.Reading.{stepping}
use Rattle.stil_form.specs.declared.fault.FormFault.{FormFault}
use Rattle.stil_form.specs.Reading.{Answers}
use Rattle.stil_form.specs.Setting.{setting_of, unskipped}
use Rattle.stil_ast.specs.declared.timing.TableDecl.{TableDecl}
use Rattle.timing_blocks.specs.Working.{table_step}
use Rattle.timing_blocks.proofs.TableLemmas.{empty_is, table_computed}
use Rattle.timing_blocks.proofs.timings.read_table.Goals as goal

pub returns : goal.returns
returns c =
    let s = setting_of c.args.reader.now in
    let es : List Entry = unskipped s (map entry_of c.args.stmts.now) in
    subst (λ (wanted : Result TableDecl FormFault). Answers c.read_unskipped_steps.result wanted)
    (ap (λ (start : TableDecl). stepping (table_step s) start es)
    (empty_is c.in_ok-from_slice.field-0 c.args.called.now c.args.line c.from_vec.result c.from_vec-2.result
    c.in_ok-from_slice.ensures (c.from_vec.ensures ∙ c.new.ensures.items) (c.from_vec-2.ensures ∙ c.new-2.ensures.items))
    ∙ table_computed s c.args.called.now c.args.line es)
    c.read_unskipped_steps.ensures
