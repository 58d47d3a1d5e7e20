use Rattle.std.proofs.Common.{List, [], map, Result, Ok, Err, sym, ap, subst, ◌∙◌}
use Rattle.std.proofs.lemmas.Result.{err_from_is_err_and}
use Rattle.stil_tree.specs.Trees.{Entry, entry_of}
use Rattle.answers.specs.Reading.{reading, stepping}
use Rattle.stil_ast.specs.declared.variable.Selection.{Selection}
use Rattle.stil_form.specs.declared.fault.FormFault.{FormFault}
use Rattle.stil_form.specs.Reading.{Answers}
use Rattle.stil_form.specs.Setting.{setting_of, unskipped}
use Rattle.timing_blocks.specs.Selectors.{judge_selection, selections_of}
use Rattle.timing_blocks.specs.Working.{selection_step}
use Rattle.timing_blocks.proofs.SelectorLemmas.{selections_computed}
use Rattle.timing_blocks.proofs.selectors.read_selections.Goals as goal

pub returns : goal.returns
returns c =
    let s = setting_of c.args.reader.now in
    ap (λ es. reading (judge_selection s) [] (unskipped s es)) (sym c.inner_of.ensures)
    ∙ sym (selections_computed s (unskipped s (map entry_of c.inner_of.result.now)))
    ∙ ap (λ (start : List Selection). stepping (selection_step s) start (unskipped s (map entry_of c.inner_of.result.now))) (sym c.new.ensures)
    ∙ c.in_ok-read.ensures ∙ ap Ok (sym c.into_list.ensures)

pub returns-in_err-read : goal.returns-in_err-read
returns-in_err-read c =
    let s = setting_of c.args.reader.now in
    let es : List Entry = unskipped s (map entry_of c.inner_of.result.now) in
    let p = err_from_is_err_and c.from_residual.result c.from_residual.ensures.1 in
    rw (p.1, p.2)
    (subst (λ (wanted : Result (List Selection) FormFault). Answers (Err c.in_err-read.field-0.0) wanted)
    (ap (λ (start : List Selection). stepping (selection_step s) start es) c.new.ensures
    ∙ selections_computed s es ∙ ap (λ (all : List Entry). selections_of s all) c.inner_of.ensures)
    c.in_err-read.ensures)
