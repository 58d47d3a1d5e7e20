use Rattle.std.proofs.Common.{List, map, Result, ap, subst, ◌∙◌}
use Rattle.stil_tree.specs.Trees.{Entry, entry_of}
use Rattle.stil_form.specs.declared.fault.FormFault.{FormFault}
use Rattle.stil_form.specs.Reading.{Answers}
use Rattle.stil_form.specs.Setting.{setting_of, unskipped}
use Rattle.stil_ast.specs.declared.variable.Choices.{Choices}
use Rattle.timing_blocks.specs.Variables.{choices_of}
use Rattle.timing_blocks.proofs.ChoiceLemmas.{choices_computed}
use Rattle.timing_blocks.proofs.variables.read_choices.Goals as goal

pub returns : goal.returns
returns c =
    let s = setting_of c.args.reader.now in
    subst (λ (wanted : Result Choices FormFault). Answers c.read_unskipped_steps.result wanted)
    (choices_computed s (unskipped s (map entry_of c.inner_of.result.now))
    ∙ ap (λ (es : List Entry). choices_of s es) c.inner_of.ensures)
    c.read_unskipped_steps.ensures
