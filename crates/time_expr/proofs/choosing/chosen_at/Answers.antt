use Rattle.std.proofs.Common.{List, get_or, ap, subst, ◌∙◌}
use Rattle.std.proofs.lemmas.Option.{get_or_from_slice_get}
use Rattle.stil_ast.specs.Meaning.Variables.{picked}
use Rattle.stil_ast.specs.declared.executive.ExecDecl.{ExecDecl}
use Rattle.time_expr.specs.Choosing.{Chooses}
use Rattle.time_expr.proofs.choosing.chosen_at.Goals as goal

pub returns : goal.returns
returns c = λ e at.
    let here = c.index-as_slice-exec.result in
    subst (λ (x : ExecDecl). Chooses (picked c.args.blocks.now x) c.chosen_for.result)
    (c.index-as_slice-exec.is ∙ ap (λ (es : List ExecDecl). get_or es c.args.exec here) c.as_slice.ensures
    ∙ get_or_from_slice_get c.args.blocks.now.executives c.args.exec e here at) c.chosen_for.ensures
