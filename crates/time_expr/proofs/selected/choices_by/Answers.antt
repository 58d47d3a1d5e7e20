use Rattle.std.proofs.Common.{◌∙◌, ap, sym, Option}
use Rattle.std.specs.Borrow.{Bor}
use Rattle.std.specs.Option.{option_copied}
use Rattle.stil_ast.specs.Meaning.Variables.{choice_in}
use Rattle.stil_ast.specs.declared.variable.Selector.{Selector}
use Rattle.time_expr.specs.Selected.{kept_choice, choice_of}
use Rattle.time_expr.proofs.SelectedLemmas.{choices-selected, none-kept}
use Rattle.time_expr.proofs.selected.choices_by.Goals as goal

pub returns-in-Some : goal.returns-in-Some
returns-in-Some c =
    choices-selected kept_choice c.choices_of.result c.args.selector c.in-Some.selector c.as_slice.result.now c.in-Some.is
    c.as_slice.ensures c.choices_of.ensures

pub returns-in-None : goal.returns-in-None
returns-in-None c = λ name.
    ap choice_of (none-kept c.new.result name c.new.ensures.empty)
    ∙ ap (λ (o : Option (Bor Selector)). choice_in (option_copied o) name) (sym c.in-None.is)
