use Rattle.std.proofs.Common.{ap, ◌∙◌}
use Rattle.expr_text.specs.Vars.{value_of_name}
use Rattle.expr_text.proofs.VarsLemmas.{value_of_name-lookup}
use Rattle.expr_text.proofs.vars.Vars.get.Goals as goal

pub returns : goal.returns
returns c = c.copied.ensures ∙ c.get.ensures.value ∙ value_of_name-lookup c.args.name.now c.self.inside.values.entries
    ∙ ap (value_of_name c.args.name.now) c.self.view_is
