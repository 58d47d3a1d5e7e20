use Rattle.std.proofs.Common.{◌∙◌, ◌||◌, ap}
use Rattle.std.specs.Str.{bytes_eq}
use Rattle.text_bytes.proofs.BoolLemmas.{new_or_there}
use Rattle.text_bytes.specs.Texts.{is_among}
use Rattle.indexmap.specs.IndexSet.{keys}
use Rattle.expr_text.proofs.VarsLemmas.{same-comm}
use Rattle.time_expr.proofs.selected.add_name.Goals as goal

pub returns : goal.returns
returns c = λ other.
    c.in_ok-insert.ensures.updates.0 (record c.args.name { now = other })
    ∙ new_or_there (bytes_eq c.args.name.now other) (is_among (keys c.args.index.now) other)
    ∙ ap (λ b. is_among (keys c.args.index.now) other || b) (same-comm c.args.name.now other)
