use Rattle.std.proofs.Common.{◌∙◌}
use Rattle.std.specs.Str.{bytes_eq}
use Rattle.text_bytes.proofs.BoolLemmas.{new_or_there}
use Rattle.grade_parts.specs.Step.{has_in}
use Rattle.grade_parts.proofs.told.add_net.Goals as goal

pub returns : goal.returns
returns c = λ other.
    c.in_ok-insert.ensures.updates.0 (record c.args.net { now = other })
    ∙ new_or_there (bytes_eq c.args.net.now other) (has_in c.args.nets.now other)
