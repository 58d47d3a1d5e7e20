use Rattle.std.proofs.Common.{◌∙◌, ◌&&◌}
use Rattle.std.specs.Str.{bytes_eq}
use Rattle.text_bytes.proofs.BoolLemmas.{new_or_there}
use Rattle.block_forms.specs.Indices.{has_pair}
use Rattle.block_forms.proofs.declared.add_pair.Goals as goal

pub returns : goal.returns
returns c = λ other name.
    c.in_ok-insert.ensures.updates.0 (record c.args.title { now = other }, record c.args.called { now = name })
    ∙ new_or_there (bytes_eq c.args.title.now other && bytes_eq c.args.called.now name) (has_pair c.args.index.now other name)
