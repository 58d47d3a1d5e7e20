use Rattle.std.proofs.Common.{◌∙◌}
use Rattle.std.specs.Str.{bytes_eq}
use Rattle.indexmap.specs.IndexSet.{keys}
use Rattle.text_bytes.specs.Texts.{is_among}
use Rattle.text_bytes.proofs.BoolLemmas.{new_or_there}
use Rattle.stil_form.proofs.words.add_word.Goals as goal

pub returns : goal.returns
returns c = λ other.
    c.in_ok-insert.ensures.updates.0 (record c.args.word { now = other })
    ∙ new_or_there (bytes_eq c.args.word.now other) (is_among (keys c.args.index.now) other)
