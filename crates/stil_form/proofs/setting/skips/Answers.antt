use Rattle.std.proofs.Common.{◌∙◌, ap}
use Rattle.stil_form.specs.Reading.{is_skipped}
use Rattle.stil_form.proofs.setting.skips.Goals as goal

pub returns : goal.returns
returns c = c.skips.ensures ∙ ap (is_skipped c.args.reader.now.words.now) c.head_at.ensures.lexemes
