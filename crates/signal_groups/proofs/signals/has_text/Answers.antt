use Rattle.std.proofs.Common.{◌∙◌}
use Rattle.signal_groups.proofs.LookupLemmas.{any-keys}
use Rattle.signal_groups.proofs.signals.has_text.Goals as goal

pub returns : goal.returns
returns c = c.contains.ensures ∙ any-keys c.args.texts.now.keys c.args.text.now
