use Rattle.std.proofs.Common.{◌∙◌}
use Rattle.signal_groups.proofs.LookupLemmas.{any-keys}
use Rattle.signal_groups.proofs.groups.has_name.Goals as goal

pub returns : goal.returns
returns c = c.contains.ensures ∙ any-keys c.args.names.now.keys c.args.name.now
