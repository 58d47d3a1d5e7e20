use Rattle.std.proofs.Common.{◌∙◌}
use Rattle.signal_groups.proofs.LookupLemmas.{number_in-keys}
use Rattle.signal_groups.proofs.places.place_among.Goals as goal

pub returns-clause-number : goal.returns-clause-number
returns-clause-number c =
    c.get_index_of.ensures.index ∙ number_in-keys c.args.names.now.keys c.args.name.now
