use Rattle.signal_groups.proofs.LookupLemmas.{keys-pushed}
use Rattle.signal_groups.proofs.groups.push.Goals as goal

pub returns : goal.returns
returns c =
    keys-pushed c.args.names.now.keys c.insert.new.self.keys c.in_ok-name.name c.args.name.now c.in_ok-name.ensures.items c.requires
    c.in_ok-insert.ensures.keys
