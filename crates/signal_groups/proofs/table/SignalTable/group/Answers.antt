use Rattle.std.proofs.Common.{ap, ◌∙◌}
use Rattle.signal_groups.specs.Table.{Table}
use Rattle.signal_groups.specs.Lookup.{number_in}
use Rattle.signal_groups.proofs.table.SignalTable.group.Goals as goal

pub returns-clause-number : goal.returns-clause-number
returns-clause-number c =
    c.place_among.ensures.number ∙ ap (λ (t : Table). number_in t.groups c.args.name.now) c.self.view_is
