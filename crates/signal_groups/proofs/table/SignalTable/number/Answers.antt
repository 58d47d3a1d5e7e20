use Rattle.std.proofs.Common.{ap, ◌∙◌}
use Rattle.signal_groups.specs.Table.{Table}
use Rattle.signal_groups.specs.Lookup.{number_in}
use Rattle.signal_groups.proofs.table.SignalTable.number.Goals as goal

pub returns-in_err-place-clause-number : goal.returns-in_err-place-clause-number
returns-in_err-place-clause-number c =
    c.from_residual.ensures ∙ c.in_err-place.ensures.number
    ∙ ap (λ (t : Table). number_in t.texts c.args.name.now) c.self.view_is

pub returns-clause-number : goal.returns-clause-number
returns-clause-number c =
    c.in_ok-place.ensures.number ∙ ap (λ (t : Table). number_in t.texts c.args.name.now) c.self.view_is
