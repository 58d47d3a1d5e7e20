use Rattle.std.proofs.Common.{◌<◌, length, subst, sym, ◌∙◌, List, ap, get_or}
use Rattle.tester_types.specs.declared.wave.Table.{Table}
use Rattle.packed_code.specs.Program.{Program}
use Rattle.packed_code.proofs.WalkLemmas.{period_fits}
use Rattle.packed_code.proofs.code.Code.table.Goals as goal

pub returns-clause-period : goal.returns-clause-period
returns-clause-period c =
    let program : Program = record { signals = c.self.inside.signals; tables = c.self.inside.tables; rows = c.self.inside.rows; execs = c.self.inside.execs } in
    let table = c.index-as_slice-table.result in
    period_fits program c.args.table table c.self.invariant
    (subst (λ (p : Program). c.args.table < length p.tables) (sym c.self.view_is) c.requires)
    (c.index-as_slice-table.is ∙ ap (λ (xs : List Table). get_or xs c.args.table table) c.as_slice.ensures)
