use Rattle.wave_tables.specs.Scope.{timed}
use Rattle.wave_tables.proofs.LineageLemmas.{has_own}
use Rattle.wave_tables.proofs.lineage.own_whole.Goals as goal

pub returns : goal.returns
returns c = has_own (timed c.args.scope.now) c.args.number c.args.table.now _ c.requires c.in_ok-slots.ensures
    c.in_ok-period.ensures
