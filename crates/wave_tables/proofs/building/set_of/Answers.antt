use Rattle.std.proofs.Common.{List, subst, sym}
use Rattle.std.specs.List.{All}
use Rattle.tester_types.specs.declared.wave.Table.{Table}
use Rattle.wave_tables.specs.Scope.{timed}
use Rattle.wave_tables.specs.Waves.{AreInOrder}
use Rattle.wave_tables.proofs.TableLemmas.{all_free}
use Rattle.wave_tables.proofs.OrderLemmas.{tables_in_order}
use Rattle.wave_tables.proofs.building.set_of.Goals as goal

pub made_tables-requires-clause-free : goal.made_tables-requires-clause-free
made_tables-requires-clause-free c =
    all_free (timed c.args.scope.now) c.args.before c.in_ok-wholes.wholes.items c.in_ok-wholes.ensures
    c.in-Ok.ensures.0

pub from_vec-requires : goal.from_vec-requires
from_vec-requires c =
    subst (λ (l : List Table). All (λ (table : Table). AreInOrder table.waves) l) (sym c.in_ok-tables-in-Ok.ensures)
    (tables_in_order (timed c.args.scope.now))
