use Rattle.std.proofs.Common.{◌≡◌, ℕ, List, map, take}
use Rattle.std.specs.List.{list_all}
use Rattle.wave_tables.specs.Lineage.{is_there}
use Rattle.wave_tables.proofs.lineage.ready.Given as goal

abbrev pub invariant-loop-tables : goal.invariant-loop-tables
invariant-loop-tables l = l.list.items
    ≡ map (λ (ks : List ℕ). list_all (is_there l.wholes) ks) (take l.tables-index l.inherits)
