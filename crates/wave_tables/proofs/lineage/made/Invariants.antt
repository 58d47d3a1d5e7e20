use Rattle.std.proofs.Common.{◌≤◌, [], ◌∷◌, ◌++◌, length, drop}
use Rattle.std.specs.List.{flat_map}
use Rattle.stil_ast.specs.Meaning.Tables.{lineage}
use Rattle.wave_tables.specs.Scope.{timed}
use Rattle.wave_tables.specs.Lineage.{HasOf, AreMadeAt}
use Rattle.wave_tables.proofs.lineage.made.Given as goal

abbrev pub invariant-loop-left : goal.invariant-loop-left
invariant-loop-left l = record {
  within : l.left ≤ length l.inherits;
  has : AreMadeAt (timed l.scope) l.wholes l.inherits
      → HasOf (timed l.scope) (flat_map (lineage (timed l.scope).tables) (drop l.left l.inherits) ++ (l.number ∷ []))
      l.whole;
}

abbrev pub decreases-loop-left : goal.decreases-loop-left
decreases-loop-left l = l.left
