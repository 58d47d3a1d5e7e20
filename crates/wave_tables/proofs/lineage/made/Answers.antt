use Rattle.std.proofs.Common.{arith, ◌-◌, ◌∷◌, []}
use Rattle.wave_tables.specs.Scope.{timed}
use Rattle.wave_tables.proofs.LineageLemmas.{has_more}
use Rattle.wave_tables.proofs.lineage.made.Goals as goal

pub loop-left-preserved : goal.loop-left-preserved
loop-left-preserved c = record {
  within = omega arith;
  has = λ made. has_more (timed c.args.scope.now) c.args.wholes.now c.args.inherits.now (c.args.number ∷ [])
      c.loop-left.left
      (c.loop-left.left - 1) c.loop-left.whole c.over_inherited-whole.result (omega arith) c.loop-left.invariant.within
      made
      (c.loop-left.invariant.has made) c.over_inherited-whole.ensures;
}
