use Rattle.std.proofs.Common.{◌≡◌, take, map}
use Rattle.std.specs.Prelude.{unwrap_or}
use Rattle.tester_types.specs.declared.level.Level.TheVariants.{X}
use Rattle.die_sim.proofs.die.first_levels.Given as goal

abbrev pub invariant-loop-level : goal.invariant-loop-level
invariant-loop-level l = l.levels.items ≡ map (λ f. unwrap_or f X) (take l.level-index l.fixed)
