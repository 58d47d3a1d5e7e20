use Rattle.std.proofs.Common.{◌≡◌, take, map, length}
use Rattle.std.specs.Prelude.{unwrap_or}
use Rattle.tester_types.specs.declared.level.Level.TheVariants.{X}
use Rattle.die_sim.proofs.die.put_first.Given as goal

abbrev pub invariant-loop-net : goal.invariant-loop-net
invariant-loop-net l = record {
  done : take l.net l.levels.items ≡ map (λ f. unwrap_or f X) (take l.net l.fixed);
  count : length l.levels.items ≡ length l.fixed;
}
