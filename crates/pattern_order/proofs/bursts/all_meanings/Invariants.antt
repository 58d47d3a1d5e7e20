use Rattle.std.proofs.Common.{◌≡◌, map, take}
use Rattle.pattern_order.specs.Numbers.{meanings_of}
use Rattle.pattern_order.proofs.bursts.all_meanings.Given as goal

abbrev pub invariant-loop-burst : goal.invariant-loop-burst
invariant-loop-burst l = l.meanings.items ≡ map (meanings_of l.places) (take l.burst-index l.bursts)
