use Rattle.std.proofs.Common.{◌≡◌, map, take}
use Rattle.pattern_order.specs.Numbers.{meaning_of}
use Rattle.pattern_order.proofs.bursts.meanings_of.Given as goal

abbrev pub invariant-loop-item : goal.invariant-loop-item
invariant-loop-item l = l.meanings.items ≡ map (meaning_of l.places) (take l.item-index l.item-items)
