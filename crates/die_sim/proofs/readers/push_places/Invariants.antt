use Rattle.std.proofs.Common.{◌≡◌, ◌++◌, map, take}
use Rattle.die_sim.specs.Pending.{place_at}
use Rattle.die_sim.proofs.readers.push_places.Given as goal

abbrev pub invariant-loop-net : goal.invariant-loop-net
invariant-loop-net l = l.places.items ≡ l.fn.places.items ++ map (place_at l.pending) (take l.net-index l.nets)
