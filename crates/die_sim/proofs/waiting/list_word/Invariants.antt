use Rattle.std.proofs.Common.{◌≡◌, ◌*◌, length}
use Rattle.die_sim.proofs.WaitingLemmas.{ListedTo}
use Rattle.die_sim.proofs.waiting.list_word.Given as goal

abbrev pub invariant-loop-left : goal.invariant-loop-left
invariant-loop-left l = record {
  listed : ListedTo l.nets l.bits (64 * l.at) l.left l.count l.list.items;
  size : length l.list.items ≡ length l.fn.list.items;
}

abbrev pub decreases-loop-left : goal.decreases-loop-left
decreases-loop-left l = l.left
