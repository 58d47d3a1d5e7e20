use Rattle.std.proofs.Common.{◌≡◌, take, length}
use Rattle.die_sim.specs.Moment.{put_all}
use Rattle.die_sim.proofs.moment.put_all.Given as goal

abbrev pub invariant-loop-signal : goal.invariant-loop-signal
invariant-loop-signal l = record {
  all : l.held.items ≡ put_all l.bind.nets l.fn.held.items (take l.signal-index l.drives);
  count : length l.held.items ≡ length l.fn.held.items;
}
