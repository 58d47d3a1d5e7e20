use Rattle.std.proofs.Common.{◌≡◌, ℕ, ◌<◌, List, take}
use Rattle.tester_types.specs.declared.level.Level.{Level}
use Rattle.die_sim.specs.Moment.{put_all}
use Rattle.die_words.specs.Lane.{IsLane}
use Rattle.die_words.specs.Lanes.{AreOff}
use Rattle.die_words.specs.Board.{FitNets}
use Rattle.die_words.proofs.drives.put_all.Given as goal

abbrev pub invariant-loop-signal : goal.invariant-loop-signal
invariant-loop-signal l = record {
  fit : FitNets l.net l.nets;
  forces : l.nets.forces.items ≡ l.fn.nets.forces.items;
  lanes : (k : ℕ) (own : List Level) → k < 64 → IsLane l.fn.nets.held.items k own
      → IsLane l.nets.held.items k (put_all l.bind.nets own (take l.signal-index l.drives));
  offs : (own : List Level) → AreOff l.fn.nets.offs.items own
      → AreOff l.nets.offs.items (put_all l.bind.nets own (take l.signal-index l.drives));
}
