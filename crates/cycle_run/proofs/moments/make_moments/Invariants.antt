use Rattle.std.proofs.Common.{◌≡◌, ◌≤◌, length, map, take}
use Rattle.edge_gen.specs.Moments.{later}
use Rattle.die_sim.specs.Die.{device_of}
use Rattle.cycle_run.specs.Cycle.{point_at}
use Rattle.cycle_run.specs.Step.{FitsBench, IsReady, GoesThrough, whose_at}
use Rattle.cycle_run.proofs.moments.make_moments.Given as goal

-- the moments so far were made
abbrev pub invariant-loop-moment : goal.invariant-loop-moment
invariant-loop-moment g l = record {
  goes : GoesThrough (device_of l.image) (whose_at l.place) (map (later l.place.start) (take l.moment-index l.moments))
      (point_at l.fn.bench.checker l.fn.bench.last.items (g.K.Socket.told l.fn.socket))
      (point_at l.bench.checker l.bench.last.items (g.K.Socket.told l.socket));
  ready : IsReady (device_of l.image) (point_at l.bench.checker l.bench.last.items (g.K.Socket.told l.socket));
  room : FitsBench (length l.image.binds) l.bench.last.items l.bench.levels.items;
  loaded : (g.K.Socket.told l.socket).loaded ≡ (g.K.Socket.told l.fn.socket).loaded;
  count : (g.K.Socket.told l.fn.socket).count ≤ (g.K.Socket.told l.socket).count;
}
