use Rattle.die_sim.specs.Die.{device_of}
use Rattle.cycle_run.specs.Cycle.{point_at}
use Rattle.cycle_run.specs.Step.{whose_at}
use Rattle.cycle_run.proofs.CycleLemmas.{begins, closes, is_between}
use Rattle.cycle_run.proofs.cycle.make_all.Goals as goal

pub make_moments-requires-clause-ready : goal.make_moments-requires-clause-ready
make_moments-requires-clause-ready g c = begins (device_of c.args.image.now) _ c.requires.between

pub returns-in-Ok-clause-closes : goal.returns-in-Ok-clause-closes
returns-in-Ok-clause-closes g c =
    closes (device_of c.args.image.now) (whose_at c.args.place) _
    (point_at c.args.bench.now.checker c.args.bench.now.last.items (g.K.Socket.told c.args.socket.now))
    (point_at c.make_moments.new.bench.checker c.make_moments.new.bench.last.items (g.K.Socket.told c.make_moments.new.socket))
    c.close_cycle.new.self c.in-Ok.ensures.makes.0 c.close_cycle.ensures.seen

pub returns-in-Ok-clause-between : goal.returns-in-Ok-clause-between
returns-in-Ok-clause-between g c =
    is_between (device_of c.args.image.now) (whose_at c.args.place) _
    (point_at c.args.bench.now.checker c.args.bench.now.last.items (g.K.Socket.told c.args.socket.now))
    (point_at c.make_moments.new.bench.checker c.make_moments.new.bench.last.items (g.K.Socket.told c.make_moments.new.socket))
    c.close_cycle.new.self c.in-Ok.ensures.makes.0 c.close_cycle.ensures.seen c.requires.between c.in-Ok.ensures.makes.1

pub returns-in-Err-clause-stops : goal.returns-in-Err-clause-stops
returns-in-Err-clause-stops g c = c.in-Err.ensures.makes.0

pub returns-in-Err-clause-cause : goal.returns-in-Err-clause-cause
returns-in-Err-clause-cause g c = c.in-Err.ensures.makes.1
