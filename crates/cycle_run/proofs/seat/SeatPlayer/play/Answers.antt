use Rattle.std.proofs.Common.{◌+◌, ◌∙◌, [], ap, refl, rules, sym}
use Rattle.cycle_run.specs.BatchLaws.{period_is, plays_one, stops_one}
use Rattle.cycle_run.specs.declared.seat.Standing.{Standing}
use Rattle.cycle_run.specs.Setup.{stand_in}
use Rattle.cycle_run.specs.Seat.{between_of}
use Rattle.cycle_run.proofs.seat.SeatPlayer.play.Goals as goal

pub returns-in-Err-clause-stops : goal.returns-in-Err-clause-stops
returns-in-Err-clause-stops g c =
    let at = c.args.self.now.at.now in
    let made = c.in-Err.ensures in
    let new : Standing = record { number = at.number; time = at.time; bench = c.make_lent.new.bench } in
    record {
      stops = record {
        among = stops_one (stand_in c.args.setup.now) c.args.exec c.args.cycle [] (between_of (g.K.Socket.told c.args.self.now.socket.now) at)
            (between_of (g.K.Socket.told c.make_lent.new.socket) new) c.in-Err.stop made.stops refl;
        cause = made.cause;
      };
      same = record {
        at = search rules;
        schedules = search rules;
        socket = search rules;
        keeps = record { holds = λ _. made.held; loaded = made.loaded; count = made.count };
      };
    }

pub returns-clause-plays : goal.returns-clause-plays
returns-clause-plays g c =
    let at = c.args.self.now.at.now in
    let made = c.in-Ok.ensures in
    let new : Standing = record { number = at.number + 1; time = at.time + c.from.result; bench = c.make_lent.new.bench } in
    let period = c.from.ensures ∙ sym (period_is _ c.args.cycle.table c.table.result.now c.table.ensures.found) in
    record {
      plays = plays_one (stand_in c.args.setup.now) c.args.exec c.args.cycle (between_of (g.K.Socket.told c.args.self.now.socket.now) at)
          (between_of (g.K.Socket.told c.make_lent.new.socket) new) made.plays (ap (λ n. at.time + n) period) refl;
      same = record {
        at = search rules;
        schedules = search rules;
        socket = search rules;
        keeps = record { holds = λ _. made.held; loaded = made.loaded; count = made.count };
      };
    }
