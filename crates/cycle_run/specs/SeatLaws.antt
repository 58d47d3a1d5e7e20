-- What is played at a seat composes.
use Rattle.std.specs.Prelude.{ℕ, ◌≤◌, List, [], ◌++◌}
use Rattle.std.proofs.Common.{refl, ◌∙◌, arith}
use Rattle.tester_types.specs.declared.cycle.Cycle.{Cycle}
use Rattle.edge_gen.specs.Held.{Held}
use Rattle.die_sim.specs.Socket.{Told}
use Rattle.cycle_run.specs.declared.stop.Stop.{Stop}
use Rattle.cycle_run.specs.declared.stop.Stop.TheVariants as stop
use Rattle.cycle_run.specs.BatchLaws as batch
use Rattle.cycle_run.specs.BatchLaws.{cause_behind}
use Rattle.cycle_run.specs.declared.setup.Setup.{Setup}
use Rattle.cycle_run.specs.declared.seat.Seat.{Seat}
use Rattle.cycle_run.specs.declared.seat.Standing.{Standing}
use Rattle.cycle_run.specs.Setup.{stand_in}
use Rattle.cycle_run.specs.Seat.{between_of, CanPlay, CanPlayAt, IsSameSeat, PlaysAt, StopsAt}

-- where there is room for more cycles there is for fewer
pub can_less : (setup : Setup) (some more : ℕ) (schedules : Held) (told : Told) (at : Standing) → some ≤ more
    → CanPlay setup more schedules told at → CanPlay setup some schedules told at
can_less setup some more schedules told at less can = record {
  holds = can.holds;
  room = can.room;
  between = can.between;
  early = let a = can.early in omega (arith, less, a);
  few = let a = can.few in omega (arith, less, a);
}

module _ {K : Type 0} (told : K → Told) (setup : Setup) where
  pub ready_less : (some more : ℕ) (seat : Seat K) → some ≤ more → CanPlayAt told setup more seat
      → CanPlayAt told setup some seat
  ready_less some more seat less can =
      can_less setup some more seat.schedules.now (told seat.socket.now) seat.at.now less can

  same_itself : (seat : Seat K) → IsSameSeat told setup seat seat
  same_itself seat = record {
    at = refl;
    schedules = refl;
    socket = refl;
    keeps = record { holds = λ h. h; loaded = refl; count = omega arith };
  }

  same_on : (x y z : Seat K) → IsSameSeat told setup x y → IsSameSeat told setup y z → IsSameSeat told setup x z
  same_on x y z first then = record {
    at = then.at ∙ first.at;
    schedules = then.schedules ∙ first.schedules;
    socket = then.socket ∙ first.socket;
    keeps = record {
      holds = λ h. then.keeps.holds (first.keeps.holds h);
      loaded = then.keeps.loaded ∙ first.keeps.loaded;
      count = let a = first.keeps.count in let b = then.keeps.count in omega (arith, a, b);
    };
  }

  pub plays_none : (exec : ℕ) (seat : Seat K) → PlaysAt told setup exec [] seat seat
  plays_none exec seat = record {
    plays = batch.plays_none (stand_in setup) exec (between_of (told seat.socket.now) seat.at.now);
    same = same_itself seat;
  }

  pub plays_more : (exec : ℕ) (ones others : List Cycle) (x y z : Seat K) → PlaysAt told setup exec ones x y
      → PlaysAt told setup exec others y z → PlaysAt told setup exec (ones ++ others) x z
  plays_more exec ones others x y z first then = record {
    plays = batch.plays-append (stand_in setup) exec ones (between_of (told x.socket.now) x.at.now)
        (between_of (told y.socket.now) y.at.now) (between_of (told z.socket.now) z.at.now) first.plays others
        then.plays;
    same = same_on x y z first.same then.same;
  }

  pub stops_more : (exec : ℕ) (ones others rest : List Cycle) (x y z : Seat K) (why : Stop)
      → PlaysAt told setup exec ones x y
      → StopsAt told setup exec others y z why → StopsAt told setup exec (ones ++ (others ++ rest)) x z why
  stops_more exec ones others rest x y z why first then = record {
    stops = record {
      among = batch.stops-behind (stand_in setup) exec ones others rest (between_of (told x.socket.now) x.at.now)
          (between_of (told y.socket.now) y.at.now) (between_of (told z.socket.now) z.at.now) why first.plays
          then.stops.among;
      cause = cause_behind (told x.socket.now).count (told y.socket.now).count (told z.socket.now).count why
          first.same.keeps.count
          then.same.keeps.count then.stops.cause;
    };
    same = same_on x y z first.same then.same;
  }

  pub stops_short : (exec : ℕ) (ones cycles : List Cycle) (x y : Seat K) → PlaysAt told setup exec ones x y
      → StopsAt told setup exec cycles x y stop.NoMemory
  stops_short exec ones cycles x y first = record { stops = record { among = tt; cause = tt }; same = first.same }
