use Rattle.std.proofs.Common.{◌≡◌}
use Rattle.std.specs.Prelude.{None}
use Rattle.die_sim.specs.Socket.{holding}
use Rattle.cycle_run.specs.Batch.{going_in}
use Rattle.cycle_run.specs.Setup.{code_in, stand_in}
use Rattle.cycle_run.specs.Seat.{between_of, IsBefore}
use Rattle.word_run.specs.First.{first_from}
use Rattle.word_run.specs.Run.{execs_left}
use Rattle.fault_grade.specs.Search.{first_in}
use Rattle.fault_grade.proofs.search.run_all.Given as goal

-- what is left comes to the first fail of all
abbrev pub invariant-loop-exec : goal.invariant-loop-exec
invariant-loop-exec l = record {
  rest : first_from (stand_in l.setup) l.exec (going_in (between_of (holding l.socket None 0) l.at)) (execs_left (code_in l.setup) l.exec)
      ≡ first_in l.setup;
  before : IsBefore l.setup 1 l.exec l.schedules (holding l.socket None 0) l.at;
  loaded : (holding l.socket None 0).loaded ≡ (holding l.fn.socket None 0).loaded;
}
