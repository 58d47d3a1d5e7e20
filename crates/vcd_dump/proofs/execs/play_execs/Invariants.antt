use Rattle.std.proofs.Common.{◌≡◌, ◌++◌, drop}
use Rattle.site_meaning.specs.Trials.{execs_of}
use Rattle.cycle_run.specs.Setup.{code_in, stand_in}
use Rattle.vcd_dump.specs.Play.{calls_from, going_of, StandsBefore}
use Rattle.vcd_dump.proofs.execs.play_execs.Given as goal

-- the calls so far and those from here on are all
abbrev pub invariant-loop-exec : goal.invariant-loop-exec
invariant-loop-exec l = record {
  before : StandsBefore l.setup l.exec l.way;
  all : l.way.recorder.calls
      ++ calls_from (stand_in l.setup) l.fn.batch l.exec (going_of l.way) l.order (drop l.exec (execs_of (code_in l.setup)))
      ≡ l.fn.way.recorder.calls
      ++ calls_from (stand_in l.setup) l.fn.batch 0 (going_of l.fn.way) l.fn.order (execs_of (code_in l.setup));
}
