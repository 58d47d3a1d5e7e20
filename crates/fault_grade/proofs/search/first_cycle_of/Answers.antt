use Rattle.std.proofs.Common.{◌∙◌, ap}
use Rattle.std.specs.Prelude.{None}
use Rattle.die_sim.specs.Socket.{holding}
use Rattle.cycle_run.specs.Setup.{device_in}
use Rattle.cycle_run.specs.Seat.{point_of}
use Rattle.word_run.specs.First.{first_fail}
use Rattle.fault_grade.specs.Search.{first_in}
use Rattle.fault_grade.proofs.SearchLemmas.{kept_first}
use Rattle.fault_grade.proofs.search.first_cycle_of.Goals as goal

pub returns-clause-first : goal.returns-clause-first
returns-clause-first c =
    c.first_cycle.ensures ∙ ap first_fail c.as_slice.ensures
    ∙ kept_first (device_in c.args.setup.now) (first_in c.args.setup.now)
    (point_of (holding c.run_all.new.socket None 0) c.run_all.new.at) c.kept-kept.result c.in_ok-run_all.ensures.first c.kept-kept.ensures
