use Rattle.std.proofs.Common.{◌∙◌}
use Rattle.die_sim.specs.Die.{device_of}
use Rattle.cycle_run.proofs.BenchLemmas.{checker_of}
use Rattle.cycle_run.proofs.bench.Bench.new.Goals as goal

pub returns-clause-checker : goal.returns-clause-checker
returns-clause-checker c =
    checker_of (device_of c.args.image.now) c.args.keep c.args.signals c.as_slice.result.now c.in_ok-make.field-0 c.requires.count c.requires.few
    (c.as_slice.ensures.value ∙ c.in_ok-bound.ensures) c.in_ok-make.ensures
