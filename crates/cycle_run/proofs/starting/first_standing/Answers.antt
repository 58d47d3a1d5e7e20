use Rattle.std.proofs.Common.{ap, sym, ◌∙◌, replicate, ℕ}
use Rattle.tester_types.specs.declared.level.Drive.TheVariants as drive
use Rattle.cycle_run.proofs.SeatLemmas.{starts}
use Rattle.cycle_run.proofs.starting.first_standing.Goals as goal

pub returns : goal.returns
returns c = λ schedules told holds loaded.
    let count = c.signals.ensures.count ∙ sym c.requires.signals in
    let bench = c.in_ok-bench.ensures in
    starts c.args.setup.now c.args.keep schedules told c.in_ok-bench.bench c.signals.ensures.conditions c.requires holds loaded bench.checker
    (bench.last ∙ ap (λ (n : ℕ). replicate n drive.Unknown) count) (bench.levels ∙ count)
