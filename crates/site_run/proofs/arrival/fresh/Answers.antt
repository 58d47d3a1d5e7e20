use Rattle.std.proofs.Common.{◌∙◌, length, ap, sym}
use Rattle.packed_code.specs.Program.{Program}
use Rattle.die_sim.specs.Die.{device_of}
use Rattle.std.proofs.Common.{[]}
use Rattle.site_run.proofs.RunLemmas.{counted}
use Rattle.site_run.proofs.ArrivalLemmas.{fresh_run, fresh_before}
use Rattle.site_run.proofs.arrival.fresh.Goals as goal

pub returns-clause-fresh : goal.returns-clause-fresh
returns-clause-fresh c = λ part die number told device loaded.
    fresh_run c.args.ground.now.image.now c.requires.set_up.whole c.in_ok-cursor.cursor c.in_ok-bench.bench c.args.keep c.signals.result c.in_ok-bench.ensures.checker
    c.in_ok-bench.ensures.last
    (c.signals.ensures.count ∙ ap (λ (p : Program). length p.signals) c.code-code.ensures ∙ sym c.requires.set_up.signals) told loaded part die number device

pub returns-clause-before : goal.returns-clause-before
returns-clause-before c = λ told loaded.
    fresh_before c.args.ground.now.image.now c.requires.set_up.whole c.in_ok-cursor.cursor c.in_ok-bench.bench c.args.keep c.signals.result c.in_ok-bench.ensures.checker
    c.in_ok-bench.ensures.last
    (c.signals.ensures.count ∙ ap (λ (p : Program). length p.signals) c.code-code.ensures ∙ sym c.requires.set_up.signals) told loaded c.in_ok-bench.ensures.levels

pub returns-clause-keep : goal.returns-clause-keep
returns-clause-keep c =
    (counted (device_of c.args.ground.now.image.now) c.args.keep [] c.in_ok-bench.bench.checker c.in_ok-bench.ensures.checker).most
