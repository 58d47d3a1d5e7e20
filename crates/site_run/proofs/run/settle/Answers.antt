use Rattle.std.proofs.Common.{◌≤◌, ◌+◌, length, arith, ap}
use Rattle.packed_code.specs.Program.{Program}
use Rattle.packed_code.specs.Cycles.{cycles_of}
use Rattle.site_run.specs.Seat.{running_of}
use Rattle.packed_code.proofs.WalkLemmas.{length-cycles}
use Rattle.site_run.proofs.MoveLemmas.{total_is, settled_more, settled_fail, settled_on, comes_before, moves_on, fits_on}
use Rattle.site_run.proofs.run.settle.Goals as goal

pub returns-then-run-cycles-clause-polled : goal.returns-then-run-cycles-clause-polled
returns-then-run-cycles-clause-polled c = λ part number told is.
    let run = c.args.run.now in
    let code = c.args.ground.now.mem.now.code in
    let count = length-cycles c.code.result.now run.exec in
    let all = ap (λ (p : Program). length (cycles_of p run.exec)) c.code.ensures in
    settled_more part number (running_of told run) code is (omega (arith, c.if-run-cycles.true, c.cycles.ensures, count, all))

pub returns-then-run-cycles-clause-fits : goal.returns-then-run-cycles-clause-fits
returns-then-run-cycles-clause-fits c = λ device told r.
    let run = c.args.run.now in
    let count = length-cycles c.code.result.now run.exec in
    let all = ap (λ (p : Program). length (cycles_of p run.exec)) c.code.ensures in
    (r, omega (arith, c.if-run-cycles.true, c.cycles.ensures, count, all))

pub returns-then-total-gt0-clause-polled : goal.returns-then-total-gt0-clause-polled
returns-then-total-gt0-clause-polled c = λ part number told is.
    let run = c.args.run.now in
    let code = c.args.ground.now.mem.now.code in
    let count = length-cycles c.code.result.now run.exec in
    let all = ap (λ (p : Program). length (cycles_of p run.exec)) c.code.ensures in
    let total = total_is run.at.bench.checker c.total.result c.requires.seen c.total.ensures in
    settled_fail part number (running_of told run) code is (omega (arith, c.if-run-cycles.false, c.cycles.ensures, count, all))
    (omega (arith, c.if-total-gt0.true, total))

pub returns-clause-polled : goal.returns-clause-polled
returns-clause-polled c =
    let run = c.args.run.now in
    let code = c.args.ground.now.mem.now.code in
    let count = length-cycles c.code.result.now run.exec in
    let all = ap (λ (p : Program). length (cycles_of p run.exec)) c.code.ensures in
    let over : length (cycles_of code run.exec) ≤ run.done = omega (arith, c.if-run-cycles.false, c.cycles.ensures, count, all) in
    let total = total_is run.at.bench.checker c.total.result c.requires.seen c.total.ensures in
    let none : run.at.bench.checker.count.total ≤ 0 = omega (arith, c.if-total-gt0.false, total) in
    moves_on code run c.onward.new.run (run.exec + 1) c.onward.result
    (λ part number told is. settled_on part number (running_of told run) code is over none) c.onward.ensures.polled

pub returns-clause-fits : goal.returns-clause-fits
returns-clause-fits c =
    let run = c.args.run.now in
    let code = c.args.ground.now.mem.now.code in
    fits_on code run c.onward.new.run (run.exec + 1) c.onward.result
    (λ device told r. comes_before code device told run c.requires.set_up.program r) c.onward.ensures.fits
