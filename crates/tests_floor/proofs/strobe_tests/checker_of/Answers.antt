use Rattle.std.proofs.Common.{length, ap, arith}
use Rattle.strobe_check.proofs.HistoryLemmas.{length-numbered}
use Rattle.tests_floor.proofs.strobe_tests.checker_of.Goals as goal

pub loop-at-init : goal.loop-at-init
loop-at-init c =
    omega (arith, ap length c.in_ok-checker.ensures.bound, length-numbered c.args.bound)
