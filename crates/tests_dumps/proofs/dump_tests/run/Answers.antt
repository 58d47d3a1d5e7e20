use Rattle.die_sim.specs.Socket.{taping_told}
use Rattle.tests_dumps.proofs.dump_tests.run.Goals as goal

pub touch-requires-clause-site : goal.touch-requires-clause-site
touch-requires-clause-site g c = c.in_ok-mem.ensures.is (taping_told c.args.socket.now)
