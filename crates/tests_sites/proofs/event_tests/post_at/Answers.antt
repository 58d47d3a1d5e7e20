use Rattle.die_sim.specs.Socket.{failing_told}
use Rattle.tests_sites.proofs.event_tests.post_at.Goals as goal

pub returns-clause-is : goal.returns-clause-is
returns-clause-is c = c.in_ok-site.ensures.is (failing_told c.new-2.result)
