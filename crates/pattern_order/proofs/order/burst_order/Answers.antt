use Rattle.std.proofs.Common.{◌∙◌}
use Rattle.pattern_order.proofs.OrderLemmas.{all_there, too_many}
use Rattle.pattern_order.proofs.order.burst_order.Goals as goal

pub returns-in-Some : goal.returns-in-Some
returns-in-Some c = λ b there.
    all_there c.args.names.now b c.args.exec.now (c.in_ok-check_all_known.ensures b there)
    (c.in_ok-check_all_forward.ensures b there) c.in-Some.patterns (rw c.in-Some.is at (c.in_ok-patterns.ensures b there))

pub returns-in-None : goal.returns-in-None
returns-in-None c = λ b there first same.
    too_many c.args.names.now b c.args.exec.now (c.in_ok-check_all_known.ensures b there)
    (c.in_ok-check_all_forward.ensures b there) (rw c.in-None.is at (c.in_ok-patterns.ensures b there))
    ∙ c.refused.ensures first same
