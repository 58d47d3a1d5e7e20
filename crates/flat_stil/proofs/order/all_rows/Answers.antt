use Rattle.std.proofs.Common.{sym, ◌∙◌}
use Rattle.flat_stil.proofs.OrderLemmas.{firsts_nothing}
use Rattle.flat_stil.proofs.order.all_rows.Goals as goal

pub loop-exec-init : goal.loop-exec-init
loop-exec-init c = c.in_ok-rows.ensures ∙ sym firsts_nothing
