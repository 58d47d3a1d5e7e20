use Rattle.time_expr.specs.Choosing.{AreKnown}
use Rattle.time_expr.proofs.order.add_in_turn.Given as goal

abbrev pub invariant-loop-turn : goal.invariant-loop-turn
invariant-loop-turn l = AreKnown l.variables l.vars
