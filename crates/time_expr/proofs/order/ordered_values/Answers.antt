use Rattle.std.proofs.Common.{subst, sym}
use Rattle.time_expr.specs.Choosing.{AreKnown}
use Rattle.time_expr.proofs.KnownLemmas.{known-none}
use Rattle.time_expr.proofs.order.ordered_values.Goals as goal

pub add_ordered-requires : goal.add_ordered-requires
add_ordered-requires c = subst (AreKnown c.args.variables.now) (sym c.new-vars.ensures) (known-none c.args.variables.now)
