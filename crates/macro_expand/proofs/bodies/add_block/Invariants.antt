use Rattle.std.proofs.Common.{◌≡◌, ◌++◌, drop}
use Rattle.macro_expand.specs.Lent.{lent}
use Rattle.macro_expand.proofs.bodies.add_block.Given as goal

abbrev pub invariant-loop-def : goal.invariant-loop-def
invariant-loop-def l = lent l.defs.items ++ drop l.def-index l.def-items ≡ lent l.fn.defs.items ++ l.fn.block.bodies
