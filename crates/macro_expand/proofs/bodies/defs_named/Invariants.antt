use Rattle.std.proofs.Common.{◌≡◌, ◌++◌, drop}
use Rattle.stil_ast.specs.Meaning.Resolved.{bodies_named}
use Rattle.macro_expand.specs.Lent.{lent}
use Rattle.macro_expand.proofs.bodies.defs_named.Given as goal

abbrev pub invariant-loop-block : goal.invariant-loop-block
invariant-loop-block l =
    lent l.defs.items ++ bodies_named (drop l.block-index l.blocks) l.title ≡ bodies_named l.blocks l.title
