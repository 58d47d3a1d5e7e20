use Rattle.std.proofs.Common.{◌≡◌, drop}
use Rattle.stil_ast.specs.Meaning.Chains.{cells_in}
use Rattle.scan_chain.proofs.making.cells_decl.Given as goal

abbrev pub invariant-loop-stmt : goal.invariant-loop-stmt
invariant-loop-stmt l =
    cells_in (drop l.stmt-index l.stmts) ≡ cells_in l.stmts
