use Rattle.std.proofs.Common.{◌≡◌, drop}
use Rattle.stil_ast.specs.Meaning.Chains.{length_in}
use Rattle.scan_chain.proofs.making.length_in.Given as goal

abbrev pub invariant-loop-stmt : goal.invariant-loop-stmt
invariant-loop-stmt l =
    length_in (drop l.stmt-index l.stmts) ≡ length_in l.stmts
