use Rattle.std.proofs.Common.{◌≡◌, drop}
use Rattle.stil_ast.specs.Meaning.Chains.{out_in}
use Rattle.scan_chain.proofs.making.out_in.Given as goal

abbrev pub invariant-loop-stmt : goal.invariant-loop-stmt
invariant-loop-stmt l =
    out_in (drop l.stmt-index l.stmts) ≡ out_in l.stmts
