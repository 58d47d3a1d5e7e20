use Rattle.std.proofs.Common.{◌≡◌, drop}
use Rattle.stil_ast.specs.Faults.Found.{first_in}
use Rattle.stil_ast.specs.Meaning.Signals.{Names}
use Rattle.stil_ast.specs.Meaning.Chains.{chain_stmt_fault}
use Rattle.signal_groups.specs.Table.{table_of}
use Rattle.scan_chain.proofs.checking.check_stmts.Given as goal

abbrev pub invariant-loop-stmt : goal.invariant-loop-stmt
invariant-loop-stmt l =
    (names : Names) → l.signals ≡ table_of names
    → first_in (chain_stmt_fault names l.block) (drop l.stmt-index l.stmts)
    ≡ first_in (chain_stmt_fault names l.block) l.stmts
