use Rattle.std.proofs.Common.{sym, subst}
use Rattle.stil_ast.specs.Meaning.Chains.{chain_stmt_fault}
use Rattle.stil_ast.specs.declared.scan.ChainStmt.{ChainStmt}
use Rattle.answers.specs.Answers.{Passes}
use Rattle.scan_chain.proofs.checking.check_stmt.Goals as goal

pub returns-in-Cells : goal.returns-in-Cells
returns-in-Cells c = λ names same.
    subst (λ (s : ChainStmt). Passes (chain_stmt_fault names c.args.block.now s) c.check_cells.result) (sym c.in-Cells.is)
    (c.check_cells.ensures names)
