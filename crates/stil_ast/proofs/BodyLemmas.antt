-- A body has as many statements as its list.
use Rattle.std.proofs.Common.{◌≡◌, ℕ, ◌+◌, List, [], ◌∷◌, length, refl, arith}
use Rattle.stil_ast.specs.Data.Written.{Written, statement_count}
use Rattle.stil_ast.specs.Data.Bodies.{written_front, written_of}
use Rattle.stil_ast.specs.declared.body.PatAction.{PatAction}
use Rattle.stil_ast.specs.declared.body.PatAction.TheVariants.{Step, Loop, Shift}
use Rattle.stil_ast.specs.declared.body.PatStmt.{PatStmt}

count-written_front : (line : ℕ) (action : PatAction) (rest : Written)
    → statement_count (written_front line action rest) ≡ 1 + statement_count rest
count-written_front line (Step plain) rest = refl
count-written_front line (Loop times body) rest = refl
count-written_front line (Shift body) rest = refl

pub count-written_of : (stmts : List PatStmt) → statement_count (written_of stmts) ≡ length stmts
count-written_of [] = refl
count-written_of (stmt ∷ stmts) =
    omega (arith, count-written_front stmt.line stmt.action (written_of stmts), count-written_of stmts)
