-- Bodies that stand in a body are smaller than it.
use Rattle.std.specs.Prelude.{ℕ, ◌≤◌, max, List, [], ◌∷◌}
use Rattle.std.proofs.Common.{arith}
use denote.Param.Weighed.{most}
use Rattle.stil_ast.specs.Data.Written.{Written, written_size}
use Rattle.stil_ast.specs.Data.Bodies.{written_front, written_of}
use Rattle.stil_ast.specs.declared.body.PatAction.{PatAction}
use Rattle.stil_ast.specs.declared.body.PatAction.TheVariants.{Step, Loop, Shift}
use Rattle.stil_ast.specs.declared.body.PatStmt.{PatStmt}
use Rattle.stil_ast.specs.declared.body.PatBody.TheDeep.{deep-PatStmt, deep-PatAction}

-- what a statement has in it counts in the statements that it begins
pub deep_le-written_size : (line : ℕ) (action : PatAction) (rest : Written)
    → max (deep-PatAction action) (written_size rest) ≤ written_size (written_front line action rest)
deep_le-written_size line (Step plain) rest = omega arith
deep_le-written_size line (Loop times body) rest = omega arith
deep_le-written_size line (Shift body) rest = omega arith

-- the same of each statement in a list
pub most_le-size : (stmts : List PatStmt) → most deep-PatStmt stmts ≤ written_size (written_of stmts)
most_le-size [] = omega arith
most_le-size (stmt ∷ stmts) =
    omega (arith, deep_le-written_size stmt.line stmt.action (written_of stmts), most_le-size stmts)

-- a body has more bodies in it than each of them has
pub most_le-written_size : (stmts : List PatStmt)
    → max (most deep-PatStmt stmts) 0 ≤ written_size (written_of stmts)
most_le-written_size stmts = omega (arith, most_le-size stmts)
