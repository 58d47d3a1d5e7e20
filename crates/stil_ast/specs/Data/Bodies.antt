-- The statements of a body, as plain data.
use Rattle.std.specs.Prelude.{ℕ, List, [], ◌∷◌}
use Rattle.stil_ast.specs.Data.Written.{Written, no_more, single, looped, shifted}
use Rattle.stil_ast.specs.declared.body.PatAction.{PatAction}
use Rattle.stil_ast.specs.declared.body.PatAction.TheVariants.{Step, Loop, Shift}
use Rattle.stil_ast.specs.declared.body.PatStmt.{PatStmt}

-- a statement, and those behind it
abbrev pub written_front : ℕ → PatAction → Written → Written
written_front line (Step plain) rest = single line plain rest
written_front line (Loop times body) rest = looped line times body rest
written_front line (Shift body) rest = shifted line body rest

-- the statements of a list
abbrev pub written_of : List PatStmt → Written
written_of [] = no_more
written_of (stmt ∷ stmts) = written_front stmt.line stmt.action (written_of stmts)
