-- Whether a Stop stands among statements, one after another.
use Rattle.std.proofs.Common.{◌≡◌, ℕ, suc, ◌+◌, ◌<◌, ◌≤◌, ◌||◌, Bool, true, false, List, ◌∷◌, refl, sym, ap, ◌∙◌, arith, length, drop, get_or}
use Rattle.std.proofs.Math.Seq.{drop-cons}
use Rattle.std.proofs.Math.ListN.{drop_of_length-le}
use Rattle.stil_ast.specs.Data.Bodies.{written_of, written_front}
use Rattle.stil_ast.specs.Data.Written.{Written}
use Rattle.stil_ast.specs.declared.body.PatAction.{PatAction}
use Rattle.stil_ast.specs.declared.body.PatAction.TheVariants.{Step as plain_step, Loop, Shift}
use Rattle.stil_ast.specs.declared.body.PatStmt.{PatStmt}
use Rattle.stil_ast.specs.declared.body.Step.TheVariants.{Wave, Vector, Condition, Macro, Call, BreakPoint, IddqTestPoint, Stop}
use Rattle.macro_expand.specs.Actions.{is_stop}
use Rattle.burst_exec.specs.Patterns.{has_stop}

stop_front : (line : ℕ) (action : PatAction) (rest : Written)
    → has_stop (written_front line action rest) ≡ (is_stop action || has_stop rest)
stop_front line (plain_step (Wave name)) rest = refl
stop_front line (plain_step (Vector assigns)) rest = refl
stop_front line (plain_step (Condition assigns)) rest = refl
stop_front line (plain_step (Macro name assigns)) rest = refl
stop_front line (plain_step (Call name assigns)) rest = refl
stop_front line (plain_step BreakPoint) rest = refl
stop_front line (plain_step IddqTestPoint) rest = refl
stop_front line (plain_step Stop) rest = refl
stop_front line (Loop times body) rest = refl
stop_front line (Shift body) rest = refl

-- a statement and those behind it
at_stmt : (stmts : List PatStmt) (i : ℕ) (stmt : PatStmt) → stmt ≡ get_or stmts i stmt → i < length stmts
    → has_stop (written_of (drop i stmts)) ≡ (is_stop stmt.action || has_stop (written_of (drop (i + 1) stmts)))
at_stmt stmts i stmt is within =
    let next : suc i ≡ i + 1 = omega arith in
    ap (λ (all : List PatStmt). has_stop (written_of all)) (drop-cons stmts i stmt within
    ∙ ap (λ (s : PatStmt). s ∷ drop (suc i) stmts) (sym is)
    ∙ ap (λ (k : ℕ). stmt ∷ drop k stmts) next)
    ∙ stop_front stmt.line stmt.action (written_of (drop (i + 1) stmts))

pub stop_here : (stmts : List PatStmt) (i : ℕ) (stmt : PatStmt) → stmt ≡ get_or stmts i stmt → i < length stmts
    → is_stop stmt.action ≡ true → has_stop (written_of (drop i stmts)) ≡ true
stop_here stmts i stmt is within stops =
    at_stmt stmts i stmt is within
    ∙ ap (λ (b : Bool). b || has_stop (written_of (drop (i + 1) stmts))) stops

pub no_stop_here : (stmts : List PatStmt) (i : ℕ) (stmt : PatStmt) → stmt ≡ get_or stmts i stmt → i < length stmts
    → is_stop stmt.action ≡ false → has_stop (written_of (drop i stmts)) ≡ has_stop (written_of (drop (i + 1) stmts))
no_stop_here stmts i stmt is within stops =
    at_stmt stmts i stmt is within
    ∙ ap (λ (b : Bool). b || has_stop (written_of (drop (i + 1) stmts))) stops

pub no_stop_left : (stmts : List PatStmt) (i : ℕ) → length stmts ≤ i → has_stop (written_of (drop i stmts)) ≡ false
no_stop_left stmts i past = ap (λ (all : List PatStmt). has_stop (written_of all)) (drop_of_length-le stmts past)
