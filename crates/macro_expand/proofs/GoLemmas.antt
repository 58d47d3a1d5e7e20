-- How far a walk still has to go, so that it ends: the calls that are left, then the bodies that stand in a body, then the
-- parts of a statement.
use Rattle.std.proofs.Common.{◌≡◌, ℕ, zero, suc, ◌+◌, ◌-◌, ◌*◌, ◌<◌, ◌≤◌, List, [], ◌∷◌, Some, ap, ◌∙◌, length, drop, get_or, slice_get, arith}
use Rattle.text_bytes.specs.Limits.{deepest_calls}
use Rattle.text_bytes.proofs.ListLemmas.{drop-item}
use Rattle.stil_ast.specs.Data.Bodies.{written_front, written_of}
use Rattle.stil_ast.specs.Data.Written.{Written, no_more, written_size}
use Rattle.stil_ast.specs.Meaning.Resolved.{Scope}
use Rattle.stil_ast.specs.Faults.PatternFaults.{bodies_of}
use Rattle.stil_ast.specs.declared.blocks.BodyDef.{BodyDef}
use Rattle.stil_ast.specs.declared.body.PatAction.{PatAction}
use Rattle.stil_ast.specs.declared.body.PatAction.TheVariants.{Step, Loop, Shift}
use Rattle.stil_ast.specs.declared.body.PatStmt.{PatStmt}
use Rattle.flat_tree.specs.Origins.{body_of}
use Rattle.flat_tree.specs.declared.place.BodyKind.{BodyKind}
use Rattle.flat_tree.specs.declared.place.BodyKind.TheVariants.{Pattern, Macro, Procedure}
use Rattle.macro_expand.specs.Standings.{callee_in}
use Rattle.macro_expand.specs.declared.scope.PatternScope.{PatternScope}
use Rattle.macro_expand.specs.declared.standing.Callee.{Callee as HeldCallee}

-- how many bodies stand in those of macros or procedures
abbrev pub bodies_size : List BodyDef → ℕ
bodies_size [] = 0
bodies_size (d ∷ bodies) = written_size d.body + bodies_size bodies

-- how many bodies stand in all that may be named
abbrev pub most_in : PatternScope → ℕ
most_in scope = bodies_size scope.macros.now + bodies_size scope.procedures.now

-- how many bodies stand in a statement
abbrev pub action_size : PatAction → ℕ
action_size action = written_size (written_front 0 action no_more)

-- what is left to go: with bodies of at most so many others, so many calls round it, and a body and a part of this size
unfoldable pub to_go : ℕ → ℕ → ℕ → ℕ → ℕ
to_go most calls size part = 16 * ((deepest_calls - calls) * suc most + size) + part

behind_calls : (calls n m k l : ℕ) → 16 * n + k < 16 * m + l → 16 * (calls + n) + k < 16 * (calls + m) + l
behind_calls calls n m k l e = omega (arith, e)

-- a smaller body, or a later part of the same statement
pub falls : (most calls n m k l : ℕ) → 16 * n + k < 16 * m + l → to_go most calls n k < to_go most calls m l
unfolding to_go
falls most calls n m k l e = behind_calls ((deepest_calls - calls) * suc most) n m k l e

pub one_less : (calls : ℕ) → calls < deepest_calls → deepest_calls - calls ≡ suc (deepest_calls - (calls + 1))
one_less calls e = omega (arith, e)

times_more : (n most : ℕ) → suc n * suc most ≡ n * suc most + suc most
times_more n most = omega arith

deep_falls : (a b most size k : ℕ) → a ≡ b + suc most → size ≤ most → k < 16 → 16 * (b + size) + k < 16 * (a + 0) + 0
deep_falls a b most size k e small part = omega (arith, e, small, part)

-- a body that is named
pub falls_deeper : (most calls size k l : ℕ) → calls < deepest_calls → size ≤ most → k < 16
    → to_go most (calls + 1) size k < to_go most calls 0 l
unfolding to_go
falls_deeper most calls size k l e small part =
    let same : (deepest_calls - calls) * suc most ≡ (deepest_calls - (calls + 1)) * suc most + suc most
    = ap (λ (n : ℕ). n * suc most) (one_less calls e) ∙ times_more (deepest_calls - (calls + 1)) most in
    let less = deep_falls ((deepest_calls - calls) * suc most) ((deepest_calls - (calls + 1)) * suc most) most size k same small part in
    omega (arith, less)

body-le : (bodies : List BodyDef) (n : ℕ) (d : BodyDef) → slice_get bodies n ≡ Some d → written_size d.body ≤ bodies_size bodies
body-le [] n d e = cc
body-le (first ∷ bodies) zero d e =
    let same : first ≡ d = cc in
    let size : written_size first.body ≡ written_size d.body = ap (λ (x : BodyDef). written_size x.body) same in
    omega (arith, size)
body-le (first ∷ bodies) (suc n) d e = omega (arith, body-le bodies n d e)

found_in-le : (sc : Scope) (kind : BodyKind) (n : ℕ) (d : BodyDef) → slice_get (bodies_of sc (body_of kind)) n ≡ Some d
    → written_size d.body ≤ bodies_size sc.macros + bodies_size sc.procedures
found_in-le sc Pattern n d e = cc
found_in-le sc Macro n d e = omega (arith, body-le sc.macros n d e)
found_in-le sc Procedure n d e = omega (arith, body-le sc.procedures n d e)

-- a body that is found
pub found-le : (sc : Scope) (c : HeldCallee) (d : BodyDef) → (callee_in sc c).found ≡ Some d
    → written_size d.body ≤ bodies_size sc.macros + bodies_size sc.procedures
found-le sc c d e = found_in-le sc c.kind c.number d e

front_size : (line : ℕ) (action : PatAction) (rest : Written)
    → written_size (written_front line action rest) ≡ action_size action + written_size rest
front_size line (Step plain) rest = omega arith
front_size line (Loop times body) rest = omega arith
front_size line (Shift body) rest = omega arith

size-drop : (i : ℕ) (stmts : List PatStmt) → written_size (written_of (drop i stmts)) ≤ written_size (written_of stmts)
size-drop zero stmts = omega arith
size-drop (suc i) [] = omega arith
size-drop (suc i) (stmt ∷ stmts) =
    let front = front_size stmt.line stmt.action (written_of stmts) in omega (arith, size-drop i stmts, front)

-- a statement of a body
pub statement_size : (stmts : List PatStmt) (i : ℕ) (stmt : PatStmt) → i < length stmts → stmt ≡ get_or stmts i stmt
    → action_size stmt.action ≤ written_size (written_of stmts)
statement_size stmts i stmt within is =
    let here = ap (λ (ss : List PatStmt). written_size (written_of ss)) (drop-item stmts i stmt within is) in
    let front = front_size stmt.line stmt.action (written_of (drop (i + 1) stmts)) in
    omega (arith, here, front, size-drop i stmts)
