-- The statements of a body with their blocks, in text order (IEEE 1450-1999, clauses 22 to 24).
use Rattle.std.specs.Prelude.{ℕ, Bool, true, false, List, [], ◌∷◌, ◌++◌, Some, None, is_some, Result, Ok, if◌then◌else◌}
use Rattle.stil_tree.specs.Trees.{Trees, Entry, end, plain, block}
use Rattle.stil_form.specs.declared.fault.FormKind.{FormKind}
use Rattle.stil_form.specs.declared.fault.FormFault.{FormFault}
use Rattle.stil_form.specs.Reading.{and_then, reading, is_skipped}
use Rattle.stil_form.specs.Setting.{Setting, tokens_at, lexemes_at, line_at, at_statement, inner_of, unskipped}
use Rattle.stil_ast.specs.Data.Written.{Written}
use Rattle.stil_ast.specs.Data.Bodies.{written_of}
use Rattle.stil_ast.specs.declared.body.Assignment.{Assignment}
use Rattle.stil_ast.specs.declared.body.Step.{Step}
use Rattle.stil_ast.specs.declared.body.Step.TheVariants as step
use Rattle.stil_ast.specs.declared.body.PatAction.{PatAction}
use Rattle.stil_ast.specs.declared.body.PatAction.TheVariants as action
use Rattle.stil_ast.specs.declared.body.PatStmt.{PatStmt}
use Rattle.pat_read.specs.declared.outline.Plain.{Plain}
use Rattle.pat_read.specs.declared.outline.Plain.TheVariants as said
use Rattle.pat_read.specs.declared.outline.Outline.{Outline}
use Rattle.pat_read.specs.declared.outline.Outline.TheVariants as outline
use Rattle.pat_read.specs.declared.reader.BodyPlace.{BodyPlace}
use Rattle.pat_read.specs.declared.reader.BodyPlace.TheVariants as place
use Rattle.stil_ast.specs.Meaning.Statements.{Item}
use Rattle.stil_ast.specs.declared.assignment_list.RefKind.{RefKind}
use Rattle.pat_read.specs.References.{as_assignment, assignment_of}
use Rattle.pat_read.specs.Statements.{statement_said}

-- what an assignment says, or the kind of its fault
abbrev pub assignment_at : Setting → Entry → Result Assignment FormKind
assignment_at s e =
    assignment_of s.bytes (tokens_at s.tokens e) (line_at s.tokens e.first) (is_some e.body) (lexemes_at s e)

-- the same, by its statement
abbrev pub judge_assignment : Setting → List Assignment → Entry → Result Assignment FormFault
judge_assignment s before e = at_statement e.first (assignment_at s e)

-- the assignment of a statement, by the kind and the bytes of its reference
abbrev pub assignment_with : Setting → Entry → RefKind → List ℕ → List Item → Assignment
assignment_with s e kind bytes items = as_assignment (line_at s.tokens e.first) kind bytes items

-- assignments, without statements that begin with one of the words
abbrev pub assignments_of : Setting → List Entry → Result (List Assignment) FormFault
assignments_of s es = reading (judge_assignment s) [] (unskipped s es)

-- a plain statement with what its block assigns
abbrev pub step_of : Plain → Result (List Assignment) FormFault → Result Step FormFault
step_of (said.Wave called) assigned = Ok (step.Wave called)
step_of said.Vector assigned = and_then assigned (λ given. Ok (step.Vector given))
step_of said.Condition assigned = and_then assigned (λ given. Ok (step.Condition given))
step_of (said.Macro called) assigned = and_then assigned (λ given. Ok (step.Macro called given))
step_of (said.Call called) assigned = and_then assigned (λ given. Ok (step.Call called given))
step_of said.Stop assigned = Ok step.Stop
step_of said.BreakPoint assigned = Ok step.BreakPoint
step_of said.IddqTestPoint assigned = Ok step.IddqTestPoint

-- what a statement does, by what it says, what its block assigns, and the statements of its block
abbrev pub action_of : Outline → Result (List Assignment) FormFault → Result (List PatStmt) FormFault
    → Result PatAction FormFault
action_of (outline.Step one) assigned inner = and_then (step_of one assigned) (λ found. Ok (action.Step found))
action_of (outline.Loop times) assigned inner = and_then inner (λ stmts. Ok (action.Loop times (written_of stmts)))
action_of outline.Shift assigned inner = and_then inner (λ stmts. Ok (action.Shift (written_of stmts)))

-- a statement at a line
abbrev pub on_line : ℕ → PatAction → PatStmt
on_line line does = record { line = line; action = does }

-- what a statement says without its block, or the kind of its fault
abbrev pub outline_at : Setting → Bool → Entry → Result Outline FormKind
outline_at s top e = statement_said top (is_some e.body) (lexemes_at s e)

-- a statement, by the statements of its block: it is judged as a whole first
abbrev pub judge_statement : Setting → Bool → Entry → Result (List PatStmt) FormFault → Result PatStmt FormFault
judge_statement s top e inner =
    and_then (at_statement e.first (outline_at s top e)) (λ found.
    and_then (action_of found (assignments_of s (inner_of e.body)) inner) (λ does.
    Ok (on_line (line_at s.tokens e.first) does)))

-- a statement behind those before it, and then the rest; one that begins with one of the words is skipped
abbrev pub one_more : Setting → Bool → List PatStmt → Entry → Result (List PatStmt) FormFault
    → (List PatStmt → Result (List PatStmt) FormFault) → Result (List PatStmt) FormFault
one_more s top before e inner rest =
    if is_skipped s.words (lexemes_at s e) then rest before
    else and_then (judge_statement s top e inner) (λ stmt. rest (before ++ stmt ∷ []))

-- the statements of a body behind those before it, at a Pattern's top level or not; a block is not at the top level
abbrev pub body_from : Setting → Bool → List PatStmt → Trees → Result (List PatStmt) FormFault
body_from s top before end = Ok before
body_from s top before (plain first count more) =
    one_more s top before (record { first = first; count = count; body = None }) (Ok [])
    (λ read. body_from s top read more)
body_from s top before (block first count inside more) =
    one_more s top before (record { first = first; count = count; body = Some inside }) (body_from s false [] inside)
    (λ read. body_from s top read more)

-- a body stands at a Pattern's top level, or not
abbrev pub is_pattern : BodyPlace → Bool
is_pattern place.Pattern = true
is_pattern place.Macro = false
is_pattern place.Procedure = false

-- the body that statements are, or their first fault
abbrev pub body_of : Setting → BodyPlace → Trees → Result Written FormFault
body_of s here stmts = and_then (body_from s (is_pattern here) [] stmts) (λ read. Ok (written_of read))
