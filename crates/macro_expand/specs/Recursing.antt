-- Statements with all that stands in them, and the bodies that they name.
use Rattle.std.specs.Prelude.{ℕ, ◌-◌, Option, Result}
use Rattle.text_bytes.specs.Limits.{deepest_calls}
use Rattle.stil_ast.specs.Data.Written.{Written}
use Rattle.stil_ast.specs.Meaning.Flattening.{Spot, Piece, flat_list, flat_calls, pieces, pass_piece, shift_piece, with_args}
use Rattle.stil_ast.specs.Meaning.Resolved.{resolved, setting_of, outs_of}
use Rattle.stil_ast.specs.Meaning.Running.{Setting}
use Rattle.stil_ast.specs.Meaning.Shift.{taking, passes, columns}
use Rattle.stil_ast.specs.Meaning.Signals.{Names}
use Rattle.stil_ast.specs.Meaning.Statements.{Statements}
use Rattle.stil_ast.specs.Faults.AssignmentFaults.{Walked, Checked, rule, Standing, fault_on}
use Rattle.stil_ast.specs.Faults.PatternFaults.{inside_shift, check_passes, may_shift, takers_in, check_list, check_calls}
use Rattle.stil_ast.specs.declared.fault.StilKind.TheVariants.{ShiftForm}
use Rattle.flat_tree.specs.Origins.{body_of}
use Rattle.macro_expand.specs.Scopes.{titles_in, scope_in}
use Rattle.macro_expand.specs.Standings.{standing_in}
use Rattle.macro_expand.specs.Stepping.{StepsOr, spot_on}
use Rattle.macro_expand.specs.Walking.{flat_at}
use Rattle.macro_expand.specs.declared.scope.PatternScope.{PatternScope}
use Rattle.macro_expand.specs.declared.standing.Standing.{Standing as HeldStanding}
use Rattle.macro_expand.specs.Refusing.{Trouble}
use Rattle.macro_expand.specs.declared.walk.Walk.{Walk}

-- what the statements of a pattern stand on
abbrev pub setting_in : Names → PatternScope → Setting
setting_in names scope = setting_of (scope_in names scope) scope.scan_outs.now

-- where a statement stands
abbrev pub stands : Names → PatternScope → HeldStanding → Standing
stands names scope s = standing_in (scope_in names scope) s

-- the check of the bodies that statements name, as deep as calls may still go
abbrev pub check_named : Names → PatternScope → HeldStanding → Standing → Written → Walked → Checked
check_named names scope s = check_calls (scope_in names scope) (deepest_calls - s.calls)

-- their flat trees
abbrev pub flat_named : Names → PatternScope → HeldStanding → Option Statements → Spot → Piece
flat_named names scope s = flat_calls (setting_in names scope) (deepest_calls - s.calls)

-- the statements of a body
abbrev pub named_in : Names → PatternScope → HeldStanding → Written → Statements
named_in names scope s body = resolved (scope_in names scope) (body_of s.body) body

-- the check of statements in order
abbrev pub list_check : Names → PatternScope → HeldStanding → Standing → Written → Walked → Checked
list_check names scope s = check_list (scope_in names scope) (check_named names scope s)

-- statements in order are walked, or refused
abbrev pub ListSteps : {A : Type 0} → Names → PatternScope → HeldStanding → Written → Walk → Walk → Result A Trouble
    → Type 0
ListSteps names scope s body before after result =
    StepsOr (titles_in scope.titles) (list_check names scope s (stands names scope s) body)
    (flat_at (setting_in names scope) (flat_named names scope s) (named_in names scope s body) before.args)
    before after result

-- the passes of a Shift are checked
abbrev pub passes_check : Names → PatternScope → HeldStanding → Written → Walked → Checked
passes_check names scope s body now =
    check_passes (passes (takers_in (scope_in names scope) (stands names scope s) body) now.args)
    (λ without. list_check names scope s (inside_shift without (stands names scope s)) body)
    (columns (outs_of names) (takers_in (scope_in names scope) (stands names scope s) body) now.args) now

-- a Shift is checked
abbrev pub shift_check : Names → PatternScope → HeldStanding → ℕ → Written → Walked → Checked
shift_check names scope s line body =
    rule (may_shift (stands names scope s)) (fault_on (scope_in names scope) (stands names scope s) line ShiftForm)
    (passes_check names scope s body)

-- the tree of the passes of statements in a Shift
abbrev pub shift_flat : Names → PatternScope → HeldStanding → Statements → Spot → Piece
shift_flat names scope s body here =
    shift_piece here
    (pieces (passes (taking body) here.args)
    (pass_piece here.place (flat_list (setting_in names scope) (flat_named names scope s) body))
    (with_args here (columns (setting_in names scope).outs (taking body) here.args)))

-- a Shift on this line is walked, or refused
abbrev pub ShiftSteps : {A : Type 0} → Names → PatternScope → HeldStanding → ℕ → Written → Walk → Walk
    → Result A Trouble → Type 0
ShiftSteps names scope s line body before after result =
    StepsOr (titles_in scope.titles) (shift_check names scope s line body)
    (shift_flat names scope s (named_in names scope s body) (spot_on s.body line before))
    before after result
