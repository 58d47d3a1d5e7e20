-- What a statement is checked for and what it writes, by its kind.
use Rattle.std.specs.Prelude.{ℕ, Bool, true, false, length, nat_lt, slice_get}
use Rattle.text_bytes.specs.Limits.{deepest_loops}
use Rattle.stil_ast.specs.Data.Written.{Written}
use Rattle.stil_ast.specs.Meaning.Arguments.{arguments}
use Rattle.stil_ast.specs.Meaning.Dealing.{deal}
use Rattle.stil_ast.specs.Meaning.Flattening.{Spot, Piece, no_piece, cycle_piece, gifts_piece, repeat_piece, macro_piece, call_piece, flat_list, with_args}
use Rattle.stil_ast.specs.Meaning.Resolved.{body_number, resolved_assigns}
use Rattle.stil_ast.specs.Meaning.Signals.{Names}
use Rattle.stil_ast.specs.Faults.AssignmentFaults.{Walked, Checked, rule, bar_if, fault_on}
use Rattle.stil_ast.specs.Faults.PatternFaults.{inside_loop, check_step, counted}
use Rattle.stil_ast.specs.declared.body.PatAction.{PatAction}
use Rattle.stil_ast.specs.declared.body.PatAction.TheVariants.{Step as plain_step, Loop, Shift}
use Rattle.stil_ast.specs.declared.body.Step.{Step}
use Rattle.stil_ast.specs.declared.body.Step.TheVariants.{Wave, Vector, Condition, Macro, Call, BreakPoint, IddqTestPoint, Stop}
use Rattle.stil_ast.specs.declared.fault.StilKind.TheVariants.{TooLarge, ShiftForm}
use Rattle.macro_expand.specs.Calling.{wave_piece}
use Rattle.macro_expand.specs.Recursing.{setting_in, stands, check_named, flat_named, named_in, list_check, shift_check, shift_flat}
use Rattle.macro_expand.specs.Scopes.{scope_in}
use Rattle.macro_expand.specs.declared.scope.PatternScope.{PatternScope}
use Rattle.macro_expand.specs.declared.standing.Standing.{Standing as HeldStanding}

-- whether nothing behind a statement is walked
abbrev pub is_stop : PatAction → Bool
is_stop (plain_step Stop) = true
is_stop (plain_step _) = false
is_stop (Loop times body) = false
is_stop (Shift body) = false

-- a statement without statements in it
abbrev pub step_check : Names → PatternScope → HeldStanding → ℕ → Step → Walked → Checked
step_check names scope s line plain =
    check_step (scope_in names scope) (check_named names scope s) (stands names scope s) line plain

-- a Loop
abbrev pub loop_check : Names → PatternScope → HeldStanding → ℕ → Written → Walked → Checked
loop_check names scope s line body =
    rule (nat_lt (stands names scope s).loops deepest_loops)
    (fault_on (scope_in names scope) (stands names scope s) line TooLarge)
    (bar_if (stands names scope s).in_shift (fault_on (scope_in names scope) (stands names scope s) line ShiftForm)
    (list_check names scope s (inside_loop (stands names scope s)) body))

-- a statement, once it is counted
abbrev pub action_check : Names → PatternScope → HeldStanding → ℕ → PatAction → Walked → Checked
action_check names scope s line (plain_step plain) = step_check names scope s line plain
action_check names scope s line (Loop times body) = loop_check names scope s line body
action_check names scope s line (Shift body) = shift_check names scope s line body

-- a statement
abbrev pub statement_check : Names → PatternScope → HeldStanding → ℕ → PatAction → Walked → Checked
statement_check names scope s line action =
    counted (scope_in names scope) (stands names scope s) line (action_check names scope s line action)

-- what a statement without statements in it writes
abbrev pub step_piece : Names → PatternScope → HeldStanding → Step → Spot → Piece
step_piece names scope s (Wave name) here = wave_piece (scope_in names scope) name here
step_piece names scope s (Vector assigns) here =
    cycle_piece (setting_in names scope) (resolved_assigns names assigns)
    (deal (resolved_assigns names assigns) here.args) here
step_piece names scope s (Condition assigns) here = gifts_piece (deal (resolved_assigns names assigns) here.args) here
step_piece names scope s (Macro name assigns) here =
    macro_piece here
    (flat_named names scope s
    (slice_get (setting_in names scope).macros (body_number (scope_in names scope).macros name))
    (with_args here (arguments (length (setting_in names scope).outs) (resolved_assigns names assigns))))
step_piece names scope s (Call name assigns) here =
    call_piece here
    (flat_named names scope s
    (slice_get (setting_in names scope).procedures (body_number (scope_in names scope).procedures name))
    (with_args here (arguments (length (setting_in names scope).outs) (resolved_assigns names assigns))))
step_piece names scope s BreakPoint here = no_piece here
step_piece names scope s IddqTestPoint here = no_piece here
step_piece names scope s Stop here = no_piece here

-- what a Loop writes
abbrev pub loop_piece : Names → PatternScope → HeldStanding → ℕ → Written → Spot → Piece
loop_piece names scope s times body here =
    repeat_piece times here
    (flat_list (setting_in names scope) (flat_named names scope s) (named_in names scope s body) here)

-- what a statement writes
abbrev pub action_piece : Names → PatternScope → HeldStanding → PatAction → Spot → Piece
action_piece names scope s (plain_step plain) here = step_piece names scope s plain here
action_piece names scope s (Loop times body) here = loop_piece names scope s times body here
action_piece names scope s (Shift body) here = shift_flat names scope s (named_in names scope s body) here
