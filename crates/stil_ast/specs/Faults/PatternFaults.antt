-- The first fault of a pattern, statements in the order of their first run (IEEE 1450-1999, clauses 22 to 24).
use Rattle.std.specs.Prelude.{ℕ, zero, suc, ◌+◌, ◌==◌, ◌&&◌, Bool, true, false, not, List, [], ◌∷◌, Option, Some, None, length, nat_lt, slice_get}
use Rattle.std.specs.List.{list_any}
use Rattle.text_bytes.specs.Limits.{deepest_calls, deepest_loops}
use Rattle.stil_ast.specs.Data.Places.{Body, of_pattern, of_macro, of_procedure}
use Rattle.stil_ast.specs.Data.Written.{Written, no_more, single, looped, shifted}
use Rattle.stil_ast.specs.Data.Texts.{has_name}
use Rattle.stil_ast.specs.Meaning.Arguments.{Argument, arguments}
use Rattle.stil_ast.specs.Meaning.Shift.{taking, passes, columns}
use Rattle.stil_ast.specs.Meaning.Resolved.{Scope, body_number, resolved, resolved_assigns, outs_of}
use Rattle.stil_ast.specs.Faults.AssignmentFaults.{Walked, Checked, fine, refused, then_check, rule, bar_if, Callee, Standing, fault_on, may_walk, check_assigns, check_arguments}
use Rattle.stil_ast.specs.declared.body.Assignment.{Assignment}
use Rattle.stil_ast.specs.declared.body.Step.{Step}
use Rattle.stil_ast.specs.declared.body.Step.TheVariants.{Wave, Vector, Condition, Macro, Call, BreakPoint, IddqTestPoint, Stop}
use Rattle.stil_ast.specs.declared.blocks.BodyDef.{BodyDef}
use Rattle.stil_ast.specs.declared.fault.StilKind.TheVariants.{TooLarge, ShiftForm, UnknownName, Cyclic}

-- in a Loop of the body
abbrev pub inside_loop : Standing → Standing
inside_loop s = record {
  body = s.body;
  in_loop = true;
  in_shift = s.in_shift;
  without_pass = s.without_pass;
  loops = suc s.loops;
  calls = s.calls;
  running = s.running;
}

-- in a Shift of the body
abbrev pub inside_shift : Bool → Standing → Standing
inside_shift without s = record {
  body = s.body;
  in_loop = s.in_loop;
  in_shift = true;
  without_pass = without;
  loops = s.loops;
  calls = s.calls;
  running = s.running;
}

-- in the body that a statement names
abbrev pub inside_body : Callee → Standing → Standing
inside_body c s = record {
  body = c.kind;
  in_loop = false;
  in_shift = false;
  without_pass = false;
  loops = s.loops;
  calls = suc s.calls;
  running = c ∷ s.running;
}

-- at the top of a pattern
abbrev pub on_top : Standing
on_top = record {
  body = of_pattern;
  in_loop = false;
  in_shift = false;
  without_pass = false;
  loops = 0;
  calls = 0;
  running = [];
}

-- whether two kinds of bodies are one
abbrev pub same_kind : Body → Body → Bool
same_kind of_pattern of_pattern = true
same_kind of_macro of_macro = true
same_kind of_procedure of_procedure = true
same_kind _ _ = false

-- whether two names are of one body
abbrev pub same_callee : Callee → Callee → Bool
same_callee a b = same_kind a.kind b.kind && a.number == b.number

-- the bodies of a kind that statements may name
abbrev pub bodies_of : Scope → Body → List BodyDef
bodies_of scope of_pattern = []
bodies_of scope of_macro = scope.macros
bodies_of scope of_procedure = scope.procedures

-- the body of this kind and name
abbrev pub callee_of : Scope → Body → List ℕ → Callee
callee_of scope kind name = record {
  kind = kind;
  number = body_number (bodies_of scope kind) name;
  found = slice_get (bodies_of scope kind) (body_number (bodies_of scope kind) name);
}

-- behind a body the caller has its own arguments again
abbrev pub back_from : Walked → Checked → Checked
back_from w (fine now) = fine (record { args = w.args; hashes = w.hashes; count = now.count })
back_from w (refused fault) = refused fault

-- what a body begins with: its own arguments
abbrev pub with_own : Scope → List Assignment → Walked → Walked
with_own scope assigns w = record {
  args = arguments (length scope.names.signals) (resolved_assigns scope.names assigns);
  hashes = [];
  count = w.count;
}

-- the body that a statement names: unknown, or running already; then its arguments, then its statements
abbrev pub check_body : Scope → (Standing → Written → Walked → Checked) → Standing → ℕ → Callee
    → List Assignment → Option BodyDef → Walked → Checked
check_body scope inner s line c assigns None w = refused (fault_on scope s line UnknownName)
check_body scope inner s line c assigns (Some d) w =
    bar_if (list_any (same_callee c) s.running) (fault_on scope s line Cyclic)
    (λ w. then_check (check_arguments scope s assigns w) (λ now. back_from w
    (inner (inside_body c s) d.body (with_own scope assigns now)))) w

-- a Macro or a Call: calls go only so deep, and none stands in a Shift
abbrev pub check_call : Scope → (Standing → Written → Walked → Checked) → Standing → ℕ → Callee
    → List Assignment → Walked → Checked
check_call scope inner s line c assigns w =
    rule (nat_lt s.calls deepest_calls) (fault_on scope s line TooLarge)
    (bar_if s.in_shift (fault_on scope s line ShiftForm)
    (check_body scope inner s line c assigns c.found)) w

-- a statement without statements in it, by its kind
abbrev pub check_step : Scope → (Standing → Written → Walked → Checked) → Standing → ℕ → Step → Walked
    → Checked
check_step scope inner s line (Wave name) w =
    rule (has_name scope.tables name) (fault_on scope s line UnknownName) fine w
check_step scope inner s line (Vector assigns) w = check_assigns scope s assigns w
check_step scope inner s line (Condition assigns) w = check_assigns scope s assigns w
check_step scope inner s line (Macro name assigns) w =
    check_call scope inner s line (callee_of scope of_macro name) assigns w
check_step scope inner s line (Call name assigns) w =
    check_call scope inner s line (callee_of scope of_procedure name) assigns w
check_step scope inner s line BreakPoint w = fine w
check_step scope inner s line IddqTestPoint w = fine w
check_step scope inner s line Stop w = fine w

-- one statement more is walked
abbrev pub one_more : Walked → Walked
one_more w = record { args = w.args; hashes = w.hashes; count = w.count + 1 }

-- each statement walked counts
abbrev pub counted : Scope → Standing → ℕ → (Walked → Checked) → Walked → Checked
counted scope s line next w =
    rule (may_walk (w.count + 1)) (fault_on scope s line TooLarge) (λ w. next (one_more w)) w

-- nothing behind a Stop is checked
abbrev pub behind_step : Step → Checked → (Walked → Checked) → Checked
behind_step Stop checked next = checked
behind_step _ checked next = then_check checked next

-- the same check, so often one after another
abbrev pub times_checked : ℕ → (Walked → Checked) → Walked → Checked
times_checked zero f w = fine w
times_checked (suc n) f w = then_check (f w) (times_checked n f)

-- no signal has got a `#` yet
abbrev pub no_hashes_yet : List Argument → Walked → Walked
no_hashes_yet args w = record { args = args; hashes = []; count = w.count }

-- one pass of a Shift
abbrev pub one_pass : (Walked → Checked) → Walked → Checked
one_pass f w = f (no_hashes_yet w.args w)

-- The passes of a Shift; without one its body is checked once all the same, but for data.
abbrev pub check_passes : ℕ → (Bool → Walked → Checked) → List Argument → Walked → Checked
check_passes zero f args w = back_from w (one_pass (f true) w)
check_passes (suc n) f args w = times_checked (suc n) (one_pass (f false)) (no_hashes_yet args w)

-- whether a body is a macro's or a procedure's
abbrev pub is_called : Body → Bool
is_called of_pattern = false
is_called of_macro = true
is_called of_procedure = true

-- A Shift stands in a macro or procedure, and not inside a Loop of it or another Shift.
abbrev pub may_shift : Standing → Bool
may_shift s = is_called s.body && not s.in_loop && not s.in_shift

-- the signals that take in a Shift with this body
abbrev pub takers_in : Scope → Standing → Written → List ℕ
takers_in scope s body = taking (resolved scope s.body body)

-- statements in order, where `inner` checks the body that a Macro or Call names
abbrev pub check_list : Scope → (Standing → Written → Walked → Checked) → Standing → Written → Walked
    → Checked
check_list scope inner s no_more w = fine w
check_list scope inner s (single line plain rest) w =
    behind_step plain (counted scope s line (check_step scope inner s line plain) w)
    (check_list scope inner s rest)
check_list scope inner s (looped line times body rest) w =
    then_check
    (counted scope s line
    (rule (nat_lt s.loops deepest_loops) (fault_on scope s line TooLarge)
    (bar_if s.in_shift (fault_on scope s line ShiftForm)
    (check_list scope inner (inside_loop s) body))) w)
    (check_list scope inner s rest)
check_list scope inner s (shifted line body rest) w =
    then_check
    (counted scope s line
    (rule (may_shift s) (fault_on scope s line ShiftForm)
    (λ now. check_passes (passes (takers_in scope s body) now.args)
    (λ without. check_list scope inner (inside_shift without s) body)
    (columns (outs_of scope.names) (takers_in scope s body) now.args) now)) w)
    (check_list scope inner s rest)

-- bodies that name bodies, so deep
unfoldable pub check_calls : Scope → ℕ → Standing → Written → Walked → Checked
check_calls scope zero s body w = fine w
check_calls scope (suc depth) s body w = check_list scope (check_calls scope depth) s body w

-- a pattern's own statements, behind so many walked and assigned
abbrev pub check_pattern : Scope → Written → ℕ → Checked
check_pattern scope body count =
    check_list scope (check_calls scope deepest_calls) on_top body (record { args = []; hashes = []; count = count })
