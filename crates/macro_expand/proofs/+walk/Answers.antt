use Rattle.std.proofs.Common.{ℕ, ◌+◌, true, false, List, [], refl, ap, sym, ◌∙◌, subst, drop, arith}
use Rattle.std.proofs.lemmas.Bool.{ltb-true, lt-ltb}
use Rattle.text_bytes.specs.Limits.{deepest_calls, deepest_loops}
use Rattle.text_bytes.proofs.ListLemmas.{drop-item}
use Rattle.stil_ast.specs.Data.Bodies.{written_of}
use Rattle.stil_ast.specs.Data.Written.{written_size}
use Rattle.stil_ast.specs.Meaning.Flat.{Flat, done, repeat}
use Rattle.stil_ast.specs.Meaning.Flattening.{joined}
use Rattle.stil_ast.specs.Meaning.Signals.{Names}
use Rattle.stil_ast.specs.Faults.PatternFaults.{inside_body, may_shift, takers_in}
use Rattle.stil_ast.specs.declared.body.PatStmt.{PatStmt}
use Rattle.flat_tree.specs.Origins.{body_of}
use Rattle.flat_tree.specs.declared.place.BodyKind.TheVariants as kind
use Rattle.macro_expand.specs.Actions.{action_check}
use Rattle.macro_expand.specs.Calling.{wave_check, wave_piece}
use Rattle.macro_expand.specs.Giving.{at_count}
use Rattle.macro_expand.specs.Recursing.{setting_in, stands, check_named, ShiftSteps, flat_named, named_in, passes_check, shift_check}
use Rattle.macro_expand.specs.Refusing.{IsAt, Trouble}
use Rattle.macro_expand.specs.Scopes.{scope_in, titles_in}
use Rattle.macro_expand.specs.Standings.{callee_in}
use Rattle.macro_expand.specs.Stepping.{StepsOr, spot_on}
use Rattle.macro_expand.specs.Walks.{walked}
use Rattle.macro_expand.specs.declared.standing.Standing.{Standing as HeldStanding}
use Rattle.macro_expand.specs.declared.walk.Walk.{Walk}
use Rattle.macro_expand.proofs.ActionLemmas.{Walking, stopped_or, walked_one, refused_one, loop_runs}
use Rattle.macro_expand.proofs.CallLemmas.{call_check, named_runs, macro_runs, call_runs_in}
use Rattle.macro_expand.proofs.DeeperLemmas.{deeper, body_standing, loop_standing}
use Rattle.macro_expand.proofs.GoLemmas.{most_in, action_size, falls, falls_deeper, found-le, statement_size}
use Rattle.macro_expand.proofs.KindLemmas.{called_refused, arguments_refused}
use Rattle.stil_ast.specs.Meaning.Arguments.{Argument}
use Rattle.stil_ast.specs.Meaning.Resolved.{outs_of}
use Rattle.stil_ast.specs.Meaning.Shift.{passes}
use Rattle.stil_ast.specs.Faults.AssignmentFaults.{fault_on}
use Rattle.stil_ast.specs.declared.fault.StilKind.TheVariants.{ShiftForm}
use Rattle.macro_expand.specs.Passes.{pass_flat}
use Rattle.macro_expand.proofs.PassLemmas.{passes_end, passes_go_on, passes_refused, passes_steps, passes_stop, without_steps}
use Rattle.macro_expand.proofs.PlaceLemmas.{ruled_out}
use Rattle.macro_expand.proofs.ShiftLemmas.{columns-none}
use Rattle.macro_expand.specs.Walking.{flat_at}
use Rattle.macro_expand.proofs.+walk.Goals as goal

-- names, where any will do
no_names : Names
no_names = record { signals = []; groups = [] }

pub walking::walk_action-walk_step-requires : goal.walking::walk_action-walk_step-requires
walking::walk_action-walk_step-requires t c =
    let less = falls (most_in c.args.scope.now) c.args.s.now.calls 0 (action_size c.args.action.now) 6 7 (omega arith) in
    (omega (arith, less, c.decreases), c.requires)

pub walking::walk_action-walk_loop-requires : goal.walking::walk_action-walk_loop-requires
walking::walk_action-walk_loop-requires t c =
    let less = falls (most_in c.args.scope.now) c.args.s.now.calls (written_size c.in-Loop.body + 1) (action_size c.args.action.now) 6 7
    (omega (arith, ap action_size c.in-Loop.is)) in
    (omega (arith, less, c.decreases), c.requires)

pub walking::walk_action-walk_shift-requires : goal.walking::walk_action-walk_shift-requires
walking::walk_action-walk_shift-requires t c =
    let less = falls (most_in c.args.scope.now) c.args.s.now.calls (written_size c.in-Shift.body + 1) (action_size c.args.action.now) 6 7
    (omega (arith, ap action_size c.in-Shift.is)) in
    (omega (arith, less, c.decreases), c.requires)

pub walking::walk_list-walk_statement-requires : goal.walking::walk_list-walk_statement-requires
walking::walk_list-walk_statement-requires t c =
    let items = c.as_slice-stmt-items.result.now in
    let stmt = c.stmt-item.result in
    let small = statement_size items c.loop-stmt.stmt-index stmt c.loop-stmt-test.true c.stmt-item.is in
    let whole = ap written_size c.as_slice-stmt-items.ensures in
    let less = falls (most_in c.args.scope.now) c.args.s.now.calls (action_size stmt.action) (written_size c.args.body.now) 8 9
    (omega (arith, small, whole)) in
    (omega (arith, less, c.decreases), c.requires)

pub walking::walk_statement-walk_action-requires : goal.walking::walk_statement-walk_action-requires
walking::walk_statement-walk_action-requires t c =
    let size = action_size c.args.stmt.now.action in
    let less = falls (most_in c.args.scope.now) c.args.s.now.calls size size 7 8 (omega arith) in
    (omega (arith, less, c.decreases), c.requires)

pub walking::walk_step-walk_macro-requires : goal.walking::walk_step-walk_macro-requires
walking::walk_step-walk_macro-requires t c =
    let less = falls (most_in c.args.scope.now) c.args.s.now.calls 0 0 5 6 (omega arith) in
    (omega (arith, less, c.decreases), c.requires)

pub walking::walk_step-walk_call-requires : goal.walking::walk_step-walk_call-requires
walking::walk_step-walk_call-requires t c =
    let less = falls (most_in c.args.scope.now) c.args.s.now.calls 0 0 5 6 (omega arith) in
    (omega (arith, less, c.decreases), c.requires)

pub walking::walk_macro-walk_named-requires : goal.walking::walk_macro-walk_named-requires
walking::walk_macro-walk_named-requires t c =
    let less = falls (most_in c.args.scope.now) c.args.s.now.calls 0 0 4 5 (omega arith) in
    (omega (arith, less, c.decreases), c.requires)

pub walking::walk_call-walk_named-requires : goal.walking::walk_call-walk_named-requires
walking::walk_call-walk_named-requires t c =
    let less = falls (most_in c.args.scope.now) c.args.s.now.calls 0 0 4 5 (omega arith) in
    (omega (arith, less, c.decreases), c.requires)

pub walking::walk_loop-walk_list-requires : goal.walking::walk_loop-walk_list-requires
walking::walk_loop-walk_list-requires t c =
    let size = written_size c.args.body.now in
    let less = falls (most_in c.args.scope.now) c.args.s.now.calls size (size + 1) 9 6 (omega arith) in
    (omega (arith, less, c.decreases), c.requires)

pub shifting::walk_shift-walk_without-requires : goal.shifting::walk_shift-walk_without-requires
shifting::walk_shift-walk_without-requires t c =
    let size = written_size c.args.body.now + 1 in
    let less = falls (most_in c.args.scope.now) c.args.s.now.calls size size 5 6 (omega arith) in
    (omega (arith, less, c.decreases), c.requires)

pub shifting::walk_shift-walk_passes-requires : goal.shifting::walk_shift-walk_passes-requires
shifting::walk_shift-walk_passes-requires t c =
    let size = written_size c.args.body.now + 1 in
    let less = falls (most_in c.args.scope.now) c.args.s.now.calls size size 5 6 (omega arith) in
    (omega (arith, less, c.decreases), c.requires)

pub shifting::walk_without-walk_list-requires : goal.shifting::walk_without-walk_list-requires
shifting::walk_without-walk_list-requires t c =
    let size = written_size c.args.body.now in
    let less = falls (most_in c.args.scope.now) c.args.s.now.calls size (size + 1) 9 5 (omega arith) in
    (omega (arith, less, c.decreases), c.requires)

pub shifting::walk_passes-walk_list-requires : goal.shifting::walk_passes-walk_list-requires
shifting::walk_passes-walk_list-requires t c =
    let size = written_size c.args.body.now in
    let less = falls (most_in c.args.scope.now) c.args.inside.now.calls size (size + 1) 9 5 (omega arith) in
    (omega (arith, less, c.decreases), c.requires)

pub walking::walk_body-walk_list-requires : goal.walking::walk_body-walk_list-requires
walking::walk_body-walk_list-requires t c =
    let small = found-le (scope_in no_names c.args.scope.now) c.args.callee c.args.def.now (c.requires.found no_names) in
    let less = falls_deeper (most_in c.args.scope.now) c.args.s.now.calls (written_size c.args.def.now.body) 9 3 c.requires.calls small (omega arith) in
    (omega (arith, less, c.decreases), omega (arith, c.requires.calls))

pub walking::walk_named-walk_body-requires : goal.walking::walk_named-walk_body-requires
walking::walk_named-walk_body-requires t c =
    let less = falls (most_in c.args.scope.now) c.args.s.now.calls 0 0 3 4 (omega arith) in (
      omega (arith, less, c.decreases),
      (ltb-true c.args.s.now.calls deepest_calls (c.in-Ok.ensures no_names).deep, λ names. (c.in-Ok.ensures names).found),
    )

pub walking::walk_list-returns-then-is_stop : goal.walking::walk_list-returns-then-is_stop
walking::walk_list-returns-then-is_stop t c = λ names named.
    let scope = c.args.scope.now in
    let s = c.args.s.now in
    let items = c.as_slice-stmt-items.result.now in
    let stmt = c.stmt-item.result in
    let left = drop-item items c.loop-stmt.stmt-index stmt c.loop-stmt-test.true c.stmt-item.is in
    stopped_or names scope s c.args.body.now c.args.walk.now c.loop-stmt.walk c.count_one.new.walk stmt.line stmt.action
    (written_of (drop (c.loop-stmt.stmt-index + 1) items)) c.count_one.result (sym c.is_stop.ensures ∙ c.if-is_stop.true)
    (subst (λ (xs : List PatStmt). Walking names scope s c.args.body.now c.args.walk.now (written_of xs) c.loop-stmt.walk) left
    (c.loop-stmt.invariant names named))
    c.count_one.ensures

pub walking::walk_list-returns-in-Err : goal.walking::walk_list-returns-in-Err
walking::walk_list-returns-in-Err t c = λ names named.
    let scope = c.args.scope.now in
    let s = c.args.s.now in
    let items = c.as_slice-stmt-items.result.now in
    let stmt = c.stmt-item.result in
    let left = drop-item items c.loop-stmt.stmt-index stmt c.loop-stmt-test.true c.stmt-item.is in
    refused_one names scope s c.args.body.now c.args.walk.now c.loop-stmt.walk stmt.line stmt.action
    (written_of (drop (c.loop-stmt.stmt-index + 1) items)) c.in-Err.trouble (sym c.is_stop.ensures ∙ c.if-is_stop.false)
    (subst (λ (xs : List PatStmt). Walking names scope s c.args.body.now c.args.walk.now (written_of xs) c.loop-stmt.walk) left
    (c.loop-stmt.invariant names named))
    (c.in-Err.ensures names named)

pub walking::walk_list-loop-stmt-preserved : goal.walking::walk_list-loop-stmt-preserved
walking::walk_list-loop-stmt-preserved t c = λ names named.
    let scope = c.args.scope.now in
    let s = c.args.s.now in
    let items = c.as_slice-stmt-items.result.now in
    let stmt = c.stmt-item.result in
    let left = drop-item items c.loop-stmt.stmt-index stmt c.loop-stmt-test.true c.stmt-item.is in
    walked_one names scope s c.args.body.now c.args.walk.now c.loop-stmt.walk c.walk_statement.new.walk stmt.line stmt.action
    (written_of (drop (c.loop-stmt.stmt-index + 1) items)) (sym c.is_stop.ensures ∙ c.if-is_stop.false)
    (subst (λ (xs : List PatStmt). Walking names scope s c.args.body.now c.args.walk.now (written_of xs) c.loop-stmt.walk) left
    (c.loop-stmt.invariant names named))
    (c.in-Ok.ensures names named)

pub walking::walk_statement-returns-in-Err : goal.walking::walk_statement-returns-in-Err
walking::walk_statement-returns-in-Err t c = λ names named.
    c.in-Err.ensures (scope_in names c.args.scope.now)
    (action_check names c.args.scope.now c.args.s.now c.args.stmt.now.line c.args.stmt.now.action)

pub walking::walk_step-returns-in-Wave : goal.walking::walk_step-returns-in-Wave
walking::walk_step-returns-in-Wave t c = λ names named.
    let sc = scope_in names c.args.scope.now in
    let s = stands names c.args.scope.now c.args.s.now in
    rw c.in-Wave.is
    (subst
    (λ (name : List ℕ). StepsOr sc.titles (wave_check sc s c.args.line name)
    (wave_piece sc name (spot_on c.args.s.now.body c.args.line c.args.walk.now)) c.args.walk.now c.walk_wave.new.walk c.walk_wave.result)
    c.as_slice.ensures (c.walk_wave.ensures names))

pub walking::walk_body-returns : goal.walking::walk_body-returns
walking::walk_body-returns t c = λ names named.
    let scope = c.args.scope.now in
    let sc = scope_in names scope in
    let s = c.args.s.now in
    let inside : HeldStanding = record {
      body = c.args.callee.kind;
      in_loop = false;
      in_shift = false;
      without_pass = false;
      loops = s.loops;
      calls = s.calls + 1;
      running = c.as_slice.result;
    } in
    deeper sc (setting_in names scope) s.calls (stands names scope inside) (inside_body (callee_in sc c.args.callee) (stands names scope s))
    c.args.def.now.body (body_of c.args.callee.kind) sc.titles c.args.own.now c.walk_list.new.walk c.walk_list.result c.requires.calls
    (body_standing sc c.args.callee s inside c.as_slice.result.now (c.as_slice.ensures.value ∙ c.in_ok-running.ensures) refl)
    (c.walk_list.ensures names named)

pub walking::walk_named-returns-in-Ok-walk_body : goal.walking::walk_named-returns-in-Ok-walk_body
walking::walk_named-returns-in-Ok-walk_body t c = λ names args hashes named.
    named_runs names c.args.scope.now c.args.s.now c.args.line c.args.assigns.now c.args.callee c.in-Ok.def.now args hashes c.args.count
    c.args.out c.in-Ok-own_walk.own c.walk_body.new.own (c.in-Ok.ensures names) (c.in-Ok-own_walk.ensures names args hashes named)
    (c.in-Ok-walk_body.ensures names named)

pub walking::walk_named-returns-in-Err-walk_body : goal.walking::walk_named-returns-in-Err-walk_body
walking::walk_named-returns-in-Err-walk_body t c = λ names args hashes named.
    let scope = c.args.scope.now in
    let sc = scope_in names scope in
    let s = c.args.s.now in
    let begins = c.in-Ok-own_walk.ensures names args hashes named in
    called_refused sc (check_named names scope s) (stands names scope s) c.args.line (callee_in sc c.args.callee) c.args.assigns.now
    c.in-Ok.def.now args hashes c.args.count c.in-Ok-own_walk.own c.in-Err-walk_body.trouble (c.in-Ok.ensures names) begins.gives
    begins.hashes_none (c.in-Err-walk_body.ensures names named)

pub walking::walk_named-returns-in-Err-own_walk : goal.walking::walk_named-returns-in-Err-own_walk
walking::walk_named-returns-in-Err-own_walk t c = λ names args hashes named.
    let scope = c.args.scope.now in
    let sc = scope_in names scope in
    let s = c.args.s.now in
    arguments_refused sc (check_named names scope s) (stands names scope s) c.args.line (callee_in sc c.args.callee) c.args.assigns.now
    c.in-Ok.def.now (at_count args hashes c.args.count) c.in-Err-own_walk.trouble (c.in-Ok.ensures names)
    (c.in-Err-own_walk.ensures names args hashes named)

pub walking::walk_macro-returns-in-Ok : goal.walking::walk_macro-returns-in-Ok
walking::walk_macro-returns-in-Ok t c = λ names named.
    let walk = c.args.walk.now in
    macro_runs names c.args.scope.now c.args.s.now c.args.line c.args.assigns.now c.args.name.now c.number.result walk c.in-Ok.own
    c.replace-out.result c.number.ensures c.replace-out.ensures.value (c.in-Ok.ensures names walk.args walk.hashes named)

pub walking::walk_macro-returns-in-Err : goal.walking::walk_macro-returns-in-Err
walking::walk_macro-returns-in-Err t c = λ names named.
    let walk = c.args.walk.now in
    let sc = scope_in names c.args.scope.now in
    subst
    (λ (n : ℕ). IsAt sc.titles (call_check names c.args.scope.now c.args.s.now c.args.line c.args.assigns.now
    (record { kind = kind.Macro; number = n }) (walked walk)) c.in-Err.trouble)
    c.number.ensures (c.in-Err.ensures names walk.args walk.hashes named)

pub walking::walk_call-returns-in_ok-push_call-in-Ok : goal.walking::walk_call-returns-in_ok-push_call-in-Ok
walking::walk_call-returns-in_ok-push_call-in-Ok t c = λ names named.
    let walk = c.args.walk.now in
    call_runs_in names c.args.scope.now c.args.s.now c.args.line c.args.assigns.now c.args.name.now c.number.result walk c.in-Ok.own
    c.new-out.result c.push_call.new.self c.number.ensures c.new-out.ensures c.in_ok-push_call-in-Ok.ensures.made
    (c.in-Ok.ensures names walk.args walk.hashes named)

pub walking::walk_call-returns-in-Err : goal.walking::walk_call-returns-in-Err
walking::walk_call-returns-in-Err t c = λ names named.
    let walk = c.args.walk.now in
    let sc = scope_in names c.args.scope.now in
    subst
    (λ (n : ℕ). IsAt sc.titles (call_check names c.args.scope.now c.args.s.now c.args.line c.args.assigns.now
    (record { kind = kind.Procedure; number = n }) (walked walk)) c.in-Err.trouble)
    c.number.ensures (c.in-Err.ensures names walk.args walk.hashes named)

pub walking::walk_loop-returns-in_ok-push_repeat-in-Ok : goal.walking::walk_loop-returns-in_ok-push_repeat-in-Ok
walking::walk_loop-returns-in_ok-push_repeat-in-Ok t c = λ names named.
    let scope = c.args.scope.now in
    let s = c.args.s.now in
    let walk = c.args.walk.now in
    let inside : HeldStanding = record s { in_loop = true; loops = s.loops + 1 } in
    let own : Walk = record walk { out = c.replace-out.new.dest } in
    loop_runs names scope s c.args.line c.args.times c.args.body.now inside walk own c.walk_list.new.walk c.replace-inner.result
    c.push_repeat.new.self (sym (loop_standing (stands names scope s))) refl refl
    (lt-ltb s.loops deepest_loops c.if-s-ge-DEEPEST_LOOPS.false) c.if-s.false
    (ap (λ (x : Flat). record walk { out = x }) (c.replace-out.ensures.after ∙ c.new.ensures))
    c.replace-inner.ensures.value
    (c.in_ok-push_repeat-in-Ok.ensures.made
    ∙ ap (λ (x : Flat). joined x (repeat c.args.times c.replace-inner.result done)) (c.replace-inner.ensures.after ∙ c.replace-out.ensures.value))
    (c.in-Ok.ensures names named)

pub shifting::walk_shift-returns-then-not-may_shift : goal.shifting::walk_shift-returns-then-not-may_shift
shifting::walk_shift-returns-then-not-may_shift t c = λ names named.
    let scope = c.args.scope.now in
    let s = stands names scope c.args.s.now in
    subst (λ (trouble : Trouble). IsAt (titles_in scope.titles)
    (shift_check names scope c.args.s.now c.args.line c.args.body.now (walked c.args.walk.now)) trouble) (sym c.trouble.ensures)
    (ruled_out (may_shift s) (fault_on (scope_in names scope) s c.args.line ShiftForm)
    (passes_check names scope c.args.s.now c.args.body.now) (walked c.args.walk.now)
    (sym (c.may_shift.ensures (scope_in names scope)) ∙ c.if-not-may_shift.true))

pub shifting::walk_shift-returns-then-count-eq0 : goal.shifting::walk_shift-returns-then-count-eq0
shifting::walk_shift-returns-then-count-eq0 t c = λ names named.
    let scope = c.args.scope.now in
    let sc = scope_in names scope in
    let s = c.args.s.now in
    let before = c.args.walk.now in
    let signals = takers_in sc (stands names scope s) c.args.body.now in
    let none = c.in_ok-count.ensures.counted names (body_of s.body) named ∙ c.if-count-eq0.true in
    let same = c.in_ok-count.ensures.laid names (body_of s.body) named ∙ columns-none (outs_of names) signals before.args none in
    subst (λ (args : List Argument). ShiftSteps names scope s c.args.line c.args.body.now (record before { args = args })
    c.walk_without.new.walk c.walk_without.result) same
    (c.walk_without.ensures names c.args.line named (sym (c.may_shift.ensures sc) ∙ c.if-not-may_shift.false)
    (ap (passes signals) same ∙ none))

pub shifting::walk_shift-returns-in_ok-push_save-in-Ok : goal.shifting::walk_shift-returns-in_ok-push_save-in-Ok
shifting::walk_shift-returns-in_ok-push_save-in-Ok t c = λ names named.
    let scope = c.args.scope.now in
    let sc = scope_in names scope in
    let s = c.args.s.now in
    let body = c.args.body.now in
    passes_steps sc (check_named names scope s) (pass_flat names scope s body) (stands names scope s) c.args.line body
    (sym (c.may_shift.ensures sc) ∙ c.if-not-may_shift.false) c.in_ok-count.count c.begin_passes.new.args c.replace-out.new.dest
    c.replace-passes.new.dest c.replace-passes.result c.push_save.new.self c.args.walk.now c.walk_passes.new.walk c.if-count-eq0.false
    (c.in_ok-count.ensures.counted names (body_of s.body) named) (c.in_ok-count.ensures.laid names (body_of s.body) named) (c.replace-out.ensures.after ∙ c.new.ensures)
    (c.in-Ok.ensures names c.args.line named) c.in_ok-push_save-in-Ok.ensures.made c.replace-passes.ensures.value
    (c.replace-passes.ensures.after ∙ c.replace-out.ensures.value)

pub shifting::walk_shift-returns-in-Err : goal.shifting::walk_shift-returns-in-Err
shifting::walk_shift-returns-in-Err t c = λ names named.
    let scope = c.args.scope.now in
    let sc = scope_in names scope in
    let s = c.args.s.now in
    let body = c.args.body.now in
    passes_refused sc (check_named names scope s) (pass_flat names scope s body) (stands names scope s) c.args.line body
    (sym (c.may_shift.ensures sc) ∙ c.if-not-may_shift.false) (titles_in scope.titles) c.in_ok-count.count c.begin_passes.new.args
    c.args.walk.now c.in-Err.trouble c.if-count-eq0.false (c.in_ok-count.ensures.counted names (body_of s.body) named)
    (c.in_ok-count.ensures.laid names (body_of s.body) named) (c.in-Err.ensures names c.args.line named)

pub shifting::walk_without-returns-in_ok-push_save-in-Ok : goal.shifting::walk_without-returns-in_ok-push_save-in-Ok
shifting::walk_without-returns-in_ok-push_save-in-Ok t c = λ names line named may none.
    let scope = c.args.scope.now in
    let s = c.args.s.now in
    let body = c.args.body.now in
    let before = c.args.walk.now in
    let piece = flat_at (setting_in names scope) (flat_named names scope s) (named_in names scope s body) before.args in
    without_steps (scope_in names scope) (check_named names scope s) (pass_flat names scope s body) (stands names scope s) line body may piece
    c.replace-hashes.new.dest c.replace-hashes.result c.replace-out.new.dest c.replace-out.result c.new-in-Ok.result c.push_save.new.self
    before c.walk_list.new.walk none (c.replace-hashes.ensures.after ∙ c.new.ensures) (c.replace-out.ensures.after ∙ c.new-2.ensures)
    (c.in-Ok.ensures names named) c.replace-hashes.ensures.value c.in_ok-push_save-in-Ok.ensures.made c.new-in-Ok.ensures
    c.replace-out.ensures.value

pub shifting::walk_passes-loop-preserved : goal.shifting::walk_passes-loop-preserved
shifting::walk_passes-loop-preserved t c = λ names line named.
    passes_go_on names c.args.scope.now c.args.inside.now line c.args.count c.args.body.now c.args.walk.now c.loop.counter
    c.clear.new.self c.again.new.self c.loop.walk c.walk_list.new.walk c.loop-test.true c.clear.ensures
    (c.loop.invariant names line named) (c.in-Ok.ensures names named)

pub shifting::walk_passes-returns-in-Err : goal.shifting::walk_passes-returns-in-Err
shifting::walk_passes-returns-in-Err t c = λ names line named.
    passes_stop names c.args.scope.now c.args.inside.now line c.args.count c.args.body.now c.args.walk.now
    (titles_in c.args.scope.now.titles) c.loop.counter c.clear.new.self c.loop.walk c.in-Err.trouble c.loop-test.true c.clear.ensures
    (c.loop.invariant names line named) (c.in-Err.ensures names named)

pub shifting::walk_passes-returns : goal.shifting::walk_passes-returns
shifting::walk_passes-returns t c = λ names line named.
    passes_end names c.args.scope.now c.args.inside.now line c.args.count c.args.body.now c.args.walk.now c.loop.counter
    c.forget.new.self c.loop.walk c.loop-test.false (c.loop.invariant names line named)
