-- A statement in front of those behind it, and what each kind does or is refused for.
use Rattle.std.proofs.Common.{◌≡◌, ℕ, true, false, Option, refl, ap, sym, ◌∙◌, ◌-◌, subst, nat_lt}
use Rattle.std.specs.Prelude.{Result, Ok, Err}
use Rattle.text_bytes.specs.Limits.{deepest_calls, deepest_loops}
use Rattle.stil_ast.specs.Data.Bodies.{written_front}
use Rattle.stil_ast.specs.Data.Places.{of_pattern}
use Rattle.stil_ast.specs.Data.Written.{Written, single}
use Rattle.stil_ast.specs.Meaning.Flat.{Flat, done, repeat}
use Rattle.stil_ast.specs.Meaning.Flattening.{joined, Spot, Piece, then_piece, flat_list, flat_calls}
use Rattle.stil_ast.specs.Meaning.Resolved.{origin, resolved}
use Rattle.stil_ast.specs.Meaning.Signals.{Names}
use Rattle.stil_ast.specs.Meaning.Statements.{Statements}
use Rattle.stil_ast.specs.Faults.AssignmentFaults.{Walked, Checked, fine, then_check, Standing}
use Rattle.stil_ast.specs.Faults.PatternFaults.{inside_loop, check_list, check_calls}
use Rattle.stil_ast.specs.declared.body.PatAction.{PatAction}
use Rattle.stil_ast.specs.declared.body.PatAction.TheVariants.{Step as plain_step, Loop, Shift}
use Rattle.stil_ast.specs.declared.body.Step.TheVariants.{Wave, Vector, Condition, Macro, Call, BreakPoint, IddqTestPoint, Stop}
use Rattle.flat_tree.specs.Kept.{kept}
use Rattle.flat_tree.specs.Origins.{body_of}
use Rattle.flat_tree.specs.declared.place.BodyKind.{BodyKind}
use Rattle.macro_expand.specs.Actions.{is_stop, loop_check, statement_check, loop_piece, action_piece}
use Rattle.macro_expand.specs.Recursing.{setting_in, stands, check_named, flat_named, named_in, list_check, ListSteps}
use Rattle.macro_expand.specs.Refusing.{IsAt, Trouble}
use Rattle.macro_expand.specs.Scopes.{titles_in, scope_in}
use Rattle.macro_expand.specs.Stepping.{Steps, CountsOne, spot_on}
use Rattle.macro_expand.specs.Walking.{flat_at, IsWalking}
use Rattle.macro_expand.specs.Walks.{walked, then_kept}
use Rattle.macro_expand.specs.declared.scope.PatternScope.{PatternScope}
use Rattle.macro_expand.specs.declared.standing.Standing.{Standing as HeldStanding}
use Rattle.macro_expand.specs.declared.walk.Walk.{Walk}
use Rattle.flat_tree.proofs.FlatLemmas.{joined-done}
use Rattle.macro_expand.proofs.KindLemmas.{loop_steps}
use Rattle.macro_expand.proofs.WalkLemmas.{flat-anywhere, walking_step, walking_refused, walking_stops, walking_stop_refused}

module _ (names : Names) (scope : PatternScope) (s : HeldStanding) where
  abbrev behind : Written → Walked → Checked
  behind = list_check names scope s (stands names scope s)

  -- a statement is checked, and then those behind it
  pub checks_front : (line : ℕ) (action : PatAction) (rest : Written) (w : Walked) → is_stop action ≡ false
      → behind (written_front line action rest) w ≡ then_check (statement_check names scope s line action w) (behind rest)
  checks_front line (plain_step (Wave name)) rest w e = refl
  checks_front line (plain_step (Vector assigns)) rest w e = refl
  checks_front line (plain_step (Condition assigns)) rest w e = refl
  checks_front line (plain_step (Macro name assigns)) rest w e = refl
  checks_front line (plain_step (Call name assigns)) rest w e = refl
  checks_front line (plain_step BreakPoint) rest w e = refl
  checks_front line (plain_step IddqTestPoint) rest w e = refl
  checks_front line (plain_step Stop) rest w e = cc
  checks_front line (Loop times body) rest w e = refl
  checks_front line (Shift body) rest w e = refl

  abbrev tree : Written → Spot → Piece
  tree rest = flat_list (setting_in names scope) (flat_named names scope s) (resolved (scope_in names scope) (body_of s.body) rest)

  -- a statement is written, and then those behind it
  pub flattens_front : (line : ℕ) (action : PatAction) (rest : Written) (w : Walk) → is_stop action ≡ false
      → flat_at (setting_in names scope) (flat_named names scope s) (resolved (scope_in names scope) (body_of s.body) (written_front line action rest)) w.args
      ≡ then_piece (action_piece names scope s action (spot_on s.body line w)) (tree rest)
  flattens_front line (plain_step (Wave name)) rest w e = refl
  flattens_front line (plain_step (Vector assigns)) rest w e = refl
  flattens_front line (plain_step (Condition assigns)) rest w e = refl
  flattens_front line (plain_step (Macro name assigns)) rest w e = refl
  flattens_front line (plain_step (Call name assigns)) rest w e = refl
  flattens_front line (plain_step BreakPoint) rest w e = refl
  flattens_front line (plain_step IddqTestPoint) rest w e = refl
  flattens_front line (plain_step Stop) rest w e = cc
  flattens_front line (Loop times body) rest w e = refl
  flattens_front line (Shift body) rest w e = refl

  -- only a Stop stops
  stop_is : (action : PatAction) → is_stop action ≡ true → action ≡ plain_step Stop
  stop_is (plain_step (Wave name)) e = cc
  stop_is (plain_step (Vector assigns)) e = cc
  stop_is (plain_step (Condition assigns)) e = cc
  stop_is (plain_step (Macro name assigns)) e = cc
  stop_is (plain_step (Call name assigns)) e = cc
  stop_is (plain_step BreakPoint) e = cc
  stop_is (plain_step IddqTestPoint) e = cc
  stop_is (plain_step Stop) e = refl
  stop_is (Loop times body) e = cc
  stop_is (Shift body) e = cc

  -- so many statements are still to be walked
  abbrev pub Walking : Written → Walk → Written → Walk → Type 0
  Walking all start left now =
      IsWalking (scope_in names scope) (setting_in names scope) (check_named names scope s) (flat_named names scope s)
      (stands names scope s) all start left now

  stopped : {A : Type 0} (all : Written) (start now after : Walk) (line : ℕ) (rest : Written) (r : Result A Trouble)
      → Walking all start (single line Stop rest) now
      → CountsOne s line now after r → ListSteps names scope s all start after r
  stopped all start now after line rest (Ok nothing) before counts =
      walking_stops (scope_in names scope) (setting_in names scope) (check_named names scope s) (flat_named names scope s)
      (stands names scope s) all start line rest now after counts.0 counts.1 before
  stopped all start now after line rest (Err trouble) before fault =
      walking_stop_refused (scope_in names scope) (setting_in names scope) (check_named names scope s) (flat_named names scope s)
      (stands names scope s) all start (titles_in scope.titles) line rest now trouble before (fault (scope_in names scope) fine)

  -- a Stop ends the walk
  pub stopped_or : {A : Type 0} (all : Written) (start now after : Walk) (line : ℕ) (action : PatAction) (rest : Written) (r : Result A Trouble)
      → is_stop action ≡ true → Walking all start (written_front line action rest) now
      → CountsOne s line now after r → ListSteps names scope s all start after r
  stopped_or all start now after line action rest r stop before counts =
      stopped all start now after line rest r
      (subst (λ (a : PatAction). Walking all start (written_front line a rest) now) (stop_is action stop) before) counts

  -- a statement that was walked, and those behind it are left
  pub walked_one : (all : Written) (start now after : Walk) (line : ℕ) (action : PatAction) (rest : Written) → is_stop action ≡ false
      → Walking all start (written_front line action rest) now
      → Steps (statement_check names scope s line action) (action_piece names scope s action (spot_on s.body line now)) now after
      → Walking all start rest after
  walked_one all start now after line action rest goes before e =
      walking_step (scope_in names scope) (setting_in names scope) (check_named names scope s) (flat_named names scope s)
      (stands names scope s) all start (statement_check names scope s line action) (action_piece names scope s action (spot_on s.body line now))
      (written_front line action rest) rest now after (checks_front line action rest (walked now) goes)
      (flattens_front line action rest now goes) before e

  -- a statement that is refused
  pub refused_one : (all : Written) (start now : Walk) (line : ℕ) (action : PatAction) (rest : Written) (trouble : Trouble)
      → is_stop action ≡ false → Walking all start (written_front line action rest) now
      → IsAt (titles_in scope.titles) (statement_check names scope s line action (walked now)) trouble
      → IsAt (titles_in scope.titles) (behind all (walked start)) trouble
  refused_one all start now line action rest trouble goes before e =
      walking_refused (scope_in names scope) (setting_in names scope) (check_named names scope s) (flat_named names scope s)
      (stands names scope s) all start (titles_in scope.titles) (statement_check names scope s line action) (written_front line action rest) rest
      now trouble (checks_front line action rest (walked now) goes) before e

  -- a Loop whose body was walked, into a tree of its own
  pub loop_runs : (line times : ℕ) (body : Written) (inside : HeldStanding) (before own after : Walk) (inner out : Flat)
      → stands names scope inside ≡ inside_loop (stands names scope s) → inside.calls ≡ s.calls → inside.body ≡ s.body
      → nat_lt s.loops deepest_loops ≡ true → s.in_shift ≡ false
      → own ≡ record before { out = done }
      → inner ≡ after.out → out ≡ joined before.out (repeat times inner done)
      → Steps (list_check names scope inside (stands names scope inside) body)
      (flat_at (setting_in names scope) (flat_named names scope inside) (named_in names scope inside body) own.args) own after
      → Steps (loop_check names scope s line body) (loop_piece names scope s times body (spot_on s.body line before)) before
      (record after { out = out })
  loop_runs line times body inside before own after inner out is calls kind few form begins moved e steps =
      let sc = scope_in names scope in
      let t = setting_in names scope in
      let here = spot_on s.body line before in
      let f : ℕ → Option Statements → Spot → Piece = λ n. flat_calls t (deepest_calls - n) in
      let there = origin of_pattern 0 in
      let tree : after.out ≡ kept (flat_at t (flat_named names scope inside) (named_in names scope inside body) own.args).flat
      = sym (joined-done after.out) ∙ steps.out done
      ∙ ap (λ (w : Walk). then_kept w.out (joined (flat_at t (flat_named names scope inside) (named_in names scope inside body) own.args).flat done)) begins
      ∙ ap kept (joined-done (flat_at t (flat_named names scope inside) (named_in names scope inside body) own.args).flat) in
      let same : (flat_at t (flat_named names scope inside) (named_in names scope inside body) own.args).flat
      ≡ (flat_list t (flat_named names scope s) (named_in names scope s body) here).flat
      = ap (λ (n : ℕ). (flat_at t (f n) (named_in names scope inside body) own.args).flat) calls
      ∙ ap (λ (b : BodyKind). (flat_at t (f s.calls) (resolved sc (body_of b) body) own.args).flat) kind
      ∙ ap (λ (w : Walk). (flat_at t (f s.calls) (named_in names scope s body) w.args).flat) begins
      ∙ flat-anywhere sc t (f s.calls) (body_of s.body) body before.args there here.place in
      let checked : list_check names scope s (inside_loop (stands names scope s)) body (walked before) ≡ fine (walked after)
      = ap (λ (w : Walk). list_check names scope s (inside_loop (stands names scope s)) body (walked w)) (sym begins)
      ∙ ap (λ (x : Standing). list_check names scope s x body (walked own)) (sym is)
      ∙ ap (λ (n : ℕ). check_list sc (check_calls sc (deepest_calls - n)) (stands names scope inside) body (walked own)) (sym calls)
      ∙ steps.checked in
      loop_steps sc (check_named names scope s) (stands names scope s) line times body
      (flat_list t (flat_named names scope s) (named_in names scope s body) here) before after out few form checked (tree ∙ ap kept same)
      (e ∙ ap (λ (x : Flat). joined before.out (repeat times x done)) moved)
