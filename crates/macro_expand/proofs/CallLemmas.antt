-- The body that a Macro or Call names is run: what is checked, and what is written.
use Rattle.std.proofs.Common.{◌≡◌, ℕ, ◌-◌, List, Option, Some, ap, sym, ◌∙◌, subst, length, slice_get}
use Rattle.std.proofs.lemmas.List.{length-map}
use Rattle.std.proofs.lemmas.Option.{slice_get-map}
use Rattle.std.specs.Option.{option_map}
use Rattle.text_bytes.specs.Limits.{deepest_calls}
use Rattle.stil_ast.specs.Data.Places.{Origin, of_pattern, of_macro, of_procedure}
use Rattle.stil_ast.specs.Meaning.Arguments.{Argument, arguments}
use Rattle.stil_ast.specs.Meaning.Flat.{Flat, done}
use Rattle.stil_ast.specs.Meaning.Flattening.{joined, Piece}
use Rattle.stil_ast.specs.Meaning.Resolved.{origin, is_out, resolved, resolved_assigns, body_number}
use Rattle.stil_ast.specs.Meaning.Signals.{Signal, Names}
use Rattle.stil_ast.specs.Meaning.Statements.{Statements}
use Rattle.stil_ast.specs.Faults.AssignmentFaults.{Walked, Checked, check_arguments}
use Rattle.stil_ast.specs.Faults.PatternFaults.{inside_body, check_call, callee_of}
use Rattle.stil_ast.specs.declared.blocks.BodyDef.{BodyDef}
use Rattle.stil_ast.specs.declared.body.Assignment.{Assignment}
use Rattle.stil_ast.specs.declared.body.Step.TheVariants.{Macro, Call}
use Rattle.flat_tree.specs.Kept.{kept, call_front}
use Rattle.flat_tree.specs.declared.place.BodyKind.TheVariants as kind
use Rattle.macro_expand.specs.Actions.{step_check, step_piece}
use Rattle.macro_expand.specs.Calling.{MayCall, Begins, Runs, statements_of}
use Rattle.macro_expand.specs.Recursing.{setting_in, stands, check_named, flat_named}
use Rattle.macro_expand.specs.Scopes.{scope_in}
use Rattle.macro_expand.specs.Standings.{callee_in}
use Rattle.macro_expand.specs.Stepping.{Steps, spot_on}
use Rattle.macro_expand.specs.Walks.{then_kept}
use Rattle.macro_expand.specs.declared.scope.PatternScope.{PatternScope}
use Rattle.macro_expand.specs.declared.standing.Callee.{Callee as HeldCallee}
use Rattle.macro_expand.specs.declared.standing.Standing.{Standing as HeldStanding}
use Rattle.macro_expand.specs.declared.walk.Walk.{Walk}
use Rattle.macro_expand.proofs.DeeperLemmas.{named-anywhere}
use Rattle.flat_tree.proofs.FlatLemmas.{joined-done}
use Rattle.macro_expand.proofs.KindLemmas.{called, macro_steps, call_steps}

module _ (names : Names) (scope : PatternScope) (s : HeldStanding) (line : ℕ) (assigns : List Assignment) where
  -- the check of a Macro or Call of this body
  abbrev pub call_check : HeldCallee → Walked → Checked
  call_check c =
      check_call (scope_in names scope) (check_named names scope s) (stands names scope s) line (callee_in (scope_in names scope) c) assigns

  -- the tree of a body
  abbrev call_piece_of : Option Statements → List Argument → Origin → Piece
  call_piece_of o args p = flat_named names scope s o (record { args = args; place = p })

  -- the tree of a body with its own arguments, where the Macro or Call stands
  abbrev own_piece : Option Statements → Piece
  own_piece o =
      call_piece_of o (arguments (length (setting_in names scope).outs) (resolved_assigns names assigns))
      (origin (stands names scope s).body line)

  -- a body that may run was run
  pub named_runs : (c : HeldCallee) (d : BodyDef) (args : List Argument) (hashes : List ℕ) (count : ℕ) (out : Flat) (own after : Walk)
      → MayCall (stands names scope s) (callee_in (scope_in names scope) c) d
      → Begins (check_arguments (scope_in names scope) (stands names scope s) assigns) (resolved_assigns names assigns)
      (length names.signals) args hashes count out own
      → Steps (check_named names scope s (inside_body (callee_in (scope_in names scope) c) (stands names scope s)) d.body)
      (call_piece_of (Some (resolved (scope_in names scope) (callee_in (scope_in names scope) c).kind d.body)) own.args (origin of_pattern 0))
      own after
      → Runs (call_check c) (own_piece (statements_of (scope_in names scope) (callee_in (scope_in names scope) c))) args hashes count out after
  named_runs c d args hashes count out own after may begins steps =
      let sc = scope_in names scope in
      let b = (callee_in sc c).kind in
      let there = origin (stands names scope s).body line in
      let given : own.args ≡ arguments (length (setting_in names scope).outs) (resolved_assigns names assigns)
      = begins.gives.given_now
      ∙ ap (λ (n : ℕ). arguments n (resolved_assigns names assigns)) (sym (length-map names.signals (λ (x : Signal). is_out x.direction))) in
      let found : statements_of sc (callee_in sc c) ≡ Some (resolved sc b d.body)
      = ap (option_map (λ (x : BodyDef). resolved sc b x.body)) may.found in
      let flats : (call_piece_of (Some (resolved sc b d.body)) own.args (origin of_pattern 0)).flat
      ≡ (own_piece (statements_of sc (callee_in sc c))).flat
      = named-anywhere sc (setting_in names scope) (deepest_calls - s.calls) b d.body own.args (origin of_pattern 0) there
      ∙ ap (λ (xs : List Argument). (call_piece_of (Some (resolved sc b d.body)) xs there).flat) given
      ∙ ap (λ (o : Option Statements). (own_piece o).flat) (sym found) in record {
        checked =
            called sc (check_named names scope s) (stands names scope s) line (callee_in sc c) assigns d args hashes count own after may
            begins.gives begins.hashes_none steps.checked;
        written = λ rest.
            steps.out rest
            ∙ ap (λ (f : Flat). then_kept f (joined (call_piece_of (Some (resolved sc b d.body)) own.args (origin of_pattern 0)).flat rest)) begins.out_same
            ∙ ap (λ (f : Flat). then_kept out (joined f rest)) flats;
      }

  -- the number of a name is that of the body
  abbrev RunsAt : HeldCallee → Walk → Flat → Walk → Type 0
  RunsAt c before out own =
      Runs (call_check c) (own_piece (statements_of (scope_in names scope) (callee_in (scope_in names scope) c)))
      before.args before.hashes before.count out own

  -- a Macro whose body was run
  pub macro_runs : (name : List ℕ) (n : ℕ) (before own : Walk) (out : Flat) → n ≡ body_number scope.macros.now name → out ≡ before.out
      → RunsAt (record { kind = kind.Macro; number = n }) before out own
      → Steps (step_check names scope s line (Macro name assigns)) (step_piece names scope s (Macro name assigns) (spot_on s.body line before))
      before (record before { count = own.count; out = own.out })
  macro_runs name n before own out number same runs =
      let sc = scope_in names scope in
      let ran = subst (λ (k : ℕ). RunsAt (record { kind = kind.Macro; number = k }) before out own) number runs in
      let at = slice_get-map (λ (d : BodyDef). resolved sc of_macro d.body) scope.macros.now (body_number scope.macros.now name) in
      macro_steps sc (check_named names scope s) (stands names scope s) line (callee_of sc of_macro name) assigns
      (own_piece (slice_get (setting_in names scope).macros (body_number scope.macros.now name))) before own ran.checked
      (λ rest. ran.written rest
      ∙ ap (λ (f : Flat). then_kept f (joined (own_piece (statements_of sc (callee_of sc of_macro name))).flat rest)) same
      ∙ ap (λ (o : Option Statements). then_kept before.out (joined (own_piece o).flat rest)) (sym at))

  -- a Call whose body was run, into a tree of its own
  pub call_runs_in : (name : List ℕ) (n : ℕ) (before own : Walk) (empty out : Flat) → n ≡ body_number scope.procedures.now name
      → empty ≡ done → out ≡ joined before.out (call_front own.out done)
      → RunsAt (record { kind = kind.Procedure; number = n }) before empty own
      → Steps (step_check names scope s line (Call name assigns)) (step_piece names scope s (Call name assigns) (spot_on s.body line before))
      before (record before { count = own.count; out = out })
  call_runs_in name n before own empty out number none e runs =
      let sc = scope_in names scope in
      let ran = subst (λ (k : ℕ). RunsAt (record { kind = kind.Procedure; number = k }) before empty own) number runs in
      let at = slice_get-map (λ (d : BodyDef). resolved sc of_procedure d.body) scope.procedures.now (body_number scope.procedures.now name) in
      let piece = own_piece (statements_of sc (callee_of sc of_procedure name)) in
      let whole : own.out ≡ kept piece.flat
      = sym (joined-done own.out) ∙ ran.written done ∙ ap (λ (f : Flat). then_kept f (joined piece.flat done)) none
      ∙ ap kept (joined-done piece.flat) in
      call_steps sc (check_named names scope s) (stands names scope s) line (callee_of sc of_procedure name) assigns
      (own_piece (slice_get (setting_in names scope).procedures (body_number scope.procedures.now name))) before own out ran.checked
      (whole ∙ ap (λ (o : Option Statements). kept (own_piece o).flat) (sym at)) e
