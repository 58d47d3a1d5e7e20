-- A pattern without a fault has steady loops, and so have the bodies that run in it.
use Rattle.std.proofs.Common.{◌≡◌, ℕ, zero, suc, ◌&&◌, Bool, true, false, not, List, [], Option, Some, refl, ap, ◌∙◌, slice_get, map, nat_lt}
use Rattle.std.proofs.lemmas.Bool.{and_from}
use Rattle.std.proofs.lemmas.Option.{slice_get-map}
use Rattle.std.specs.Option.{option_map}
use Rattle.stil_ast.specs.Meaning.State.{State}
use Rattle.stil_ast.specs.Data.Places.{of_pattern, of_macro, of_procedure}
use Rattle.stil_ast.specs.Meaning.Statements.{Statements}
use Rattle.stil_ast.specs.Meaning.Arguments.{Argument}
use Rattle.stil_ast.specs.Meaning.Shift.{passes, columns}
use Rattle.stil_ast.specs.Meaning.Running.{Setting, run, outside}
use Rattle.stil_ast.specs.Meaning.Flat.{flat_run}
use Rattle.stil_ast.specs.Meaning.Flattening.{flat_of}
use Rattle.stil_ast.specs.Meaning.Laws.{no_hashes, is_steady, steady_loops, bodies_pass, steady_within, is_steady_pattern, with_state}
use Rattle.stil_ast.specs.Meaning.Resolved.{Scope, resolved, resolved_assigns, setting_of, outs_of}
use Rattle.stil_ast.specs.Data.Written.{Written, no_more, single, looped, shifted}
use Rattle.stil_ast.specs.Faults.AssignmentFaults.{Walked, Checked, fine, rule, bar_if, Callee, Standing, fault_on, check_assigns}
use Rattle.stil_ast.specs.Faults.PatternFaults.{inside_loop, inside_shift, on_top, callee_of, check_body, check_call, check_step, counted, one_more, times_checked, no_hashes_yet, one_pass, check_passes, is_called, may_shift, takers_in, check_list, check_calls, check_pattern}
use Rattle.stil_ast.specs.declared.body.Assignment.{Assignment}
use Rattle.stil_ast.specs.declared.body.Step.TheVariants.{Wave, Vector, Condition, Macro, Call, BreakPoint, IddqTestPoint, Stop}
use Rattle.stil_ast.specs.declared.blocks.BodyDef.{BodyDef}
use Rattle.stil_ast.specs.declared.fault.StilKind.TheVariants.{TooLarge, ShiftForm}
use Rattle.stil_ast.proofs.CheckedLemmas.{then_check-fine, rule-fine, bar_if-fine, counted-fine, back_from-fine, check_assigns-no_hashes, check_body-fine}
use Rattle.stil_ast.proofs.FlatLemmas.{flat_tree_agrees}

-- what a check without a fault says of statements: their loops are steady, the bodies that they name pass a test, and
-- they are steady themselves where they stand in a Loop
record Steady (t : Setting) (test : Option Statements → Bool) (in_loop : Bool) (x : Statements) : Type 0 where
  loops : steady_loops x ≡ true
  bodies : bodies_pass t test x ≡ true
  inside : in_loop ≡ true → is_steady x ≡ true

-- a check of bodies says that they pass a test
abbrev Passes : Scope → (Standing → Written → Walked → Checked) → (Option Statements → Bool) → Type 0
Passes scope inner test =
    (s : Standing) (body : Written) (w v : Walked) → inner s body w ≡ fine v → test (Some (resolved scope s.body body)) ≡ true

-- a body that is found in a list is found in what the list is mapped to
found_at : (f : BodyDef → Statements) (defs : List BodyDef) (n : ℕ) (d : BodyDef) → slice_get defs n ≡ Some d
    → slice_get (map f defs) n ≡ Some (f d)
found_at f defs n d e = slice_get-map f defs n ∙ ap (option_map f) e

pub not_both : (a b c : Bool) → b ≡ true → ((a && not b) && c) ≡ true → ⊥
not_both true true c e f = cc
not_both false true c e f = cc
not_both a false c e f = cc

module _ (scope : Scope) (outs : List ℕ) (inner : Standing → Written → Walked → Checked) (test : Option Statements → Bool) (ok : Passes scope inner test) where
  -- a Macro or Call without a fault names a body that passes the test
  call_passes : (s : Standing) (line : ℕ) (c : Callee) (assigns : List Assignment) (w v : Walked)
      → check_call scope inner s line c assigns w ≡ fine v
      → (d : BodyDef) × (c.found ≡ Some d) × (test (Some (resolved scope c.kind d.body)) ≡ true)
  call_passes s line c assigns w v e =
      let one = rule-fine (nat_lt s.calls 64) (fault_on scope s line TooLarge) (bar_if s.in_shift (fault_on scope s line ShiftForm) (check_body scope inner s line c assigns c.found)) w v e in
      let two = bar_if-fine s.in_shift (fault_on scope s line ShiftForm) (check_body scope inner s line c assigns c.found) w v one.1 in
      let b = check_body-fine scope inner s line c assigns c.found w v two.1 in
      (b.def, b.found, ok _ b.def.body _ b.back.now b.back.before)

  macro_passes : (s : Standing) (line : ℕ) (name : List ℕ) (assigns : List Assignment) (w v : Walked)
      → check_call scope inner s line (callee_of scope of_macro name) assigns w ≡ fine v
      → test (slice_get (setting_of scope outs).macros (callee_of scope of_macro name).number) ≡ true
  macro_passes s line name assigns w v e =
      let c = callee_of scope of_macro name in
      let p = call_passes s line c assigns w v e in
      ap test (found_at (λ (d : BodyDef). resolved scope of_macro d.body) scope.macros c.number p.0 p.1) ∙ p.2

  procedure_passes : (s : Standing) (line : ℕ) (name : List ℕ) (assigns : List Assignment) (w v : Walked)
      → check_call scope inner s line (callee_of scope of_procedure name) assigns w ≡ fine v
      → test (slice_get (setting_of scope outs).procedures (callee_of scope of_procedure name).number) ≡ true
  procedure_passes s line name assigns w v e =
      let c = callee_of scope of_procedure name in
      let p = call_passes s line c assigns w v e in
      ap test (found_at (λ (d : BodyDef). resolved scope of_procedure d.body) scope.procedures c.number p.0 p.1) ∙ p.2

  -- a Shift's body was checked at least once, with a pass or without
  passes_fine : (n : ℕ) (f : Bool → Walked → Checked) (args : List Argument) (w v : Walked)
      → check_passes n f args w ≡ fine v
      → (without : Bool) × (u : Walked) × (x : Walked) × (f without u ≡ fine x)
  passes_fine zero f args w v e =
      let b = back_from-fine w (one_pass (f true) w) v e in
      (true, no_hashes_yet w.args w, b.now, b.before)
  passes_fine (suc n) f args w v e =
      let begin = no_hashes_yet args w in
      let b = then_check-fine (one_pass (f false) begin) (times_checked n (one_pass (f false))) v e in
      (false, no_hashes_yet begin.args begin, b.now, b.before)

  abbrev Goal : Standing → Written → Type 0
  Goal s body = Steady (setting_of scope outs) test s.in_loop (resolved scope s.body body)

  list_steady : (s : Standing) (body : Written) (w v : Walked) → check_list scope inner s body w ≡ fine v
      → Goal s body
  list_steady s no_more w v e = record { loops = refl; bodies = refl; inside = λ _. refl }
  list_steady s (single line (Wave name) rest) w v e =
      let now = then_check-fine (counted scope s line (check_step scope inner s line (Wave name)) w) (check_list scope inner s rest) v e in
      let later = list_steady s rest now.now v now.after in
      record { loops = later.loops; bodies = later.bodies; inside = later.inside }
  list_steady s (single line (Vector assigns) rest) w v e =
      let now = then_check-fine (counted scope s line (check_step scope inner s line (Vector assigns)) w) (check_list scope inner s rest) v e in
      let checked = counted-fine scope s line (check_assigns scope s assigns) w now.now now.before in
      let later = list_steady s rest now.now v now.after in
      record {
        loops = later.loops;
        bodies = later.bodies;
        inside = λ looped. and_from (no_hashes (resolved_assigns scope.names assigns)) _ (check_assigns-no_hashes scope s assigns _ now.now checked looped) (later.inside looped);
      }
  list_steady s (single line (Condition assigns) rest) w v e =
      let now = then_check-fine (counted scope s line (check_step scope inner s line (Condition assigns)) w) (check_list scope inner s rest) v e in
      let checked = counted-fine scope s line (check_assigns scope s assigns) w now.now now.before in
      let later = list_steady s rest now.now v now.after in
      record {
        loops = later.loops;
        bodies = later.bodies;
        inside = λ looped. and_from (no_hashes (resolved_assigns scope.names assigns)) _ (check_assigns-no_hashes scope s assigns _ now.now checked looped) (later.inside looped);
      }
  list_steady s (single line (Macro name assigns) rest) w v e =
      let now = then_check-fine (counted scope s line (check_step scope inner s line (Macro name assigns)) w) (check_list scope inner s rest) v e in
      let checked = counted-fine scope s line (check_call scope inner s line (callee_of scope of_macro name) assigns) w now.now now.before in
      let later = list_steady s rest now.now v now.after in
      record {
        loops = later.loops;
        bodies = and_from _ _ (macro_passes s line name assigns _ now.now checked) later.bodies;
        inside = later.inside;
      }
  list_steady s (single line (Call name assigns) rest) w v e =
      let now = then_check-fine (counted scope s line (check_step scope inner s line (Call name assigns)) w) (check_list scope inner s rest) v e in
      let checked = counted-fine scope s line (check_call scope inner s line (callee_of scope of_procedure name) assigns) w now.now now.before in
      let later = list_steady s rest now.now v now.after in
      record {
        loops = later.loops;
        bodies = and_from _ _ (procedure_passes s line name assigns _ now.now checked) later.bodies;
        inside = later.inside;
      }
  list_steady s (single line BreakPoint rest) w v e =
      let now = then_check-fine (counted scope s line (check_step scope inner s line BreakPoint) w) (check_list scope inner s rest) v e in
      let later = list_steady s rest now.now v now.after in
      record { loops = later.loops; bodies = later.bodies; inside = later.inside }
  list_steady s (single line IddqTestPoint rest) w v e =
      let now = then_check-fine (counted scope s line (check_step scope inner s line IddqTestPoint) w) (check_list scope inner s rest) v e in
      let later = list_steady s rest now.now v now.after in
      record { loops = later.loops; bodies = later.bodies; inside = later.inside }
  list_steady s (single line Stop rest) w v e = record { loops = refl; bodies = refl; inside = λ _. refl }
  list_steady s (looped line times body rest) w v e =
      let check_it = check_list scope inner (inside_loop s) body in
      let barred = bar_if s.in_shift (fault_on scope s line ShiftForm) check_it in
      let now = then_check-fine (counted scope s line (rule (nat_lt s.loops 64) (fault_on scope s line TooLarge) barred) w) (check_list scope inner s rest) v e in
      let one = counted-fine scope s line (rule (nat_lt s.loops 64) (fault_on scope s line TooLarge) barred) w now.now now.before in
      let two = rule-fine (nat_lt s.loops 64) (fault_on scope s line TooLarge) barred (one_more w) now.now one in
      let three = bar_if-fine s.in_shift (fault_on scope s line ShiftForm) check_it (one_more w) now.now two.1 in
      let inside = list_steady (inside_loop s) body (one_more w) now.now three.1 in
      let later = list_steady s rest now.now v now.after in
      record {
        loops = and_from _ _ (and_from _ _ (inside.inside refl) inside.loops) later.loops;
        bodies = and_from _ _ inside.bodies later.bodies;
        inside = λ looped. and_from _ _ (inside.inside refl) (later.inside looped);
      }
  list_steady s (shifted line body rest) w v e =
      let all = takers_in scope s body in
      let walk = λ (now : Walked). check_passes (passes all now.args) (λ (without : Bool). check_list scope inner (inside_shift without s) body) (columns (outs_of scope.names) all now.args) now in
      let now = then_check-fine (counted scope s line (rule (may_shift s) (fault_on scope s line ShiftForm) walk) w) (check_list scope inner s rest) v e in
      let one = counted-fine scope s line (rule (may_shift s) (fault_on scope s line ShiftForm) walk) w now.now now.before in
      let two = rule-fine (may_shift s) (fault_on scope s line ShiftForm) walk (one_more w) now.now one in
      let pass = passes_fine (passes all (one_more w).args) (λ (without : Bool). check_list scope inner (inside_shift without s) body) (columns (outs_of scope.names) all (one_more w).args) (one_more w) now.now two.1 in
      let inside = list_steady (inside_shift pass.0 s) body pass.1 pass.2 pass.3 in
      let later = list_steady s rest now.now v now.after in
      record {
        loops = and_from _ _ inside.loops later.loops;
        bodies = and_from _ _ inside.bodies later.bodies;
        inside = λ looped. absurd (not_both (is_called s.body) s.in_loop (not s.in_shift) looped two.0);
      }

-- bodies that name bodies, so deep
calls_steady : (scope : Scope) (outs : List ℕ) (depth : ℕ)
    → Passes scope (check_calls scope depth) (steady_within (setting_of scope outs) depth)
unfolding check_calls steady_within
calls_steady scope outs zero s body w v e = refl
calls_steady scope outs (suc depth) s body w v e =
    let test = steady_within (setting_of scope outs) depth in
    let found = list_steady scope outs (check_calls scope depth) test (calls_steady scope outs depth) s body w v e in
    and_from _ _ found.loops found.bodies

pub checked_is_steady : (scope : Scope) (outs : List ℕ) (body : Written) (count : ℕ) (w : Walked)
    → check_pattern scope body count ≡ fine w
    → is_steady_pattern (setting_of scope outs) (resolved scope of_pattern body) ≡ true
checked_is_steady scope outs body count w e =
    let found = list_steady scope outs (check_calls scope 64) (steady_within (setting_of scope outs) 64) (calls_steady scope outs 64) on_top body (record { args = []; hashes = []; count = count }) w e in
    and_from _ _ found.loops found.bodies

pub checked_tree_agrees : (scope : Scope) (outs : List ℕ) (body : Written) (count : ℕ) (w : Walked) (s : State)
    → check_pattern scope body count ≡ fine w
    → flat_run (flat_of (setting_of scope outs) (resolved scope of_pattern body)) (outside s).held s
    ≡ with_state (run (setting_of scope outs) (resolved scope of_pattern body) (outside s))
checked_tree_agrees scope outs body count w s e =
    flat_tree_agrees (setting_of scope outs) (resolved scope of_pattern body) s (checked_is_steady scope outs body count w e)
