-- The passes of a Shift, one after another, and what it does as a whole.
use Rattle.std.proofs.Common.{◌≡◌, ℕ, zero, suc, ◌+◌, ◌-◌, ◌<◌, ◌≤◌, arith, Bool, true, false, List, [], refl, ap, sym, ◌∙◌, subst}
use Rattle.stil_ast.specs.Data.Places.{Titles, Origin, of_pattern}
use Rattle.stil_ast.specs.Data.Written.{Written}
use Rattle.stil_ast.specs.Meaning.Arguments.{Argument}
use Rattle.stil_ast.specs.Meaning.Flat.{Flat, done, save}
use Rattle.stil_ast.specs.Meaning.Flattening.{joined, Spot, Piece, shift_piece}
use Rattle.stil_ast.specs.Meaning.Resolved.{Scope, origin, outs_of}
use Rattle.stil_ast.specs.Meaning.Shift.{passes, columns}
use Rattle.stil_ast.specs.Meaning.Signals.{Names}
use Rattle.stil_ast.specs.Faults.AssignmentFaults.{Walked, Checked, fine, then_check, rule, Standing, fault_on}
use Rattle.stil_ast.specs.Faults.PatternFaults.{inside_shift, back_from, times_checked, one_pass, check_passes, may_shift, takers_in, check_list}
use Rattle.stil_ast.specs.declared.fault.StilKind.TheVariants.{ShiftForm}
use Rattle.flat_tree.specs.Kept.{kept}
use Rattle.flat_tree.specs.Origins.{body_of}
use Rattle.flat_tree.proofs.FlatLemmas.{joined-assoc}
use Rattle.macro_expand.specs.declared.references.References.{References}
use Rattle.answers.specs.declared.short.Short.TheVariants.{NoMemory, Fault}
use Rattle.macro_expand.specs.declared.walk.Walk.{Walk}
use Rattle.macro_expand.specs.declared.scope.PatternScope.{PatternScope}
use Rattle.macro_expand.specs.declared.standing.Standing.{Standing as HeldStanding}
use Rattle.macro_expand.specs.Passes.{passes_at, IsPassing, pass_check, pass_flat, ArePassing}
use Rattle.macro_expand.specs.Recursing.{setting_in, flat_named, named_in}
use Rattle.macro_expand.specs.Refusing.{IsAt, Trouble}
use Rattle.macro_expand.specs.Scopes.{scope_in}
use Rattle.macro_expand.specs.Stepping.{Steps}
use Rattle.macro_expand.specs.Walking.{flat_at}
use Rattle.macro_expand.specs.Walks.{walked, then_kept}
use Rattle.flat_tree.proofs.FlatLemmas.{joined-done}
use Rattle.macro_expand.proofs.FlatLemmas.{puts}
use Rattle.macro_expand.proofs.PlaceLemmas.{not_ruled_out}
use Rattle.macro_expand.proofs.ShiftLemmas.{columns-none, shift-args}
use Rattle.macro_expand.proofs.WalkLemmas.{flat-anywhere, args-anywhere}

-- whichever places of references were noted, before and behind a step
steps_noted : (check : Walked → Checked) (piece : Piece) (before after : Walk) (first last : References)
    → Steps check piece (record before { references = first }) after → Steps check piece before (record after { references = last })
steps_noted check piece before after first last e = record { checked = e.checked; out = e.out; args = e.args }

module _ (check : Walked → Checked) (f : Spot → Piece) (p : Origin) (all : ℕ) (start : Walk) where
  abbrev pass : List Argument → Piece
  pass args = f (record { args = args; place = p })

  -- one pass more
  passing_step : (left : ℕ) (piece : Piece) (now after : Walk) → piece.flat ≡ (pass now.args).flat
      → piece.spot.args ≡ (pass now.args).spot.args → IsPassing check f p all start (suc left) now
      → Steps check piece (record now { hashes = [] }) after → IsPassing check f p all start left after
  passing_step left piece now after flats leaves before e =
      let args : after.args ≡ (pass now.args).spot.args = e.args ∙ leaves in
      let next = passes_at f p left (pass now.args).spot.args in
      record {
        checked = ap (λ (c : Checked). then_check c (times_checked left (one_pass check))) (sym e.checked) ∙ before.checked;
        out = λ more.
            ap (λ (args : List Argument). then_kept after.out (joined (passes_at f p left args).flat more)) args
            ∙ e.out (joined next.flat more)
            ∙ ap (λ (flat : Flat). then_kept now.out (joined flat (joined next.flat more))) flats
            ∙ ap (then_kept now.out) (sym (joined-assoc (pass now.args).flat next.flat more))
            ∙ before.out more;
        args = ap (λ (args : List Argument). (passes_at f p left args).spot.args) args ∙ before.args;
      }

  -- a pass that has a fault
  passing_refused : (titles : Titles) (left : ℕ) (now : Walk) (trouble : Trouble)
      → IsPassing check f p all start (suc left) now → IsAt titles (check (walked (record now { hashes = [] }))) trouble
      → IsAt titles (times_checked all (one_pass check) (walked start)) trouble
  passing_refused titles left now NoMemory before e = tt
  passing_refused titles left now (Fault at) before e =
      sym before.checked ∙ ap (λ (c : Checked). then_check c (times_checked left (one_pass check))) e

  -- all of them
  passing_ends : (now : Walk) → IsPassing check f p all start 0 now
      → Steps (times_checked all (one_pass check)) (passes_at f p all start.args) start now
  passing_ends now e = record { checked = sym e.checked; out = e.out; args = e.args }

-- the number of those left goes down by one
one_less : (count k : ℕ) → k < count → count - k ≡ suc (count - (k + 1))
one_less count k e = omega (arith, e)

none_less : (count k : ℕ) → count ≤ k → count - k ≡ 0
none_less count k e = omega (arith, e)

module _ (names : Names) (scope : PatternScope) (inside : HeldStanding) (line : ℕ) (count : ℕ) (body : Written) (start : Walk) where
  abbrev there : Origin
  there = origin (body_of inside.body) line

  abbrev check_it : Walked → Checked
  check_it = pass_check names scope inside body

  abbrev tree_of : Spot → Piece
  tree_of = pass_flat names scope inside body

  abbrev Left : ℕ → Walk → Type 0
  Left left now = ArePassing names scope inside line count body start left now

  -- a pass of statements more; where they begin makes no difference
  pub passes_go_on : (k : ℕ) (hashes : List ℕ) (references : References) (now after : Walk) → k < count → hashes ≡ [] → Left (count - k) now
      → Steps check_it (flat_at (setting_in names scope) (flat_named names scope inside) (named_in names scope inside body) now.args)
      (record now { hashes = hashes; references = references }) after
      → Left (count - (k + 1)) after
  passes_go_on k hashes references now after few none before e =
      let sc = scope_in names scope in
      let t = setting_in names scope in
      let f = flat_named names scope inside in
      let kind = body_of inside.body in
      let from = origin of_pattern 0 in
      let piece = flat_at t f (named_in names scope inside body) now.args in
      passing_step check_it tree_of there count start (count - (k + 1)) piece now after
      (flat-anywhere sc t f kind body now.args from there) (args-anywhere sc t f kind body now.args from there)
      (subst (λ n. Left n now) (one_less count k few) before)
      (steps_noted check_it piece (record now { hashes = [] }) after references after.references
      (subst (λ (xs : List ℕ). Steps check_it piece (record now { hashes = xs; references = references }) after) none e))

  -- one that has a fault
  pub passes_stop : (titles : Titles) (k : ℕ) (hashes : List ℕ) (now : Walk) (trouble : Trouble) → k < count → hashes ≡ []
      → Left (count - k) now → IsAt titles (check_it (walked (record now { hashes = hashes }))) trouble
      → IsAt titles (times_checked count (one_pass check_it) (walked start)) trouble
  passes_stop titles k hashes now trouble few none before e =
      passing_refused check_it tree_of there count start titles (count - (k + 1)) now trouble
      (subst (λ n. Left n now) (one_less count k few) before)
      (subst (λ (xs : List ℕ). IsAt titles (check_it (walked (record now { hashes = xs }))) trouble) none e)

  -- all of them
  pub passes_end : (k : ℕ) (references : References) (now : Walk) → count ≤ k → Left (count - k) now
      → Steps (times_checked count (one_pass check_it)) (passes_at tree_of there count start.args) start
      (record now { references = references })
  passes_end k references now all before =
      steps_noted (times_checked count (one_pass check_it)) (passes_at tree_of there count start.args) start now start.references
      references
      (passing_ends check_it tree_of there count start now (subst (λ n. Left n now) (none_less count k all) before))

module _ (sc : Scope) (inner : Standing → Written → Walked → Checked) (f : Spot → Piece) (s : Standing) (line : ℕ) (body : Written)
    (may : may_shift s ≡ true) where
  abbrev outs : List Bool
  outs = outs_of sc.names

  abbrev signals : List ℕ
  signals = takers_in sc s body

  abbrev checks : Bool → Walked → Checked
  checks without = check_list sc inner (inside_shift without s) body

  abbrev check : Walked → Checked
  check now = check_passes (passes signals now.args) checks (columns outs signals now.args) now

  abbrev whole : Walked → Checked
  whole = rule (may_shift s) (fault_on sc s line ShiftForm) check

  abbrev tree : List Argument → Piece
  tree args = shift_piece (record { args = args; place = origin s.body line })
      (passes_at f (origin s.body line) (passes signals args) (columns outs signals args))

  -- a Shift that may stand there
  allowed : (w : Walked) → whole w ≡ check w
  allowed w = not_ruled_out (may_shift s) (fault_on sc s line ShiftForm) check w may

  -- a Shift without a pass
  without_a_pass : (piece : Piece) (before after : Walk) (out : Flat) → passes signals before.args ≡ 0
      → Steps (checks true) piece (record before { hashes = []; out = done }) after
      → out ≡ joined before.out (save false done done)
      → Steps whole (tree before.args) before (record after { hashes = before.hashes; out = out })
  without_a_pass piece before after out none e is =
      let began : Walk = record before { hashes = []; out = done } in
      let same : after.args ≡ before.args
      = shift-args sc inner (inside_shift true s) body (walked began) (walked after) refl none e.checked in
      let made = λ (n : ℕ). passes_at f (origin s.body line) n (columns outs signals before.args) in
      record {
        checked =
            allowed (walked before)
            ∙ ap (λ n. check_passes n checks (columns outs signals before.args) (walked before)) none
            ∙ ap (back_from (walked before)) e.checked
            ∙ ap (λ (args : List Argument). fine (record { args = args; hashes = before.hashes; count = after.count })) (sym same);
        out = λ more.
            puts before.out (save false done done) out (kept more) is
            ∙ ap (λ n. then_kept before.out (joined (save false (made n).flat done) more)) (sym none);
        args = same ∙ sym (columns-none outs signals before.args none) ∙ ap (λ n. (made n).spot.args) (sym none);
      }

  -- the same, as its hashes and its tree are set aside and put back
  pub without_steps : (piece : Piece) (cleared hashes : List ℕ) (empty kept wrote out : Flat) (before after : Walk)
      → passes signals before.args ≡ 0 → cleared ≡ [] → empty ≡ done
      → Steps (checks true) piece (record before { hashes = cleared; out = empty }) after
      → hashes ≡ before.hashes → out ≡ joined kept (save false wrote done) → wrote ≡ done → kept ≡ before.out
      → Steps whole (tree before.args) before (record after { hashes = hashes; out = out })
  without_steps piece cleared hashes empty kept wrote out before after none clears starts e back is was keeps =
      let begun = λ (xs : List ℕ) (flat : Flat). Steps (checks true) piece (record before { hashes = xs; out = flat }) after in
      subst (λ (xs : List ℕ). Steps whole (tree before.args) before (record after { hashes = xs; out = out })) (sym back)
      (without_a_pass piece before after out none
      (subst (λ (flat : Flat). begun [] flat) starts (subst (λ (xs : List ℕ). begun xs empty) clears e))
      (is ∙ ap (λ (flat : Flat). joined kept (save false flat done)) was ∙ ap (λ (flat : Flat). joined flat (save false done done)) keeps))

  -- where the passes of a Shift begin
  abbrev laid : Walk → Walk
  laid before = record before { args = columns outs signals before.args; out = done }

  abbrev repeated : ℕ → Walked → Checked
  repeated count = times_checked count (one_pass (checks false))

  -- a Shift with passes is checked pass by pass
  passed : (n : ℕ) (before : Walk) → passes signals before.args ≡ suc n
      → whole (walked before) ≡ repeated (suc n) (walked (laid before))
  passed n before many =
      allowed (walked before)
      ∙ ap (λ n. check_passes n checks (columns outs signals before.args) (walked before)) many

  -- and writes them
  passed_steps : (n : ℕ) (before after : Walk) (out : Flat) → passes signals before.args ≡ suc n
      → Steps (repeated (suc n)) (passes_at f (origin s.body line) (suc n) (laid before).args) (laid before) after
      → out ≡ joined before.out (save false after.out done)
      → Steps whole (tree before.args) before (record after { out = out })
  passed_steps n before after out many e is =
      let made = λ (n : ℕ). passes_at f (origin s.body line) n (laid before).args in
      let wrote : after.out ≡ kept (made (suc n)).flat
      = sym (joined-done after.out) ∙ e.out done ∙ ap kept (joined-done (made (suc n)).flat) in
      record {
        checked = passed n before many ∙ e.checked;
        out = λ more.
            puts before.out (save false after.out done) out (kept more) is
            ∙ ap (λ (flat : Flat). joined before.out (save false flat (kept more))) wrote
            ∙ ap (λ n. then_kept before.out (joined (save false (made n).flat done) more)) (sym many);
        args = e.args ∙ ap (λ n. (made n).spot.args) (sym many);
      }

  -- the same, as its tree is set aside and put back
  pub passes_steps : (count : ℕ) (args : List Argument) (empty kept wrote out : Flat) (before after : Walk) → (count ≡ 0 → ⊥)
      → passes signals before.args ≡ count → args ≡ columns outs signals before.args → empty ≡ done
      → Steps (repeated count) (passes_at f (origin s.body line) count args) (record before { args = args; out = empty }) after
      → out ≡ joined kept (save false wrote done) → wrote ≡ after.out → kept ≡ before.out
      → Steps whole (tree before.args) before (record after { out = out })
  passes_steps zero args empty kept wrote out before after some many lays none e is was keeps = absurd (some refl)
  passes_steps (suc n) args empty kept wrote out before after some many lays none e is was keeps =
      let at = λ (args : List Argument) (flat : Flat). Steps (repeated (suc n)) (passes_at f (origin s.body line) (suc n) args) (record before { args = args; out = flat }) after in
      passed_steps n before after out many
      (subst (λ (flat : Flat). at (laid before).args flat) none (subst (λ (args : List Argument). at args empty) lays e))
      (is ∙ ap (λ (flat : Flat). joined kept (save false flat done)) was
      ∙ ap (λ (flat : Flat). joined flat (save false after.out done)) keeps)

  -- a Shift with a pass that has a fault
  pub passes_refused : (titles : Titles) (count : ℕ) (args : List Argument) (before : Walk) (trouble : Trouble) → (count ≡ 0 → ⊥)
      → passes signals before.args ≡ count → args ≡ columns outs signals before.args
      → IsAt titles (repeated count (record { args = args; hashes = before.hashes; count = before.count })) trouble
      → IsAt titles (whole (walked before)) trouble
  passes_refused titles count args before NoMemory some many lays e = tt
  passes_refused titles zero args before (Fault at) some many lays e = absurd (some refl)
  passes_refused titles (suc n) args before (Fault at) some many lays e =
      passed n before many
      ∙ ap (λ (args : List Argument). repeated (suc n) (record { args = args; hashes = before.hashes; count = before.count })) (sym lays)
      ∙ e
