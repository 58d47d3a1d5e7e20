-- What each kind of statement does where nothing in it is at fault, and where something is.
use Rattle.std.proofs.Common.{◌≡◌, ℕ, true, false, List, [], refl, ap, sym, ◌∙◌, length, replicate, nat_lt}
use Rattle.text_bytes.specs.Limits.{deepest_loops}
use Rattle.stil_ast.specs.Data.Places.{Titles}
use Rattle.stil_ast.specs.Data.Written.{Written}
use Rattle.stil_ast.specs.Meaning.Arguments.{Argument, no_argument}
use Rattle.stil_ast.specs.Meaning.Flat.{Flat, done, repeat}
use Rattle.stil_ast.specs.Meaning.Flattening.{joined, Spot, Piece, repeat_piece, macro_piece, call_piece}
use Rattle.stil_ast.specs.Meaning.Resolved.{Scope, origin, resolved_assigns}
use Rattle.stil_ast.specs.Faults.AssignmentFaults.{Walked, Checked, fine, then_check, rule, bar_if, Callee, Standing, fault_on, check_arguments}
use Rattle.stil_ast.specs.Faults.PatternFaults.{inside_loop, inside_body, back_from, with_own, check_call, check_list}
use Rattle.stil_ast.specs.declared.body.Assignment.{Assignment}
use Rattle.stil_ast.specs.declared.blocks.BodyDef.{BodyDef}
use Rattle.stil_ast.specs.declared.fault.StilKind.TheVariants.{TooLarge, ShiftForm}
use Rattle.answers.specs.declared.short.Short.TheVariants.{NoMemory, Fault}
use Rattle.macro_expand.specs.declared.walk.Walk.{Walk}
use Rattle.macro_expand.specs.Calling.{MayCall}
use Rattle.macro_expand.specs.Giving.{at_count, Gives}
use Rattle.macro_expand.specs.Refusing.{IsAt, Trouble}
use Rattle.macro_expand.specs.Stepping.{Steps}
use Rattle.flat_tree.specs.Kept.{kept, call_front}
use Rattle.flat_tree.proofs.KeptLemmas.{call_front-joined}
use Rattle.macro_expand.specs.Walks.{walked, then_kept}
use Rattle.macro_expand.proofs.FlatLemmas.{puts}
use Rattle.macro_expand.proofs.LoopLemmas.{loop-args}
use Rattle.macro_expand.proofs.NamingLemmas.{call_runs}
use Rattle.macro_expand.proofs.PlaceLemmas.{not_barred, not_ruled_out}

-- a check that has the fault of another one
pub at_same : (titles : Titles) (check other : Checked) (trouble : Trouble) → check ≡ other → IsAt titles other trouble
    → IsAt titles check trouble
at_same titles check other NoMemory e h = tt
at_same titles check other (Fault at) e h = e ∙ h

module _ (sc : Scope) (check : Standing → Written → Walked → Checked) (s : Standing) (line : ℕ) where
  abbrev here : List Argument → Spot
  here args = record { args = args; place = origin s.body line }

  -- the body of a Macro or Call, behind its arguments
  abbrev inside : Callee → List Assignment → BodyDef → List Argument → List ℕ → ℕ → Checked
  inside c assigns d args hashes count =
      back_from (at_count args hashes count) (check (inside_body c s) d.body (with_own sc assigns (at_count args hashes count)))

  behind_arguments : (c : Callee) (assigns : List Assignment) (d : BodyDef) (args : List Argument) (hashes : List ℕ) (count : ℕ) (own : Walk)
      → MayCall s c d
      → Gives (check_arguments sc s assigns) (resolved_assigns sc.names assigns) args hashes count own.count
      (replicate (length sc.names.signals) no_argument) own.args
      → own.hashes ≡ []
      → check_call sc check s line c assigns (at_count args hashes count)
      ≡ back_from (at_count args hashes count) (check (inside_body c s) d.body (walked own))
  behind_arguments c assigns d args hashes count own may gives none =
      let w = at_count args hashes count in
      let next : Walked → Checked = λ now. back_from w (check (inside_body c s) d.body (with_own sc assigns now)) in
      let same : with_own sc assigns (at_count args hashes own.count) ≡ walked own
      = ap (λ (args : List Argument). at_count args [] own.count) (sym gives.given_now)
      ∙ ap (λ (hashes : List ℕ). at_count own.args hashes own.count) (sym none) in
      call_runs sc check s line c assigns w d may.deep may.form may.found may.free
      ∙ ap (λ (x : Checked). then_check x next) gives.checked
      ∙ ap (λ (v : Walked). back_from w (check (inside_body c s) d.body v)) same

  -- a Macro or Call whose body has no fault
  pub called : (c : Callee) (assigns : List Assignment) (d : BodyDef) (args : List Argument) (hashes : List ℕ) (count : ℕ) (own after : Walk)
      → MayCall s c d
      → Gives (check_arguments sc s assigns) (resolved_assigns sc.names assigns) args hashes count own.count
      (replicate (length sc.names.signals) no_argument) own.args
      → own.hashes ≡ [] → check (inside_body c s) d.body (walked own) ≡ fine (walked after)
      → check_call sc check s line c assigns (at_count args hashes count) ≡ fine (at_count args hashes after.count)
  called c assigns d args hashes count own after may gives none inner =
      behind_arguments c assigns d args hashes count own may gives none ∙ ap (back_from (at_count args hashes count)) inner

  -- a Macro or Call whose body has a fault
  pub called_refused : (c : Callee) (assigns : List Assignment) (d : BodyDef) (args : List Argument) (hashes : List ℕ) (count : ℕ) (own : Walk) (trouble : Trouble)
      → MayCall s c d
      → Gives (check_arguments sc s assigns) (resolved_assigns sc.names assigns) args hashes count own.count
      (replicate (length sc.names.signals) no_argument) own.args
      → own.hashes ≡ [] → IsAt sc.titles (check (inside_body c s) d.body (walked own)) trouble
      → IsAt sc.titles (check_call sc check s line c assigns (at_count args hashes count)) trouble
  called_refused c assigns d args hashes count own NoMemory may gives none inner = tt
  called_refused c assigns d args hashes count own (Fault at) may gives none inner =
      behind_arguments c assigns d args hashes count own may gives none ∙ ap (back_from (at_count args hashes count)) inner

  -- a Macro or Call whose arguments have a fault
  pub arguments_refused : (c : Callee) (assigns : List Assignment) (d : BodyDef) (w : Walked) (trouble : Trouble)
      → MayCall s c d → IsAt sc.titles (check_arguments sc s assigns w) trouble
      → IsAt sc.titles (check_call sc check s line c assigns w) trouble
  arguments_refused c assigns d w NoMemory may e = tt
  arguments_refused c assigns d w (Fault at) may e =
      call_runs sc check s line c assigns w d may.deep may.form may.found may.free
      ∙ ap (λ (x : Checked). then_check x (λ now. back_from w (check (inside_body c s) d.body (with_own sc assigns now)))) e

  -- what a Macro whose body has no fault writes
  pub macro_steps : (c : Callee) (assigns : List Assignment) (piece : Piece) (before after : Walk)
      → check_call sc check s line c assigns (walked before) ≡ fine (at_count before.args before.hashes after.count)
      → ((more : Flat) → then_kept after.out more ≡ then_kept before.out (joined piece.flat more))
      → Steps (check_call sc check s line c assigns) (macro_piece (here before.args) piece) before
      (record before { count = after.count; out = after.out })
  macro_steps c assigns piece before after checks writes = record { checked = checks; out = writes; args = refl }

  -- what a Call whose body has no fault writes
  pub call_steps : (c : Callee) (assigns : List Assignment) (piece : Piece) (before after : Walk) (out : Flat)
      → check_call sc check s line c assigns (walked before) ≡ fine (at_count before.args before.hashes after.count)
      → after.out ≡ kept piece.flat → out ≡ joined before.out (call_front after.out done)
      → Steps (check_call sc check s line c assigns) (call_piece (here before.args) piece) before
      (record before { count = after.count; out = out })
  call_steps c assigns piece before after out checks is e = record {
    checked = checks;
    out = λ more.
        puts before.out (call_front after.out done) out (kept more) e
        ∙ ap (joined before.out) (call_front-joined after.out done (kept more))
        ∙ ap (λ (body : Flat). joined before.out (call_front body (kept more))) is;
    args = refl;
  }

  -- what a Loop whose body has no fault writes
  pub loop_steps : (times : ℕ) (body : Written) (piece : Piece) (before after : Walk) (out : Flat)
      → nat_lt s.loops deepest_loops ≡ true → s.in_shift ≡ false
      → check_list sc check (inside_loop s) body (walked before) ≡ fine (walked after)
      → after.out ≡ kept piece.flat → out ≡ joined before.out (repeat times after.out done)
      → Steps (rule (nat_lt s.loops deepest_loops) (fault_on sc s line TooLarge)
      (bar_if s.in_shift (fault_on sc s line ShiftForm) (check_list sc check (inside_loop s) body)))
      (repeat_piece times (here before.args) piece) before (record after { out = out })
  loop_steps times body piece before after out few form checks is e = record {
    checked =
        not_ruled_out (nat_lt s.loops deepest_loops) (fault_on sc s line TooLarge)
        (bar_if s.in_shift (fault_on sc s line ShiftForm) (check_list sc check (inside_loop s) body)) (walked before) few
        ∙ not_barred s.in_shift (fault_on sc s line ShiftForm) (check_list sc check (inside_loop s) body) (walked before) form
        ∙ checks;
    out = λ more.
        puts before.out (repeat times after.out done) out (kept more) e
        ∙ ap (λ (inside : Flat). joined before.out (repeat times inside (kept more))) is;
    args = loop-args sc check (inside_loop s) body (walked before) (walked after) refl checks;
  }
