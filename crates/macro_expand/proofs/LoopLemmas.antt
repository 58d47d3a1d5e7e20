-- A Loop leaves the arguments as they are, since no `#` and no Shift stands in it, and bodies that are named have their own.
use Rattle.std.proofs.Common.{◌≡◌, ℕ, Bool, true, not, List, [], ◌∷◌, refl, ap, ◌∙◌, nat_lt}
use Rattle.stil_ast.specs.Data.Places.{of_pattern, of_macro, of_procedure}
use Rattle.stil_ast.specs.Data.Texts.{has_name}
use Rattle.stil_ast.specs.Data.Written.{Written, no_more, single, looped, shifted}
use Rattle.stil_ast.specs.Meaning.Arguments.{Argument}
use Rattle.stil_ast.specs.Meaning.Dealing.{deal}
use Rattle.stil_ast.specs.Meaning.Resolved.{Scope, resolved_assign, resolved_assigns, outs_of, origin, setting_of}
use Rattle.std.proofs.lemmas.Bool.{and_from}
use Rattle.stil_ast.proofs.SteadyLemmas.{not_both}
use Rattle.stil_ast.specs.Meaning.Flattening.{no_piece}
use Rattle.stil_ast.specs.Meaning.Laws.{no_hashes}
use Rattle.stil_ast.specs.Meaning.Statements.{Assign, finish, condition}
use Rattle.stil_ast.specs.Meaning.Shift.{passes, columns}
use Rattle.stil_ast.specs.Faults.AssignmentFaults.{Walked, Checked, fine, rule, bar_if, Callee, Standing, fault_on, walked_assign, check_assign, check_assigns}
use Rattle.stil_ast.specs.Faults.PatternFaults.{inside_loop, inside_shift, callee_of, check_body, check_call, check_step, counted, one_more, check_passes, is_called, may_shift, takers_in, check_list}
use Rattle.stil_ast.specs.declared.body.Assignment.{Assignment}
use Rattle.stil_ast.specs.declared.body.Step.{Step}
use Rattle.stil_ast.specs.declared.body.Step.TheVariants.{Wave, Vector, Condition, Macro, Call, BreakPoint, IddqTestPoint, Stop}
use Rattle.stil_ast.specs.declared.fault.StilKind.TheVariants.{TooLarge, ShiftForm, UnknownName}
use Rattle.stil_ast.proofs.CheckedLemmas.{then_check-fine, rule-fine, bar_if-fine, counted-fine, fine-is, check_assign-fine, check_assigns-no_hashes, check_body-fine}
use Rattle.stil_ast.proofs.FlatSteps.{steady-same}

-- assignments without a fault leave what is left of the arguments once all is dealt
pub assigns-args : (sc : Scope) (s : Standing) (assigns : List Assignment) (w v : Walked)
    → check_assigns sc s assigns w ≡ fine v → v.args ≡ (deal (resolved_assigns sc.names assigns) w.args).args
assigns-args sc s [] w v e = ap (λ (x : Walked). x.args) (fine-is w v e)
assigns-args sc s (d ∷ assigns) w v e =
    let first = then_check-fine (check_assign sc s d w) (check_assigns sc s assigns) v e in
    let a = resolved_assign sc.names d in
    let same : first.now.args ≡ (deal (a ∷ []) w.args).args
    = ap (λ (x : Walked). x.args) (fine-is (walked_assign s a w) first.now (check_assign-fine sc s d w first.now first.before).after) in
    assigns-args sc s assigns first.now v first.after
    ∙ ap (λ (args : List Argument). (deal (resolved_assigns sc.names assigns) args).args) same

-- without `#` the arguments stay
deal-same : (sc : Scope) (assigns : List Assign) (args : List Argument) → no_hashes assigns ≡ true
    → (deal assigns args).args ≡ args
deal-same sc assigns args e =
    steady-same (setting_of sc []) (λ _ spot. no_piece spot) (condition assigns finish) (and_from (no_hashes assigns) true e refl)
    (record { args = args; place = origin of_pattern 0 })

module _ (sc : Scope) (inner : Standing → Written → Walked → Checked) where
  pub call-args : (s : Standing) (line : ℕ) (c : Callee) (assigns : List Assignment) (w v : Walked)
      → check_call sc inner s line c assigns w ≡ fine v → v.args ≡ w.args
  call-args s line c assigns w v e =
      let one = rule-fine (nat_lt s.calls 64) (fault_on sc s line TooLarge) (bar_if s.in_shift (fault_on sc s line ShiftForm) (check_body sc inner s line c assigns c.found)) w v e in
      let two = bar_if-fine s.in_shift (fault_on sc s line ShiftForm) (check_body sc inner s line c assigns c.found) w v one.1 in
      let b = check_body-fine sc inner s line c assigns c.found w v two.1 in
      ap (λ (x : Walked). x.args) b.back.after

  assigns-same : (s : Standing) (assigns : List Assignment) (w v : Walked) → s.in_loop ≡ true
      → check_assigns sc s assigns w ≡ fine v → v.args ≡ w.args
  assigns-same s assigns w v within e =
      assigns-args sc s assigns w v e
      ∙ deal-same sc (resolved_assigns sc.names assigns) w.args (check_assigns-no_hashes sc s assigns w v e within)

  step-args : (s : Standing) (line : ℕ) (plain : Step) (w v : Walked) → s.in_loop ≡ true
      → check_step sc inner s line plain w ≡ fine v → v.args ≡ w.args
  step-args s line (Wave name) w v within e =
      ap (λ (x : Walked). x.args) (fine-is w v (rule-fine (has_name sc.tables name) (fault_on sc s line UnknownName) fine w v e).1)
  step-args s line (Vector assigns) w v within e = assigns-same s assigns w v within e
  step-args s line (Condition assigns) w v within e = assigns-same s assigns w v within e
  step-args s line (Macro name assigns) w v within e = call-args s line (callee_of sc of_macro name) assigns w v e
  step-args s line (Call name assigns) w v within e = call-args s line (callee_of sc of_procedure name) assigns w v e
  step-args s line BreakPoint w v within e = ap (λ (x : Walked). x.args) (fine-is w v e)
  step-args s line IddqTestPoint w v within e = ap (λ (x : Walked). x.args) (fine-is w v e)
  step-args s line Stop w v within e = ap (λ (x : Walked). x.args) (fine-is w v e)

  counted-args : (s : Standing) (line : ℕ) (plain : Step) (w v : Walked) → s.in_loop ≡ true
      → counted sc s line (check_step sc inner s line plain) w ≡ fine v → v.args ≡ w.args
  counted-args s line plain w v within e =
      step-args s line plain (one_more w) v within (counted-fine sc s line (check_step sc inner s line plain) w v e)

  -- the statements of a Loop without a fault leave the arguments as they are
  pub loop-args : (s : Standing) (body : Written) (w v : Walked) → s.in_loop ≡ true
      → check_list sc inner s body w ≡ fine v → v.args ≡ w.args
  loop-args s no_more w v within e = ap (λ (x : Walked). x.args) (fine-is w v e)
  loop-args s (single line (Wave name) rest) w v within e =
      let now = then_check-fine (counted sc s line (check_step sc inner s line (Wave name)) w) (check_list sc inner s rest) v e in
      loop-args s rest now.now v within now.after ∙ counted-args s line (Wave name) w now.now within now.before
  loop-args s (single line (Vector assigns) rest) w v within e =
      let now = then_check-fine (counted sc s line (check_step sc inner s line (Vector assigns)) w) (check_list sc inner s rest) v e in
      loop-args s rest now.now v within now.after ∙ counted-args s line (Vector assigns) w now.now within now.before
  loop-args s (single line (Condition assigns) rest) w v within e =
      let now = then_check-fine (counted sc s line (check_step sc inner s line (Condition assigns)) w) (check_list sc inner s rest) v e in
      loop-args s rest now.now v within now.after ∙ counted-args s line (Condition assigns) w now.now within now.before
  loop-args s (single line (Macro name assigns) rest) w v within e =
      let now = then_check-fine (counted sc s line (check_step sc inner s line (Macro name assigns)) w) (check_list sc inner s rest) v e in
      loop-args s rest now.now v within now.after ∙ counted-args s line (Macro name assigns) w now.now within now.before
  loop-args s (single line (Call name assigns) rest) w v within e =
      let now = then_check-fine (counted sc s line (check_step sc inner s line (Call name assigns)) w) (check_list sc inner s rest) v e in
      loop-args s rest now.now v within now.after ∙ counted-args s line (Call name assigns) w now.now within now.before
  loop-args s (single line BreakPoint rest) w v within e =
      let now = then_check-fine (counted sc s line (check_step sc inner s line BreakPoint) w) (check_list sc inner s rest) v e in
      loop-args s rest now.now v within now.after ∙ counted-args s line BreakPoint w now.now within now.before
  loop-args s (single line IddqTestPoint rest) w v within e =
      let now = then_check-fine (counted sc s line (check_step sc inner s line IddqTestPoint) w) (check_list sc inner s rest) v e in
      loop-args s rest now.now v within now.after ∙ counted-args s line IddqTestPoint w now.now within now.before
  loop-args s (single line Stop rest) w v within e = counted-args s line Stop w v within e
  loop-args s (looped line times body rest) w v in_loop e =
      let check_it = check_list sc inner (inside_loop s) body in
      let barred = bar_if s.in_shift (fault_on sc s line ShiftForm) check_it in
      let now = then_check-fine (counted sc s line (rule (nat_lt s.loops 64) (fault_on sc s line TooLarge) barred) w) (check_list sc inner s rest) v e in
      let one = counted-fine sc s line (rule (nat_lt s.loops 64) (fault_on sc s line TooLarge) barred) w now.now now.before in
      let two = rule-fine (nat_lt s.loops 64) (fault_on sc s line TooLarge) barred (one_more w) now.now one in
      let three = bar_if-fine s.in_shift (fault_on sc s line ShiftForm) check_it (one_more w) now.now two.1 in
      loop-args s rest now.now v in_loop now.after ∙ loop-args (inside_loop s) body (one_more w) now.now refl three.1
  loop-args s (shifted line body rest) w v in_loop e =
      let all = takers_in sc s body in
      let walk = λ (now : Walked). check_passes (passes all now.args) (λ (without : Bool). check_list sc inner (inside_shift without s) body) (columns (outs_of sc.names) all now.args) now in
      let now = then_check-fine (counted sc s line (rule (may_shift s) (fault_on sc s line ShiftForm) walk) w) (check_list sc inner s rest) v e in
      let one = counted-fine sc s line (rule (may_shift s) (fault_on sc s line ShiftForm) walk) w now.now now.before in
      let two = rule-fine (may_shift s) (fault_on sc s line ShiftForm) walk (one_more w) now.now one in
      absurd (not_both (is_called s.body) s.in_loop (not s.in_shift) in_loop two.0)
