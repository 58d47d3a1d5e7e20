-- A Shift without a pass leaves the arguments as they are, since nothing is left for the signals that take in it.
use Rattle.std.proofs.Common.{◌≡◌, ℕ, ◌&&◌, Bool, true, false, not, List, [], ◌∷◌, ◌++◌, ◌⊎◌, inl, inr, refl, ap, sym, ◌∙◌, arith, length, nat_lt, slice_index_or, slice_set}
use Rattle.std.proofs.lemmas.Bool.{and_parts, not-true}
use Rattle.std.proofs.lemmas.List.{set-get_or}
use Rattle.stil_ast.specs.Data.Places.{of_macro, of_procedure}
use Rattle.stil_ast.specs.Data.Texts.{has_name}
use Rattle.stil_ast.specs.Data.Written.{Written, no_more, single, looped, shifted}
use Rattle.stil_ast.specs.Meaning.Arguments.{Entry, Argument, argument_of, no_argument, one_taken, next_taken}
use Rattle.stil_ast.specs.Meaning.Dealing.{deal, deal_pairs, hashed, spread, takers}
use Rattle.stil_ast.specs.Meaning.Resolved.{Scope, outs_of, resolved, resolved_assigns, resolved_step}
use Rattle.stil_ast.specs.Meaning.Shift.{taking, passes, column, with_column, with_columns, columns}
use Rattle.stil_ast.specs.Meaning.Statements.{Item, a_character, hash, percent, Assign, Statements}
use Rattle.stil_ast.specs.Faults.AssignmentFaults.{Walked, Checked, fine, rule, bar_if, Standing, fault_on, check_assigns}
use Rattle.stil_ast.specs.Faults.PatternFaults.{inside_loop, inside_shift, callee_of, behind_step, check_step, counted, one_more, check_passes, is_called, may_shift, takers_in, check_list}
use Rattle.stil_ast.specs.declared.body.Assignment.{Assignment}
use Rattle.stil_ast.specs.declared.body.Step.{Step}
use Rattle.stil_ast.specs.declared.body.Step.TheVariants.{Wave, Vector, Condition, Macro, Call, BreakPoint, IddqTestPoint, Stop}
use Rattle.stil_ast.specs.declared.fault.StilKind.TheVariants.{TooLarge, ShiftForm, UnknownName}
use Rattle.stil_ast.proofs.CheckedLemmas.{then_check-fine, rule-fine, bar_if-fine, counted-fine, fine-is}
use Rattle.macro_expand.proofs.LoopLemmas.{assigns-args, call-args}

-- of signals and others of which nothing is left, nothing is left of either
passes-parts : (signals more : List ℕ) (args : List Argument) → passes (signals ++ more) args ≡ 0
    → (passes signals args ≡ 0) × (passes more args ≡ 0)
passes-parts [] more args e = (refl, e)
passes-parts (signal ∷ signals) more args e =
    let n = length (argument_of args signal).left in
    let rest = passes-parts signals more args (omega (arith, e)) in
    let first = rest.0 in
    (omega (arith, e, first), rest.1)

none_left : (left : List Entry) → length left ≡ 0 → left ≡ []
none_left [] e = refl
none_left (entry ∷ left) e = absurd (omega (arith, e))

-- an argument of which nothing is left has no column
same_column : (out : Bool) (a : Argument) → length a.left ≡ 0 → column out 0 a.left ≡ a.left
same_column true a e = ap (column true 0) (none_left a.left e) ∙ sym (none_left a.left e)
same_column false a e = ap (column false 0) (none_left a.left e) ∙ sym (none_left a.left e)

with_column-none : (outs : List Bool) (signal : ℕ) (args : List Argument) → length (argument_of args signal).left ≡ 0
    → with_column outs 0 signal args ≡ args
with_column-none outs signal args e =
    let a = argument_of args signal in
    ap (λ (left : List Entry). slice_set args signal (record { left = left; taken = a.taken }))
    (same_column (slice_index_or outs signal false) a e)
    ∙ set-get_or args signal no_argument

with_columns-none : (outs : List Bool) (signals : List ℕ) (args : List Argument) → passes signals args ≡ 0
    → with_columns outs 0 signals args ≡ args
with_columns-none outs [] args e = refl
with_columns-none outs (signal ∷ signals) args e =
    let first : with_column outs 0 signal args ≡ args = with_column-none outs signal args (omega (arith, e)) in
    ap (with_columns outs 0 signals) first ∙ with_columns-none outs signals args (omega (arith, e))

-- without a pass the columns are what is left
pub columns-none : (outs : List Bool) (signals : List ℕ) (args : List Argument) → passes signals args ≡ 0
    → columns outs signals args ≡ args
columns-none outs signals args e =
    ap (λ n. with_columns outs n signals args) e ∙ with_columns-none outs signals args e

-- and nothing is taken of it
next_taken-none : (args : List Argument) (signal : ℕ) → length (argument_of args signal).left ≡ 0 → next_taken args signal ≡ args
next_taken-none args signal e =
    ap (λ (left : List Entry). slice_set args signal (one_taken (argument_of args signal) left))
    (none_left (argument_of args signal).left e)
    ∙ set-get_or args signal no_argument

-- data leave the arguments as they are, where nothing is left for the signals that take
deal_pairs-none : (signals : List ℕ) (items : List Item) (args : List Argument) → passes (hashed signals items) args ≡ 0
    → (deal_pairs signals items args).args ≡ args
deal_pairs-none [] items args e = refl
deal_pairs-none (signal ∷ signals) [] args e = refl
deal_pairs-none (signal ∷ signals) (a_character c ∷ items) args e = deal_pairs-none signals items args e
deal_pairs-none (signal ∷ signals) (hash ∷ items) args e =
    ap (λ (now : List Argument). (deal_pairs signals items now).args) (next_taken-none args signal (omega (arith, e)))
    ∙ deal_pairs-none signals items args (omega (arith, e))
deal_pairs-none (signal ∷ signals) (percent ∷ items) args e = deal_pairs-none signals items args e

pub deal-none : (assigns : List Assign) (args : List Argument) → passes (takers assigns) args ≡ 0
    → (deal assigns args).args ≡ args
deal-none [] args e = refl
deal-none (a ∷ rest) args e =
    let parts = passes-parts (hashed a.signals (spread a.signals a.items)) (takers rest) args e in
    ap (λ (now : List Argument). (deal rest now).args) (deal_pairs-none a.signals (spread a.signals a.items) args parts.0)
    ∙ deal-none rest args parts.1

-- behind a statement come the others, or none behind a Stop
behind_step-fine : (plain : Step) (c : Checked) (next : Walked → Checked) (v : Walked) → behind_step plain c next ≡ fine v
    → (now : Walked) × (c ≡ fine now) × ((now ≡ v) ⊎ (next now ≡ fine v))
behind_step-fine Stop c next v e = (v, e, inl refl)
behind_step-fine (Wave name) c next v e = let b = then_check-fine c next v e in (b.now, b.before, inr b.after)
behind_step-fine (Vector assigns) c next v e = let b = then_check-fine c next v e in (b.now, b.before, inr b.after)
behind_step-fine (Condition assigns) c next v e = let b = then_check-fine c next v e in (b.now, b.before, inr b.after)
behind_step-fine (Macro name assigns) c next v e = let b = then_check-fine c next v e in (b.now, b.before, inr b.after)
behind_step-fine (Call name assigns) c next v e = let b = then_check-fine c next v e in (b.now, b.before, inr b.after)
behind_step-fine BreakPoint c next v e = let b = then_check-fine c next v e in (b.now, b.before, inr b.after)
behind_step-fine IddqTestPoint c next v e = let b = then_check-fine c next v e in (b.now, b.before, inr b.after)

module _ (sc : Scope) (inner : Standing → Written → Walked → Checked) where
  -- assignments, and what stands behind them
  assigns-none : (s : Standing) (assigns : List Assignment) (rest : Statements) (w v : Walked)
      → passes (takers (resolved_assigns sc.names assigns) ++ taking rest) w.args ≡ 0 → check_assigns sc s assigns w ≡ fine v
      → (v.args ≡ w.args) × (passes (taking rest) w.args ≡ 0)
  assigns-none s assigns rest w v none e =
      let known = resolved_assigns sc.names assigns in
      let parts = passes-parts (takers known) (taking rest) w.args none in
      (assigns-args sc s assigns w v e ∙ deal-none known w.args parts.0, parts.1)

  -- a statement without statements in it
  step-none : (s : Standing) (line : ℕ) (plain : Step) (rest : Statements) (w v : Walked)
      → passes (taking (resolved_step sc plain rest)) w.args ≡ 0 → check_step sc inner s line plain w ≡ fine v
      → (v.args ≡ w.args) × (passes (taking rest) w.args ≡ 0)
  step-none s line (Wave name) rest w v none e =
      (ap (λ (x : Walked). x.args) (fine-is w v (rule-fine (has_name sc.tables name) (fault_on sc s line UnknownName) fine w v e).1), none)
  step-none s line (Vector assigns) rest w v none e = assigns-none s assigns rest w v none e
  step-none s line (Condition assigns) rest w v none e = assigns-none s assigns rest w v none e
  step-none s line (Macro name assigns) rest w v none e =
      (call-args sc inner s line (callee_of sc of_macro name) assigns w v e, none)
  step-none s line (Call name assigns) rest w v none e =
      (call-args sc inner s line (callee_of sc of_procedure name) assigns w v e, none)
  step-none s line BreakPoint rest w v none e = (ap (λ (x : Walked). x.args) (fine-is w v e), none)
  step-none s line IddqTestPoint rest w v none e = (ap (λ (x : Walked). x.args) (fine-is w v e), none)
  step-none s line Stop rest w v none e = (ap (λ (x : Walked). x.args) (fine-is w v e), none)

  -- the statements of a Shift without a fault leave the arguments as they are, where nothing is left for its signals
  pub shift-args : (s : Standing) (body : Written) (w v : Walked) → s.in_shift ≡ true
      → passes (taking (resolved sc s.body body)) w.args ≡ 0 → check_list sc inner s body w ≡ fine v → v.args ≡ w.args
  shift-args s no_more w v within none e = ap (λ (x : Walked). x.args) (fine-is w v e)
  shift-args s (single line plain rest) w v within none e =
      let b = behind_step-fine plain (counted sc s line (check_step sc inner s line plain) w) (check_list sc inner s rest) v e in
      let first = step-none s line plain (resolved sc s.body rest) (one_more w) b.0 none
      (counted-fine sc s line (check_step sc inner s line plain) w b.0 b.1) in
      elim b.2 [
        | inl same ↦ ap (λ (x : Walked). x.args) (sym same) ∙ first.0
        | inr after ↦
            shift-args s rest b.0 v within (ap (passes (taking (resolved sc s.body rest))) first.0 ∙ first.1) after ∙ first.0
      ]
  shift-args s (looped line times body rest) w v within none e =
      let check_it = check_list sc inner (inside_loop s) body in
      let barred = bar_if s.in_shift (fault_on sc s line ShiftForm) check_it in
      let now = then_check-fine (counted sc s line (rule (nat_lt s.loops 64) (fault_on sc s line TooLarge) barred) w) (check_list sc inner s rest) v e in
      let one = counted-fine sc s line (rule (nat_lt s.loops 64) (fault_on sc s line TooLarge) barred) w now.now now.before in
      let two = rule-fine (nat_lt s.loops 64) (fault_on sc s line TooLarge) barred (one_more w) now.now one in
      let three = bar_if-fine s.in_shift (fault_on sc s line ShiftForm) check_it (one_more w) now.now two.1 in
      let clash : true ≡ false = sym within ∙ three.0 in cc
  shift-args s (shifted line body rest) w v within none e =
      let all = takers_in sc s body in
      let walk = λ (now : Walked). check_passes (passes all now.args) (λ (without : Bool). check_list sc inner (inside_shift without s) body) (columns (outs_of sc.names) all now.args) now in
      let now = then_check-fine (counted sc s line (rule (may_shift s) (fault_on sc s line ShiftForm) walk) w) (check_list sc inner s rest) v e in
      let one = counted-fine sc s line (rule (may_shift s) (fault_on sc s line ShiftForm) walk) w now.now now.before in
      let two = rule-fine (may_shift s) (fault_on sc s line ShiftForm) walk (one_more w) now.now one in
      let outside = not-true s.in_shift (and_parts (is_called s.body && not s.in_loop) (not s.in_shift) two.0).1 in
      let clash : true ≡ false = sym within ∙ outside in cc
