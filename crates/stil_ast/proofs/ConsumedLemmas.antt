-- No more characters of an argument are taken than statements and signals are walked.
use Rattle.std.proofs.Common.{◌≡◌, ℕ, zero, suc, ◌+◌, ◌^◌, ◌≤◌, Bool, true, false, List, [], ◌∷◌, refl, ap, sym, subst, arith, length, slice_index_or, nat_lt}
use Rattle.std.proofs.lemmas.Bool.{cond_both, leb-true}
use Rattle.stil_ast.specs.Data.Places.{of_macro, of_procedure}
use Rattle.stil_ast.specs.Meaning.Statements.{Item, a_character, hash, percent, Assign}
use Rattle.stil_ast.specs.Meaning.Arguments.{Argument, argument_of, one_taken, next_taken}
use Rattle.stil_ast.specs.Meaning.Dealing.{deal_item, deal_pairs, spread, has_signal, mark_of}
use Rattle.stil_ast.specs.Meaning.Shift.{passes, column, with_column, with_columns, columns}
use Rattle.stil_ast.specs.Meaning.Resolved.{Scope, resolved_assign, outs_of}
use Rattle.stil_ast.specs.Data.Written.{Written, no_more, single, looped, shifted}
use Rattle.stil_ast.specs.Faults.AssignmentFaults.{Walked, Checked, fine, then_check, rule, bar_if, Callee, Standing, fault_on, may_walk, walked_assign, check_assign, check_assigns, walked_argument, check_argument, check_arguments}
use Rattle.stil_ast.specs.Faults.PatternFaults.{inside_loop, inside_shift, callee_of, check_body, check_call, check_step, counted, one_more, times_checked, no_hashes_yet, one_pass, check_passes, may_shift, takers_in, behind_step, check_list, check_calls}
use Rattle.stil_ast.specs.Faults.CheckedLaws.{IsConsumedWithin, Walks}
use Rattle.stil_ast.specs.declared.body.Assignment.{Assignment}
use Rattle.stil_ast.specs.declared.body.Step.{Step}
use Rattle.stil_ast.specs.declared.body.Step.TheVariants.{Wave, Vector, Condition, Macro, Call, BreakPoint, IddqTestPoint, Stop}
use Rattle.stil_ast.specs.declared.fault.StilKind.TheVariants.{TooLarge, ShiftForm, UnknownName}
use Rattle.stil_ast.proofs.ArgumentLemmas.{taken_at, set-within, one_taken-taken}
use Rattle.stil_ast.proofs.CheckedLemmas.{then_check-fine, rule-fine, bar_if-fine, counted-fine, counted-few, fine-is, back_from-fine, check_assign-fine, check_argument-fine, check_body-fine}

take-taken : (args : List Argument) (s signal : ℕ) → taken_at (next_taken args s) signal ≤ taken_at args signal + 1
take-taken args s signal =
    let a = argument_of args s in
    set-within (λ (a : Argument). a.taken) refl args s signal (one_taken a a.left) (taken_at args signal + 1)
    (λ same. let one = one_taken-taken a a.left in let there : taken_at args s ≡ taken_at args signal = ap (taken_at args) same in omega (arith, one, there))
    (omega arith)

deal_item-taken : (item : Item) (s : ℕ) (args : List Argument) (signal : ℕ)
    → taken_at (deal_item item s args).args signal ≤ taken_at args signal + 1
deal_item-taken (a_character c) s args signal = omega arith
deal_item-taken hash s args signal = take-taken args s signal
deal_item-taken percent s args signal = omega arith

-- each signal of a reference takes one at most
deal_pairs-taken : (signals : List ℕ) (items : List Item) (args : List Argument) (signal : ℕ)
    → taken_at (deal_pairs signals items args).args signal ≤ taken_at args signal + length signals
deal_pairs-taken [] items args signal = omega arith
deal_pairs-taken (s ∷ signals) [] args signal = omega arith
deal_pairs-taken (s ∷ signals) (item ∷ items) args signal =
    let first = deal_item-taken item s args signal in
    let later = deal_pairs-taken signals items (deal_item item s args).args signal in
    omega (arith, first, later)

-- columns take nothing
with_columns-taken : (outs : List Bool) (count : ℕ) (signals : List ℕ) (args : List Argument) (signal : ℕ)
    → taken_at (with_columns outs count signals args) signal ≤ taken_at args signal
with_columns-taken outs count [] args signal = omega arith
with_columns-taken outs count (s ∷ signals) args signal =
    let a = argument_of args s in
    let first = set-within (λ (a : Argument). a.taken) refl args s signal (record { left = column (slice_index_or outs s false) count a.left; taken = a.taken }) (taken_at args signal)
    (λ same. let there : taken_at args s ≡ taken_at args signal = ap (taken_at args) same in omega (arith, there))
    (omega arith) in
    let later = with_columns-taken outs count signals (with_column outs count s args) signal in
    omega (arith, first, later)

walks_on : (a b c : Walked) → Walks a b → Walks b c → Walks a c
walks_on a b c first next = record {
  grows = let one = first.grows in let two = next.grows in omega (arith, one, two);
  limit = λ within. next.limit (first.limit within);
  consumed = λ within. next.consumed (first.consumed within);
}

stays : (w : Walked) → Walks w w
stays w = record { grows = omega arith; limit = λ within. within; consumed = λ within. within }

-- what comes out of a check is what its end says
ends_as : (w : Walked) (a b : Walked) → b ≡ a → Walks w a → Walks w b
ends_as w a b e walks = subst (λ (x : Walked). Walks w x) (sym e) walks

assign_walks : (s : Standing) (a : Assign) (w : Walked) → may_walk (w.count + length a.signals) ≡ true
    → Walks w (walked_assign s a w)
assign_walks s a w few = record {
  grows = omega arith;
  limit = λ _. leb-true (w.count + length a.signals) (2 ^ 26) few;
  consumed = λ within signal.
      let before = within signal in
      let taken = deal_pairs-taken a.signals (spread a.signals a.items) w.args signal in
      omega (arith, before, taken);
}

pub assigns_walk : (scope : Scope) (s : Standing) (assigns : List Assignment) (w v : Walked)
    → check_assigns scope s assigns w ≡ fine v → Walks w v
assigns_walk scope s [] w v e = ends_as w w v (fine-is w v e) (stays w)
assigns_walk scope s (d ∷ assigns) w v e =
    let first = then_check-fine (check_assign scope s d w) (check_assigns scope s assigns) v e in
    let a = resolved_assign scope.names d in
    let checked = check_assign-fine scope s d w first.now first.before in
    let is = fine-is (walked_assign s a w) first.now checked.after in
    walks_on w first.now v (ends_as w (walked_assign s a w) first.now is (assign_walks s a w checked.few)) (assigns_walk scope s assigns first.now v first.after)

argument_walks : (a : Assign) (w : Walked) → may_walk (w.count + length a.signals) ≡ true
    → Walks w (walked_argument a w)
argument_walks a w few = record {
  grows = omega arith;
  limit = λ _. leb-true (w.count + length a.signals) (2 ^ 26) few;
  consumed = λ within signal. let before = within signal in omega (arith, before);
}

arguments_walk : (scope : Scope) (s : Standing) (assigns : List Assignment) (w v : Walked)
    → check_arguments scope s assigns w ≡ fine v → Walks w v
arguments_walk scope s [] w v e = ends_as w w v (fine-is w v e) (stays w)
arguments_walk scope s (d ∷ assigns) w v e =
    let first = then_check-fine (check_argument scope s d w) (check_arguments scope s assigns) v e in
    let a = resolved_assign scope.names d in
    let is = check_argument-fine scope s d w first.now first.before in
    walks_on w first.now v (ends_as w (walked_argument a w) first.now is.0 (argument_walks a w is.1)) (arguments_walk scope s assigns first.now v first.after)

one_more_walks : (w : Walked) → may_walk (w.count + 1) ≡ true → Walks w (one_more w)
one_more_walks w few = record {
  grows = omega arith;
  limit = λ _. leb-true (w.count + 1) (2 ^ 26) few;
  consumed = λ within signal. let before = within signal in omega (arith, before);
}

-- back in the caller, whose arguments are as they were
back_walks : (w now : Walked) → w.count ≤ now.count → (w.count ≤ 2 ^ 26 → now.count ≤ 2 ^ 26)
    → Walks w (record { args = w.args; hashes = w.hashes; count = now.count })
back_walks w now grows limit = record {
  grows = grows;
  limit = limit;
  consumed = λ within signal. let before = within signal in omega (arith, before, grows);
}

columns_walk : (outs : List Bool) (signals : List ℕ) (w : Walked)
    → Walks w (no_hashes_yet (columns outs signals w.args) w)
columns_walk outs signals w = record {
  grows = omega arith;
  limit = λ within. within;
  consumed = λ within signal.
      let before = within signal in
      let taken = with_columns-taken outs (passes signals w.args) signals w.args signal in
      omega (arith, before, taken);
}

same_args_walk : (w : Walked) → Walks w (no_hashes_yet w.args w)
same_args_walk w = record { grows = omega arith; limit = λ within. within; consumed = λ within. within }

-- a check that goes on from each point to such a point
abbrev GoesOn : (Walked → Checked) → Type 0
GoesOn f = (w v : Walked) → f w ≡ fine v → Walks w v

times_walk : (n : ℕ) (f : Walked → Checked) → GoesOn f → GoesOn (times_checked n (one_pass f))
times_walk zero f on w v e = ends_as w w v (fine-is w v e) (stays w)
times_walk (suc n) f on w v e =
    let first = then_check-fine (one_pass f w) (times_checked n (one_pass f)) v e in
    let begin = no_hashes_yet w.args w in
    walks_on w begin v (same_args_walk w) (walks_on begin first.now v (on begin first.now first.before) (times_walk n f on first.now v first.after))

passes_walk : (n : ℕ) (f : Bool → Walked → Checked) → ((b : Bool) → GoesOn (f b)) → (outs : List Bool) (signals : List ℕ) (w v : Walked)
    → check_passes n f (columns outs signals w.args) w ≡ fine v → Walks w v
passes_walk zero f on outs signals w v e =
    let b = back_from-fine w (one_pass (f true) w) v e in
    let inside = on true (no_hashes_yet w.args w) b.now b.before in
    ends_as w _ v b.after (back_walks w b.now (let grows = inside.grows in omega (arith, grows)) inside.limit)
passes_walk (suc n) f on outs signals w v e =
    let begin = no_hashes_yet (columns outs signals w.args) w in
    walks_on w begin v (columns_walk outs signals w) (times_walk (suc n) (f false) (on false) begin v e)

module _ (scope : Scope) (inner : Standing → Written → Walked → Checked) (on : (s : Standing) (body : Written) → GoesOn (inner s body)) where
  call_walks : (s : Standing) (line : ℕ) (c : Callee) (assigns : List Assignment)
      → GoesOn (check_call scope inner s line c assigns)
  call_walks s line c assigns w v e =
      let one = rule-fine (nat_lt s.calls 64) (fault_on scope s line TooLarge) (bar_if s.in_shift (fault_on scope s line ShiftForm) (check_body scope inner s line c assigns c.found)) w v e in
      let two = bar_if-fine s.in_shift (fault_on scope s line ShiftForm) (check_body scope inner s line c assigns c.found) w v one.1 in
      let b = check_body-fine scope inner s line c assigns c.found w v two.1 in
      let given = arguments_walk scope s assigns w b.given b.arguments in
      let inside = on _ b.def.body _ b.back.now b.back.before in
      ends_as w _ v b.back.after (back_walks w b.back.now (let one = given.grows in let two = inside.grows in omega (arith, one, two)) (λ within. inside.limit (given.limit within)))

  step_walks : (s : Standing) (line : ℕ) (step : Step) → GoesOn (check_step scope inner s line step)
  step_walks s line (Wave name) w v e =
      ends_as w w v (fine-is w v (rule-fine _ (fault_on scope s line UnknownName) fine w v e).1) (stays w)
  step_walks s line (Vector assigns) w v e = assigns_walk scope s assigns w v e
  step_walks s line (Condition assigns) w v e = assigns_walk scope s assigns w v e
  step_walks s line (Macro name assigns) w v e = call_walks s line (callee_of scope of_macro name) assigns w v e
  step_walks s line (Call name assigns) w v e =
      call_walks s line (callee_of scope of_procedure name) assigns w v e
  step_walks s line BreakPoint w v e = ends_as w w v (fine-is w v e) (stays w)
  step_walks s line IddqTestPoint w v e = ends_as w w v (fine-is w v e) (stays w)
  step_walks s line Stop w v e = ends_as w w v (fine-is w v e) (stays w)

  counted_walks : (s : Standing) (line : ℕ) (next : Walked → Checked) → GoesOn next
      → GoesOn (counted scope s line next)
  counted_walks s line next goes w v e =
      walks_on w (one_more w) v (one_more_walks w (counted-few scope s line next w v e)) (goes (one_more w) v (counted-fine scope s line next w v e))

  then_walks : (c : Checked) (next : Walked → Checked) (w v : Walked)
      → ((u : Walked) → c ≡ fine u → Walks w u) → GoesOn next → then_check c next ≡ fine v → Walks w v
  then_walks c next w v first goes e =
      let now = then_check-fine c next v e in
      walks_on w now.now v (first now.now now.before) (goes now.now v now.after)

  -- behind a Stop there is nothing, and behind all else the rest
  behind_walks : (step : Step) (c : Checked) (next : Walked → Checked) (w v : Walked)
      → ((u : Walked) → c ≡ fine u → Walks w u) → GoesOn next → behind_step step c next ≡ fine v → Walks w v
  behind_walks Stop c next w v first goes e = first v e
  behind_walks (Wave name) c next w v first goes e = then_walks c next w v first goes e
  behind_walks (Vector assigns) c next w v first goes e = then_walks c next w v first goes e
  behind_walks (Condition assigns) c next w v first goes e = then_walks c next w v first goes e
  behind_walks (Macro name assigns) c next w v first goes e = then_walks c next w v first goes e
  behind_walks (Call name assigns) c next w v first goes e = then_walks c next w v first goes e
  behind_walks BreakPoint c next w v first goes e = then_walks c next w v first goes e
  behind_walks IddqTestPoint c next w v first goes e = then_walks c next w v first goes e

  list_walks : (s : Standing) (body : Written) → GoesOn (check_list scope inner s body)
  list_walks s no_more w v e = ends_as w w v (fine-is w v e) (stays w)
  list_walks s (single line step rest) w v e =
      behind_walks step (counted scope s line (check_step scope inner s line step) w) (check_list scope inner s rest) w v
      (λ u now. counted_walks s line (check_step scope inner s line step) (step_walks s line step) w u now)
      (list_walks s rest) e
  list_walks s (looped line times body rest) w v e =
      let check_it = check_list scope inner (inside_loop s) body in
      let barred = bar_if s.in_shift (fault_on scope s line ShiftForm) check_it in
      let next = rule (nat_lt s.loops 64) (fault_on scope s line TooLarge) barred in
      then_walks (counted scope s line next w) (check_list scope inner s rest) w v
      (λ u now. counted_walks s line next
      (λ a b f. let two = rule-fine (nat_lt s.loops 64) (fault_on scope s line TooLarge) barred a b f in
      let three = bar_if-fine s.in_shift (fault_on scope s line ShiftForm) check_it a b two.1 in
      list_walks (inside_loop s) body a b three.1) w u now)
      (list_walks s rest) e
  list_walks s (shifted line body rest) w v e =
      let all = takers_in scope s body in
      let check_it = λ (without : Bool). check_list scope inner (inside_shift without s) body in
      let walk = λ (now : Walked). check_passes (passes all now.args) check_it (columns (outs_of scope.names) all now.args) now in
      let next = rule (may_shift s) (fault_on scope s line ShiftForm) walk in
      then_walks (counted scope s line next w) (check_list scope inner s rest) w v
      (λ u now. counted_walks s line next
      (λ a b f. let two = rule-fine (may_shift s) (fault_on scope s line ShiftForm) walk a b f in
      passes_walk (passes all a.args) check_it (λ without. list_walks (inside_shift without s) body) (outs_of scope.names) all a b two.1) w u now)
      (list_walks s rest) e

pub consumed_is_walked : (scope : Scope) (depth : ℕ) (s : Standing) (body : Written) (w v : Walked)
    → check_calls scope depth s body w ≡ fine v → Walks w v
unfolding check_calls
consumed_is_walked scope zero s body w v e = ends_as w w v (fine-is w v e) (stays w)
consumed_is_walked scope (suc depth) s body w v e =
    list_walks scope (check_calls scope depth) (λ s body w v. consumed_is_walked scope depth s body w v) s body w v e

-- a mark is one of the numbers of characters taken
mark-le : (outs taking : List ℕ) (args : List Argument) (n : ℕ) → ((signal : ℕ) → taken_at args signal ≤ n)
    → mark_of outs taking args ≤ n
mark-le [] taking args n all = omega arith
mark-le (out ∷ outs) taking args n all =
    cond_both (has_signal taking out) (taken_at args out) (mark_of outs taking args) (λ (k : ℕ). k ≤ n)
    (λ e. all out) (λ e. mark-le outs taking args n all)

pub mark_is_walked : (scope : Scope) (s : Standing) (assigns : List Assignment) (w v : Walked) (outs taking : List ℕ)
    → check_assigns scope s assigns w ≡ fine v
    → Walks w v × (IsConsumedWithin w → mark_of outs taking v.args ≤ v.count)
mark_is_walked scope s assigns w v outs taking e =
    let walks = assigns_walk scope s assigns w v e in
    (walks, λ within. mark-le outs taking v.args v.count (walks.consumed within))
