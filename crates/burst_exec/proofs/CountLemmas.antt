-- A check of statements behind others is the check behind none of them, with its count moved on.
use Rattle.std.proofs.Common.{◌≡◌, ℕ, zero, suc, ◌+◌, Bool, true, false, List, [], ◌∷◌, Option, Some, None, refl, ap, sym, ◌∙◌, arith, length, nat_le, nat_lt}
use Rattle.std.specs.List.{list_all, list_any}
use Rattle.std.proofs.lemmas.Bool.{leb-true, le-leb}
use Rattle.text_bytes.specs.Limits.{most_walked, deepest_calls, deepest_loops}
use Rattle.stil_ast.specs.Data.Places.{of_macro, of_procedure, of_pattern}
use Rattle.stil_ast.specs.Data.Written.{Written, no_more, single, looped, shifted}
use Rattle.stil_ast.specs.Data.Texts.{has_name}
use Rattle.stil_ast.specs.Meaning.Arguments.{Argument}
use Rattle.stil_ast.specs.Meaning.Bursts.{Played}
use Rattle.stil_ast.specs.Meaning.Dealing.{is_character}
use Rattle.stil_ast.specs.Meaning.Executive.{scope_of}
use Rattle.stil_ast.specs.Meaning.Members.{reference_kind}
use Rattle.stil_ast.specs.Meaning.Resolved.{Scope, resolved, resolved_assign, outs_of}
use Rattle.stil_ast.specs.Meaning.Running.{stops}
use Rattle.stil_ast.specs.Meaning.Shift.{passes, columns}
use Rattle.stil_ast.specs.Faults.AssignmentFaults.{Walked, Checked, fine, refused, then_check, rule, bar_if, rule_kind, Callee, Standing, fault_on, may_walk, hash_misplaced, width_fits, data_there, walked_assign, check_assign, check_assigns, argument_fits, walked_argument, check_argument, check_arguments}
use Rattle.stil_ast.specs.Faults.PatternFaults.{inside_loop, inside_shift, inside_body, same_callee, callee_of, back_from, with_own, check_body, check_call, check_step, counted, one_more, times_checked, no_hashes_yet, one_pass, check_passes, may_shift, takers_in, behind_step, check_list, check_calls, check_pattern, on_top}
use Rattle.stil_ast.specs.Faults.ExecutiveFaults.{behind_pattern, check_patterns, checked_count}
use Rattle.stil_ast.specs.declared.blocks.Blocks.{Blocks}
use Rattle.stil_ast.specs.declared.blocks.BodyDef.{BodyDef}
use Rattle.stil_ast.specs.declared.body.Assignment.{Assignment}
use Rattle.stil_ast.specs.declared.body.Step.{Step}
use Rattle.stil_ast.specs.declared.body.Step.TheVariants.{Wave, Vector, Condition, Macro, Call, BreakPoint, IddqTestPoint, Stop}
use Rattle.stil_ast.specs.declared.executive.ExecDecl.{ExecDecl}
use Rattle.stil_ast.specs.declared.fault.StilFault.{StilFault}
use Rattle.stil_ast.specs.declared.fault.StilKind.{StilKind}
use Rattle.stil_ast.specs.declared.fault.StilKind.TheVariants.{TooLarge, ShiftForm, UnknownName, Cyclic, Width, NoData}
use Rattle.stil_ast.proofs.CheckedLemmas.{then_check-fine, back_from-fine, fine-is}

-- as far, with this count
abbrev with_count : Walked → ℕ → Walked
with_count w k = record { args = w.args; hashes = w.hashes; count = k }

-- so many more were walked
abbrev pub more : ℕ → Walked → Walked
more n w = with_count w (w.count + n)

-- a check behind so many fewer is fine too, and ends with so many fewer
pub record Lower (n : ℕ) (c : Checked) (v : Walked) : Type 0 where
  pub low : Walked
  pub is : c ≡ fine low
  pub above : v ≡ more n low

-- the same of a check from every point
abbrev Lowers : ℕ → (Walked → Checked) → Type 0
Lowers n f = (w v : Walked) → f (more n w) ≡ fine v → Lower n (f w) v

few_of : (most a n k : ℕ) → nat_le (a + n + k) most ≡ true → nat_le (a + k) most ≡ true
few_of most a n k e = le-leb (a + k) most (let h = leb-true (a + n + k) most e in omega (arith, h))

few : (a n k : ℕ) → may_walk (a + n + k) ≡ true → may_walk (a + k) ≡ true
few a n k e = few_of most_walked a n k e

moves : (a n k : ℕ) → a + n + k ≡ a + k + n
moves a n k = omega arith

ends : (n : ℕ) (low high v : Walked) → high ≡ more n low → fine high ≡ fine v → Lower n (fine low) v
ends n low high v same e = record { low = low; is = refl; above = fine-is high v e ∙ same }

by_rule : (n : ℕ) (b c : Bool) (fault : StilFault) (f g : Walked → Checked) (high low v : Walked)
    → (b ≡ true → c ≡ true) → rule b fault f high ≡ fine v → (f high ≡ fine v → Lower n (g low) v)
    → Lower n (rule c fault g low) v
by_rule n true true fault f g high low v passed e next = next e
by_rule n true false fault f g high low v passed e next = let h = passed refl in cc
by_rule n false c fault f g high low v passed e next = cc

by_bar : (n : ℕ) (b : Bool) (fault : StilFault) (f g : Walked → Checked) (high low v : Walked)
    → bar_if b fault f high ≡ fine v → (f high ≡ fine v → Lower n (g low) v) → Lower n (bar_if b fault g low) v
by_bar n true fault f g high low v e next = cc
by_bar n false fault f g high low v e next = next e

by_kind : (n : ℕ) (o : Option StilKind) (fault : StilKind → StilFault) (f g : Walked → Checked) (high low v : Walked)
    → rule_kind o fault f high ≡ fine v → (f high ≡ fine v → Lower n (g low) v) → Lower n (rule_kind o fault g low) v
by_kind n None fault f g high low v e next = next e
by_kind n (Some kind) fault f g high low v e next = cc

by_then : (n : ℕ) (c d : Checked) (f g : Walked → Checked) (v : Walked) → ((u : Walked) → c ≡ fine u → Lower n d u)
    → ((u : Walked) → f (more n u) ≡ fine v → Lower n (g u) v) → then_check c f ≡ fine v → Lower n (then_check d g) v
by_then n c d f g v first later e =
    let now = then_check-fine c f v e in
    let low = first now.now now.before in
    let rest = later low.low (ap f (sym low.above) ∙ now.after) in
    record { low = rest.low; is = ap (λ (x : Checked). then_check x g) low.is ∙ rest.is; above = rest.above }

by_back : (n : ℕ) (w : Walked) (c d : Checked) (v : Walked) → ((u : Walked) → c ≡ fine u → Lower n d u)
    → back_from (more n w) c ≡ fine v → Lower n (back_from w d) v
by_back n w c d v inside e =
    let b = back_from-fine (more n w) c v e in
    let low = inside b.now b.before in
    record {
      low = with_count w low.low.count;
      is = ap (back_from w) low.is;
      above = b.after ∙ ap (λ (x : Walked). with_count w x.count) low.above;
    }

assign_lowers : (n : ℕ) (scope : Scope) (s : Standing) (d : Assignment) → Lowers n (check_assign scope s d)
assign_lowers n scope s d w v e =
    let a = resolved_assign scope.names d in
    let on = fault_on scope s d.line in
    let same = ap (with_count (walked_assign s a w)) (moves w.count n (length a.signals)) in
    by_kind n (reference_kind scope.names d.reference) on _ _ (more n w) w v e
    (λ e. by_rule n (may_walk (w.count + n + length a.signals)) (may_walk (w.count + length a.signals)) (on TooLarge) _ _ (more n w) w v
    (few w.count n (length a.signals)) e
    (λ e. by_bar n (hash_misplaced s a w.hashes) (on ShiftForm) _ _ (more n w) w v e
    (λ e. by_rule n (width_fits a) (width_fits a) (on Width) _ _ (more n w) w v (λ t. t) e
    (λ e. by_rule n (data_there s a w.args) (data_there s a w.args) (on NoData) _ _ (more n w) w v (λ t. t) e
    (λ e. ends n (walked_assign s a w) (walked_assign s a (more n w)) v same e)))))

assigns_lower : (n : ℕ) (scope : Scope) (s : Standing) (assigns : List Assignment)
    → Lowers n (check_assigns scope s assigns)
assigns_lower n scope s [] w v e = ends n w (more n w) v refl e
assigns_lower n scope s (d ∷ assigns) w v e =
    by_then n (check_assign scope s d (more n w)) (check_assign scope s d w) (check_assigns scope s assigns) (check_assigns scope s assigns) v
    (λ u first. assign_lowers n scope s d w u first)
    (λ u later. assigns_lower n scope s assigns u v later) e

argument_lowers : (n : ℕ) (scope : Scope) (s : Standing) (d : Assignment) → Lowers n (check_argument scope s d)
argument_lowers n scope s d w v e =
    let a = resolved_assign scope.names d in
    let on = fault_on scope s d.line in
    let same = ap (with_count (walked_argument a w)) (moves w.count n (length a.signals)) in
    by_kind n (reference_kind scope.names d.reference) on _ _ (more n w) w v e
    (λ e. by_rule n (may_walk (w.count + n + length a.signals)) (may_walk (w.count + length a.signals)) (on TooLarge) _ _ (more n w) w v
    (few w.count n (length a.signals)) e
    (λ e. by_rule n (list_all is_character d.items) (list_all is_character d.items) (on ShiftForm) _ _ (more n w) w v (λ t. t) e
    (λ e. by_rule n (argument_fits a) (argument_fits a) (on Width) _ _ (more n w) w v (λ t. t) e
    (λ e. ends n (walked_argument a w) (walked_argument a (more n w)) v same e))))

arguments_lower : (n : ℕ) (scope : Scope) (s : Standing) (assigns : List Assignment)
    → Lowers n (check_arguments scope s assigns)
arguments_lower n scope s [] w v e = ends n w (more n w) v refl e
arguments_lower n scope s (d ∷ assigns) w v e =
    by_then n (check_argument scope s d (more n w)) (check_argument scope s d w) (check_arguments scope s assigns) (check_arguments scope s assigns) v
    (λ u first. argument_lowers n scope s d w u first)
    (λ u later. arguments_lower n scope s assigns u v later) e

counted_lowers : (n : ℕ) (scope : Scope) (s : Standing) (line : ℕ) (next : Walked → Checked) → Lowers n next
    → Lowers n (counted scope s line next)
counted_lowers n scope s line next lowers w v e =
    let same = ap (with_count w) (sym (moves w.count n 1)) in
    by_rule n (may_walk (w.count + n + 1)) (may_walk (w.count + 1)) (fault_on scope s line TooLarge)
    (λ (w : Walked). next (one_more w)) (λ (w : Walked). next (one_more w)) (more n w) w v (few w.count n 1) e
    (λ e. lowers (one_more w) v (ap next same ∙ e))

times_lower : (n k : ℕ) (f : Walked → Checked) → Lowers n f → Lowers n (times_checked k (one_pass f))
times_lower n zero f lowers w v e = ends n w (more n w) v refl e
times_lower n (suc k) f lowers w v e =
    by_then n (one_pass f (more n w)) (one_pass f w) (times_checked k (one_pass f)) (times_checked k (one_pass f)) v
    (λ u first. lowers (no_hashes_yet w.args w) u first)
    (λ u later. times_lower n k f lowers u v later) e

passes_lower : (n k : ℕ) (f : Bool → Walked → Checked) → ((b : Bool) → Lowers n (f b)) → (args : List Argument)
    → Lowers n (check_passes k f args)
passes_lower n zero f lowers args w v e =
    by_back n w (one_pass (f true) (more n w)) (one_pass (f true) w) v
    (λ u inside. lowers true (no_hashes_yet w.args w) u inside) e
passes_lower n (suc k) f lowers args w v e =
    times_lower n (suc k) (f false) (lowers false) (no_hashes_yet args w) v e

module _ (n : ℕ) (scope : Scope) (inner : Standing → Written → Walked → Checked) (lowers : (s : Standing) (body : Written) → Lowers n (inner s body)) where
  body_lowers : (s : Standing) (line : ℕ) (c : Callee) (assigns : List Assignment) (o : Option BodyDef)
      → Lowers n (check_body scope inner s line c assigns o)
  body_lowers s line c assigns None w v e = cc
  body_lowers s line c assigns (Some d) w v e =
      let own = λ (w now : Walked). back_from w (inner (inside_body c s) d.body (with_own scope assigns now)) in
      let whole = λ (w : Walked). then_check (check_arguments scope s assigns w) (own w) in
      by_bar n (list_any (same_callee c) s.running) (fault_on scope s line Cyclic) whole whole (more n w) w v e
      (λ e. by_then n (check_arguments scope s assigns (more n w)) (check_arguments scope s assigns w) (own (more n w)) (own w) v
      (λ u first. arguments_lower n scope s assigns w u first)
      (λ u later. by_back n w (inner (inside_body c s) d.body (with_own scope assigns (more n u)))
      (inner (inside_body c s) d.body (with_own scope assigns u)) v
      (λ x inside. lowers (inside_body c s) d.body (with_own scope assigns u) x inside) later) e)

  call_lowers : (s : Standing) (line : ℕ) (c : Callee) (assigns : List Assignment)
      → Lowers n (check_call scope inner s line c assigns)
  call_lowers s line c assigns w v e =
      let body = check_body scope inner s line c assigns c.found in
      let barred = bar_if s.in_shift (fault_on scope s line ShiftForm) body in
      by_rule n (nat_lt s.calls deepest_calls) (nat_lt s.calls deepest_calls) (fault_on scope s line TooLarge) barred barred (more n w) w v (λ t. t) e
      (λ e. by_bar n s.in_shift (fault_on scope s line ShiftForm) body body (more n w) w v e
      (λ e. body_lowers s line c assigns c.found w v e))

  step_lowers : (s : Standing) (line : ℕ) (step : Step) → Lowers n (check_step scope inner s line step)
  step_lowers s line (Wave name) w v e =
      by_rule n (has_name scope.tables name) (has_name scope.tables name) (fault_on scope s line UnknownName) fine fine (more n w) w v (λ t. t) e
      (λ e. ends n w (more n w) v refl e)
  step_lowers s line (Vector assigns) w v e = assigns_lower n scope s assigns w v e
  step_lowers s line (Condition assigns) w v e = assigns_lower n scope s assigns w v e
  step_lowers s line (Macro name assigns) w v e =
      call_lowers s line (callee_of scope of_macro name) assigns w v e
  step_lowers s line (Call name assigns) w v e =
      call_lowers s line (callee_of scope of_procedure name) assigns w v e
  step_lowers s line BreakPoint w v e = ends n w (more n w) v refl e
  step_lowers s line IddqTestPoint w v e = ends n w (more n w) v refl e
  step_lowers s line Stop w v e = ends n w (more n w) v refl e

  behind_lowers : (step : Step) (c d : Checked) (next : Walked → Checked) (v : Walked)
      → ((u : Walked) → c ≡ fine u → Lower n d u) → Lowers n next → behind_step step c next ≡ fine v
      → Lower n (behind_step step d next) v
  behind_lowers Stop c d next v first later e = first v e
  behind_lowers (Wave name) c d next v first later e = by_then n c d next next v first (λ u. later u v) e
  behind_lowers (Vector assigns) c d next v first later e = by_then n c d next next v first (λ u. later u v) e
  behind_lowers (Condition assigns) c d next v first later e = by_then n c d next next v first (λ u. later u v) e
  behind_lowers (Macro name assigns) c d next v first later e = by_then n c d next next v first (λ u. later u v) e
  behind_lowers (Call name assigns) c d next v first later e = by_then n c d next next v first (λ u. later u v) e
  behind_lowers BreakPoint c d next v first later e = by_then n c d next next v first (λ u. later u v) e
  behind_lowers IddqTestPoint c d next v first later e = by_then n c d next next v first (λ u. later u v) e

  list_lowers : (s : Standing) (body : Written) → Lowers n (check_list scope inner s body)
  list_lowers s no_more w v e = ends n w (more n w) v refl e
  list_lowers s (single line step rest) w v e =
      behind_lowers step (counted scope s line (check_step scope inner s line step) (more n w))
      (counted scope s line (check_step scope inner s line step) w) (check_list scope inner s rest) v
      (λ u first. counted_lowers n scope s line (check_step scope inner s line step) (step_lowers s line step) w u first)
      (list_lowers s rest) e
  list_lowers s (looped line times body rest) w v e =
      let check_it = check_list scope inner (inside_loop s) body in
      let barred = bar_if s.in_shift (fault_on scope s line ShiftForm) check_it in
      let next = rule (nat_lt s.loops deepest_loops) (fault_on scope s line TooLarge) barred in
      by_then n (counted scope s line next (more n w)) (counted scope s line next w) (check_list scope inner s rest) (check_list scope inner s rest) v
      (λ u first. counted_lowers n scope s line next
      (λ a b e. by_rule n (nat_lt s.loops deepest_loops) (nat_lt s.loops deepest_loops) (fault_on scope s line TooLarge) barred barred (more n a) a b (λ t. t) e
      (λ e. by_bar n s.in_shift (fault_on scope s line ShiftForm) check_it check_it (more n a) a b e
      (λ e. list_lowers (inside_loop s) body a b e))) w u first)
      (λ u later. list_lowers s rest u v later) e
  list_lowers s (shifted line body rest) w v e =
      let all = takers_in scope s body in
      let check_it = λ (without : Bool). check_list scope inner (inside_shift without s) body in
      let walk = λ (now : Walked). check_passes (passes all now.args) check_it (columns (outs_of scope.names) all now.args) now in
      let next = rule (may_shift s) (fault_on scope s line ShiftForm) walk in
      by_then n (counted scope s line next (more n w)) (counted scope s line next w) (check_list scope inner s rest) (check_list scope inner s rest) v
      (λ u first. counted_lowers n scope s line next
      (λ a b e. by_rule n (may_shift s) (may_shift s) (fault_on scope s line ShiftForm) walk walk (more n a) a b (λ t. t) e
      (λ e. passes_lower n (passes all a.args) check_it (λ without. list_lowers (inside_shift without s) body) (columns (outs_of scope.names) all a.args) a b e))
      w u first)
      (λ u later. list_lowers s rest u v later) e

calls_lower : (n : ℕ) (scope : Scope) (depth : ℕ) (s : Standing) (body : Written)
    → Lowers n (check_calls scope depth s body)
unfolding check_calls
calls_lower n scope zero s body w v e = ends n w (more n w) v refl e
calls_lower n scope (suc depth) s body w v e =
    list_lowers n scope (check_calls scope depth) (λ s body w v. calls_lower n scope depth s body w v) s body w v e

-- a pattern
pattern_lowers : (n : ℕ) (scope : Scope) (body : Written) (count : ℕ) (v : Walked)
    → check_pattern scope body (count + n) ≡ fine v → Lower n (check_pattern scope body count) v
pattern_lowers n scope body count v e =
    list_lowers n scope (check_calls scope deepest_calls) (calls_lower n scope deepest_calls) on_top body
    (record { args = []; hashes = []; count = count }) v e

module _ (n : ℕ) (blocks : Blocks) (e : ExecDecl) where
  -- up to a Stop
  by_pattern : (stopped : Bool) (c d : Checked) (f : ℕ → Checked) (v : Walked)
      → ((u : Walked) → c ≡ fine u → Lower n d u)
      → ((count : ℕ) → f (count + n) ≡ fine v → Lower n (f count) v)
      → behind_pattern stopped c f ≡ fine v → Lower n (behind_pattern stopped d f) v
  by_pattern stopped (refused fault) d f v first later h = cc
  by_pattern true (fine w) d f v first later h =
      let low = first w refl in
      record { low = low.low; is = ap (λ (x : Checked). behind_pattern true x f) low.is; above = fine-is w v h ∙ low.above }
  by_pattern false (fine w) d f v first later h =
      let low = first w refl in
      let rest = later low.low.count (ap f (sym (ap (λ (x : Walked). x.count) low.above)) ∙ h) in
      record { low = rest.low; is = ap (λ (x : Checked). behind_pattern false x f) low.is ∙ rest.is; above = rest.above }

  -- patterns in running order
  patterns_lower : (patterns : List Played) (count : ℕ) (v : Walked)
      → check_patterns blocks e patterns (count + n) ≡ fine v → Lower n (check_patterns blocks e patterns count) v
  patterns_lower [] count v h = ends n _ _ v refl h
  patterns_lower (p ∷ patterns) count v h =
      let scope = scope_of blocks e p in
      by_pattern (stops (resolved scope of_pattern p.pattern.body)) (check_pattern scope p.pattern.body (count + n))
      (check_pattern scope p.pattern.body count) (check_patterns blocks e patterns) v
      (λ u first. pattern_lowers n scope p.pattern.body count u first)
      (λ count later. patterns_lower patterns count v later) h

-- how far patterns come behind others is how far they come by themselves, moved on
pub walked_behind : (blocks : Blocks) (e : ExecDecl) (patterns : List Played) (before : ℕ) (w : Walked)
    → check_patterns blocks e patterns before ≡ fine w
    → w.count ≡ before + checked_count (check_patterns blocks e patterns 0)
walked_behind blocks e patterns before w h =
    let begins : 0 + before ≡ before = omega arith in
    let low = patterns_lower before blocks e patterns 0 w (ap (check_patterns blocks e patterns) begins ∙ h) in
    let counts : low.low.count + before ≡ before + low.low.count = omega arith in
    ap (λ (x : Walked). x.count) low.above
    ∙ counts
    ∙ ap (λ (c : Checked). before + checked_count c) (sym low.is)
