-- A check that finds no fault has found none at each of its rules.
use Rattle.std.proofs.Common.{◌≡◌, ℕ, ◌+◌, ◌&&◌, Bool, true, false, not, List, [], ◌∷◌, Option, Some, None, refl, ap, length}
use Rattle.std.specs.List.{list_all, list_any}
use Rattle.std.proofs.lemmas.Bool.{or_parts, and_from}
use Rattle.stil_ast.specs.Meaning.Statements.{Item}
use Rattle.stil_ast.specs.Meaning.Dealing.{is_hash, is_character, has_signal, takers}
use Rattle.stil_ast.specs.Meaning.Members.{reference_kind}
use Rattle.stil_ast.specs.Meaning.Laws.{is_not_hash, no_hashes}
use Rattle.stil_ast.specs.Meaning.Resolved.{Scope, resolved_assign, resolved_assigns}
use Rattle.stil_ast.specs.Data.Written.{Written}
use Rattle.stil_ast.specs.Faults.AssignmentFaults.{Walked, Checked, fine, refused, then_check, rule, bar_if, rule_kind, Callee, Standing, fault_on, may_walk, hash_misplaced, width_fits, data_there, walked_assign, check_assign, check_assigns, argument_fits, walked_argument, check_argument, check_arguments}
use Rattle.stil_ast.specs.Faults.PatternFaults.{inside_body, back_from, with_own, check_body, one_more, counted, same_callee}
use Rattle.stil_ast.specs.declared.body.Assignment.{Assignment}
use Rattle.stil_ast.specs.declared.blocks.BodyDef.{BodyDef}
use Rattle.stil_ast.specs.declared.fault.StilFault.{StilFault}
use Rattle.stil_ast.specs.declared.fault.StilKind.{StilKind}
use Rattle.stil_ast.specs.declared.fault.StilKind.TheVariants.{TooLarge, ShiftForm, Width, NoData, Cyclic}

-- a check that comes behind another one
pub record Behind (first : Checked) (next : Walked → Checked) (v : Walked) : Type 0 where
  pub now : Walked
  pub before : first ≡ fine now
  pub after : next now ≡ fine v

pub then_check-fine : (c : Checked) (next : Walked → Checked) (v : Walked) → then_check c next ≡ fine v
    → Behind c next v
then_check-fine (fine w) next v e = record { now = w; before = refl; after = e }
then_check-fine (refused fault) next v e = cc

pub rule-fine : (b : Bool) (fault : StilFault) (next : Walked → Checked) (w v : Walked)
    → rule b fault next w ≡ fine v → (b ≡ true) × (next w ≡ fine v)
rule-fine true fault next w v e = (refl, e)
rule-fine false fault next w v e = cc

pub bar_if-fine : (b : Bool) (fault : StilFault) (next : Walked → Checked) (w v : Walked)
    → bar_if b fault next w ≡ fine v → (b ≡ false) × (next w ≡ fine v)
bar_if-fine true fault next w v e = cc
bar_if-fine false fault next w v e = (refl, e)

pub rule_kind-fine : (o : Option StilKind) (fault : StilKind → StilFault) (next : Walked → Checked) (w v : Walked)
    → rule_kind o fault next w ≡ fine v → (o ≡ None) × (next w ≡ fine v)
rule_kind-fine None fault next w v e = (refl, e)
rule_kind-fine (Some kind) fault next w v e = cc

pub counted-fine : (scope : Scope) (s : Standing) (line : ℕ) (next : Walked → Checked) (w v : Walked)
    → counted scope s line next w ≡ fine v → next (one_more w) ≡ fine v
counted-fine scope s line next w v e =
    (rule-fine (may_walk (w.count + 1)) (fault_on scope s line TooLarge) (λ (w : Walked). next (one_more w)) w v e).1

-- and is within the limit
pub counted-few : (scope : Scope) (s : Standing) (line : ℕ) (next : Walked → Checked) (w v : Walked)
    → counted scope s line next w ≡ fine v → may_walk (w.count + 1) ≡ true
counted-few scope s line next w v e =
    (rule-fine (may_walk (w.count + 1)) (fault_on scope s line TooLarge) (λ (w : Walked). next (one_more w)) w v e).0

-- a check that ends where a function of what was walked says
pub fine-is : (a b : Walked) → fine a ≡ fine b → b ≡ a
fine-is a b e = cc

-- a check behind which the caller has its arguments again
pub record BackTo (c : Checked) (w v : Walked) : Type 0 where
  pub now : Walked
  pub before : c ≡ fine now
  pub after : v ≡ record { args = w.args; hashes = w.hashes; count = now.count }

pub back_from-fine : (w : Walked) (c : Checked) (v : Walked) → back_from w c ≡ fine v → BackTo c w v
back_from-fine w (fine now) v e = record { now = now; before = refl; after = fine-is _ v e }
back_from-fine w (refused fault) v e = cc

-- what holds of an assignment without a fault
pub record AssignFine (scope : Scope) (s : Standing) (d : Assignment) (w v : Walked) : Type 0 where
  pub known : reference_kind scope.names d.reference ≡ None
  pub few : may_walk (w.count + length (resolved_assign scope.names d).signals) ≡ true
  pub form : hash_misplaced s (resolved_assign scope.names d) w.hashes ≡ false
  pub after : fine (walked_assign s (resolved_assign scope.names d) w) ≡ fine v

pub check_assign-fine : (scope : Scope) (s : Standing) (d : Assignment) (w v : Walked)
    → check_assign scope s d w ≡ fine v → AssignFine scope s d w v
check_assign-fine scope s d w v e =
    let a = resolved_assign scope.names d in
    let done = λ (w : Walked). fine (walked_assign s a w) in
    let data_rule = λ (w : Walked). rule (data_there s a w.args) (fault_on scope s d.line NoData) done w in
    let one = rule_kind-fine (reference_kind scope.names d.reference) (fault_on scope s d.line) _ w v e in
    let two = rule-fine (may_walk (w.count + length a.signals)) (fault_on scope s d.line TooLarge) _ w v one.1 in
    let three = bar_if-fine (hash_misplaced s a w.hashes) (fault_on scope s d.line ShiftForm) _ w v two.1 in
    let four = rule-fine (width_fits a) (fault_on scope s d.line Width) _ w v three.1 in
    let five = rule-fine (data_there s a w.args) (fault_on scope s d.line NoData) done w v four.1 in
    record { known = one.0; few = two.0; form = three.0; after = five.1 }

-- an argument without a fault
pub check_argument-fine : (scope : Scope) (s : Standing) (d : Assignment) (w v : Walked)
    → check_argument scope s d w ≡ fine v
    → (v ≡ walked_argument (resolved_assign scope.names d) w)
    × (may_walk (w.count + length (resolved_assign scope.names d).signals) ≡ true)
check_argument-fine scope s d w v e =
    let a = resolved_assign scope.names d in
    let one = rule_kind-fine (reference_kind scope.names d.reference) (fault_on scope s d.line) _ w v e in
    let two = rule-fine (may_walk (w.count + length a.signals)) (fault_on scope s d.line TooLarge) _ w v one.1 in
    let three = rule-fine (list_all is_character d.items) (fault_on scope s d.line ShiftForm) _ w v two.1 in
    let four = rule-fine (argument_fits a) (fault_on scope s d.line Width) _ w v three.1 in
    (fine-is (walked_argument a w) v four.1, two.0)

-- items of which none is `#`
none_is_hash : (items : List Item) → list_any is_hash items ≡ false → list_all is_not_hash items ≡ true
none_is_hash [] e = refl
none_is_hash (item ∷ items) e =
    let parts = or_parts (is_hash item) (list_any is_hash items) e in
    and_from (is_not_hash item) (list_all is_not_hash items) (ap not parts.0) (none_is_hash items parts.1)

-- where the first is so and not both, the second isn't
pub only_second : (a b : Bool) → a ≡ true → (a && b) ≡ false → b ≡ false
only_second true b e f = f
only_second false b e f = cc

-- in a Loop no assignment without a fault has a `#`
pub check_assigns-no_hashes : (scope : Scope) (s : Standing) (assigns : List Assignment) (w v : Walked)
    → check_assigns scope s assigns w ≡ fine v → s.in_loop ≡ true
    → no_hashes (resolved_assigns scope.names assigns) ≡ true
check_assigns-no_hashes scope s [] w v e looped = refl
check_assigns-no_hashes scope s (d ∷ assigns) w v e looped =
    let a = resolved_assign scope.names d in
    let first = then_check-fine (check_assign scope s d w) (check_assigns scope s assigns) v e in
    let form = (check_assign-fine scope s d w first.now first.before).form in
    let parts = or_parts (s.in_loop && list_any is_hash a.items) (s.in_shift && list_any (has_signal w.hashes) (takers (a ∷ []))) form in
    and_from (list_all is_not_hash a.items) (no_hashes (resolved_assigns scope.names assigns))
    (none_is_hash a.items (only_second s.in_loop (list_any is_hash a.items) looped parts.0))
    (check_assigns-no_hashes scope s assigns first.now v first.after looped)

-- what holds of a Macro or Call without a fault: its body is there, and has none
pub record BodyFine (scope : Scope) (inner : Standing → Written → Walked → Checked) (s : Standing) (c : Callee)
    (assigns : List Assignment) (o : Option BodyDef) (w v : Walked) : Type 0 where
  pub def : BodyDef
  pub found : o ≡ Some def
  pub given : Walked
  pub arguments : check_arguments scope s assigns w ≡ fine given
  pub back : BackTo (inner (inside_body c s) def.body (with_own scope assigns given)) w v

pub check_body-fine : (scope : Scope) (inner : Standing → Written → Walked → Checked) (s : Standing) (line : ℕ)
    (c : Callee) (assigns : List Assignment) (o : Option BodyDef) (w v : Walked)
    → check_body scope inner s line c assigns o w ≡ fine v
    → BodyFine scope inner s c assigns o w v
check_body-fine scope inner s line c assigns None w v e = cc
check_body-fine scope inner s line c assigns (Some d) w v e =
    let after = λ (now : Walked). back_from w (inner (inside_body c s) d.body (with_own scope assigns now)) in
    let one = bar_if-fine (list_any (same_callee c) s.running) (fault_on scope s line Cyclic) (λ (w : Walked). then_check (check_arguments scope s assigns w) (λ (now : Walked). back_from w (inner (inside_body c s) d.body (with_own scope assigns now)))) w v e in
    let two = then_check-fine (check_arguments scope s assigns w) after v one.1 in
    record { def = d; found = refl; given = two.now; arguments = two.before; back = back_from-fine w _ v two.after }
