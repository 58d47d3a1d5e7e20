-- The body that a Macro or Call names is checked and written one call deeper.
use Rattle.std.proofs.Common.{◌≡◌, ℕ, zero, suc, ◌+◌, ◌-◌, ◌<◌, List, ◌∷◌, Some, refl, ap, sym, ◌∙◌, map, false}
use Rattle.std.specs.Prelude.{Result, Ok, Err}
use Rattle.text_bytes.specs.Limits.{deepest_calls}
use Rattle.text_bytes.proofs.ListLemmas.{suc-plus}
use Rattle.stil_ast.specs.Data.Places.{Titles, Body, Origin, of_pattern}
use Rattle.stil_ast.specs.Data.Written.{Written}
use Rattle.stil_ast.specs.Meaning.Arguments.{Argument}
use Rattle.stil_ast.specs.Meaning.Flattening.{joined, Spot, Piece, flat_list, flat_calls}
use Rattle.stil_ast.specs.Meaning.Resolved.{Scope, origin, resolved}
use Rattle.stil_ast.specs.Meaning.Running.{Setting}
use Rattle.stil_ast.specs.Meaning.Statements.{Statements}
use Rattle.stil_ast.specs.Faults.AssignmentFaults.{Walked, Checked, Callee, Standing}
use Rattle.stil_ast.specs.Faults.PatternFaults.{inside_loop, inside_body, check_list, check_calls}
use Rattle.flat_tree.specs.Origins.{body_of}
use Rattle.macro_expand.specs.Standings.{callee_in, standing_in}
use Rattle.macro_expand.specs.Stepping.{StepsOr}
use Rattle.macro_expand.specs.Walking.{flat_at}
use Rattle.macro_expand.specs.Walks.{walked, then_kept}
use Rattle.macro_expand.specs.declared.standing.Callee.{Callee as HeldCallee}
use Rattle.macro_expand.specs.declared.standing.Standing.{Standing as HeldStanding}
use Rattle.macro_expand.specs.Refusing.{Trouble}
use Rattle.macro_expand.specs.declared.walk.Walk.{Walk}
use Rattle.macro_expand.proofs.GoLemmas.{one_less}
use Rattle.macro_expand.proofs.KindLemmas.{at_same}
use Rattle.macro_expand.proofs.WalkLemmas.{flat-anywhere}

-- what a step with the same check and piece does
pub steps_same : {A : Type 0} (titles : Titles) (check other : Walked → Checked) (piece another : Piece) (before after : Walk) (r : Result A Trouble)
    → other (walked before) ≡ check (walked before) → another ≡ piece → StepsOr titles check piece before after r
    → StepsOr titles other another before after r
steps_same titles check other piece another before after (Ok nothing) e p h = record {
  checked = e ∙ h.checked;
  out = λ rest. h.out rest ∙ ap (λ (x : Piece). then_kept before.out (joined x.flat rest)) (sym p);
  args = h.args ∙ ap (λ (x : Piece). x.spot.args) (sym p);
}
steps_same titles check other piece another before after (Err trouble) e p h =
    at_same titles (other (walked before)) (check (walked before)) trouble e h

-- the check of a body with calls left
check-deeper : (sc : Scope) (n m : ℕ) (s : Standing) (body : Written) (w : Walked) → n ≡ suc m
    → check_calls sc n s body w ≡ check_list sc (check_calls sc m) s body w
unfolding check_calls
check-deeper sc n m s body w e = ap (λ (k : ℕ). check_calls sc k s body w) e

-- its tree
flat-deeper : (t : Setting) (n m : ℕ) (body : Statements) (spot : Spot) → n ≡ suc m
    → flat_calls t n (Some body) spot ≡ flat_list t (flat_calls t m) body spot
unfolding flat_calls
flat-deeper t n m body spot e = ap (λ (k : ℕ). flat_calls t k (Some body) spot) e

-- statements one call deeper, as the body that is named
pub deeper : {A : Type 0} (sc : Scope) (t : Setting) (calls : ℕ) (s wanted : Standing) (body : Written) (b : Body)
    (titles : Titles) (before after : Walk) (r : Result A Trouble) → calls < deepest_calls → wanted ≡ s
    → StepsOr titles (check_list sc (check_calls sc (deepest_calls - (calls + 1))) s body)
    (flat_at t (flat_calls t (deepest_calls - (calls + 1))) (resolved sc b body) before.args) before after r
    → StepsOr titles (check_calls sc (deepest_calls - calls) wanted body)
    (flat_calls t (deepest_calls - calls) (Some (resolved sc b body)) (record { args = before.args; place = origin of_pattern 0 })) before after r
deeper sc t calls s wanted body b titles before after r few is h =
    let less = one_less calls few in
    steps_same titles (check_list sc (check_calls sc (deepest_calls - (calls + 1))) s body) (check_calls sc (deepest_calls - calls) wanted body)
    (flat_at t (flat_calls t (deepest_calls - (calls + 1))) (resolved sc b body) before.args)
    (flat_calls t (deepest_calls - calls) (Some (resolved sc b body)) (record { args = before.args; place = origin of_pattern 0 }))
    before after r
    (ap (λ (x : Standing). check_calls sc (deepest_calls - calls) x body (walked before)) is
    ∙ check-deeper sc (deepest_calls - calls) (deepest_calls - (calls + 1)) s body (walked before) less)
    (flat-deeper t (deepest_calls - calls) (deepest_calls - (calls + 1)) (resolved sc b body) (record { args = before.args; place = origin of_pattern 0 }) less)
    h

-- where the statements of a body stand
pub body_standing : (sc : Scope) (c : HeldCallee) (s inside : HeldStanding) (running : List HeldCallee) → running ≡ c ∷ s.running.now
    → standing_in sc inside ≡ record {
      body = body_of c.kind;
      in_loop = false;
      in_shift = false;
      without_pass = false;
      loops = s.loops;
      calls = s.calls + 1;
      running = map (callee_in sc) running;
    }
    → inside_body (callee_in sc c) (standing_in sc s) ≡ standing_in sc inside
body_standing sc c s inside running is e =
    let at : ℕ → List Callee → Standing = λ calls running. record {
      body = body_of c.kind;
      in_loop = false;
      in_shift = false;
      without_pass = false;
      loops = s.loops;
      calls = calls;
      running = running;
    } in
    ap (λ (n : ℕ). at n (callee_in sc c ∷ map (callee_in sc) s.running.now)) (suc-plus s.calls)
    ∙ ap (λ (xs : List HeldCallee). at (s.calls + 1) (map (callee_in sc) xs)) (sym is)
    ∙ sym e

-- where the statements of a Loop stand
pub loop_standing : (s : Standing) → inside_loop s ≡ record (inside_loop s) { loops = s.loops + 1 }
loop_standing s = ap (λ (n : ℕ). record (inside_loop s) { loops = n }) (suc-plus s.loops)

-- where the tree of a body that is named begins makes no difference
pub named-anywhere : (sc : Scope) (t : Setting) (n : ℕ) (b : Body) (body : Written) (args : List Argument) (p q : Origin)
    → (flat_calls t n (Some (resolved sc b body)) (record { args = args; place = p })).flat
    ≡ (flat_calls t n (Some (resolved sc b body)) (record { args = args; place = q })).flat
unfolding flat_calls
named-anywhere sc t zero b body args p q = refl
named-anywhere sc t (suc n) b body args p q = flat-anywhere sc t (flat_calls t n) b body args p q
