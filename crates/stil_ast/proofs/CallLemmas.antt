-- Runs of the same statements with other calls, and of statements followed by others.
use Rattle.std.proofs.Common.{◌≡◌, ℕ, zero, suc, Bool, true, Option, Some, None, refl, ap, sym, ◌∙◌, slice_get}
use Rattle.std.proofs.lemmas.Bool.{and_parts}
use Rattle.stil_ast.specs.Meaning.Statements.{Statements, finish, place, wave, vector, condition, loop, expand, call, shift, stop}
use Rattle.stil_ast.specs.Meaning.Shift.{taking, passes}
use Rattle.stil_ast.specs.Meaning.Running.{Setting, Ran, Here, behind, then_run, times, back_at, pass_at, at_place, at_table, after, make, in_macro, from_macro, in_call, from_call, in_shift, from_shift, run_list, calls}
use Rattle.stil_ast.specs.Meaning.Laws.{followed_by, takes_nothing, bodies_pass, calls_within}
use Rattle.stil_ast.proofs.RunLemmas.{then_run-assoc, then_run-same, times-same}

-- bodies that pass a test run alike, so the statements do
pub run_list-same : (t : Setting) (f g : Option Statements → Here → Ran Here) (test : Option Statements → Bool)
    → ((o : Option Statements) (h : Here) → test o ≡ true → f o h ≡ g o h) → (s : Statements)
    → bodies_pass t test s ≡ true → (h : Here) → run_list t f s h ≡ run_list t g s h
run_list-same t f g test same finish e h = refl
run_list-same t f g test same (place p rest) e h = run_list-same t f g test same rest e (at_place p h)
run_list-same t f g test same (wave table rest) e h =
    run_list-same t f g test same rest e (at_table table h)
run_list-same t f g test same (vector assigns rest) e h =
    then_run-same (make t assigns (after assigns h)) (make t assigns (after assigns h)) (run_list t f rest) (run_list t g rest) refl (run_list-same t f g test same rest e)
run_list-same t f g test same (condition assigns rest) e h =
    run_list-same t f g test same rest e (after assigns h)
run_list-same t f g test same (loop count body rest) e h =
    let parts = and_parts (bodies_pass t test body) (bodies_pass t test rest) e in
    then_run-same (times count (pass_at h.place (run_list t f body)) h) (times count (pass_at h.place (run_list t g body)) h) (run_list t f rest) (run_list t g rest)
    (times-same (pass_at h.place (run_list t f body)) (pass_at h.place (run_list t g body)) (λ q. ap (back_at h.place) (run_list-same t f g test same body parts.0 q)) count h)
    (run_list-same t f g test same rest parts.1)
run_list-same t f g test same (expand body assigns rest) e h =
    let parts = and_parts (test (slice_get t.macros body)) (bodies_pass t test rest) e in
    then_run-same (from_macro h (f (slice_get t.macros body) (in_macro t assigns h))) (from_macro h (g (slice_get t.macros body) (in_macro t assigns h))) (run_list t f rest) (run_list t g rest)
    (ap (from_macro h) (same (slice_get t.macros body) (in_macro t assigns h) parts.0))
    (run_list-same t f g test same rest parts.1)
run_list-same t f g test same (call body assigns rest) e h =
    let parts = and_parts (test (slice_get t.procedures body)) (bodies_pass t test rest) e in
    then_run-same (from_call h (f (slice_get t.procedures body) (in_call t assigns h))) (from_call h (g (slice_get t.procedures body) (in_call t assigns h))) (run_list t f rest) (run_list t g rest)
    (ap (from_call h) (same (slice_get t.procedures body) (in_call t assigns h) parts.0))
    (run_list-same t f g test same rest parts.1)
run_list-same t f g test same (shift body rest) e h =
    let parts = and_parts (bodies_pass t test body) (bodies_pass t test rest) e in
    then_run-same (from_shift h (times (passes (taking body) h.args) (pass_at h.place (run_list t f body)) (in_shift t body h))) (from_shift h (times (passes (taking body) h.args) (pass_at h.place (run_list t g body)) (in_shift t body h))) (run_list t f rest) (run_list t g rest)
    (ap (from_shift h) (times-same (pass_at h.place (run_list t f body)) (pass_at h.place (run_list t g body)) (λ q. ap (back_at h.place) (run_list-same t f g test same body parts.0 q)) (passes (taking body) h.args) (in_shift t body h)))
    (run_list-same t f g test same rest parts.1)
run_list-same t f g test same (stop rest) e h = refl

-- where calls go no deeper than they may, one level more makes no difference
pub calls-deeper : (t : Setting) (depth : ℕ) (o : Option Statements) (h : Here)
    → calls_within t depth o ≡ true → calls t depth o h ≡ calls t (suc depth) o h
unfolding calls calls_within
calls-deeper t zero o h e = cc
calls-deeper t (suc depth) None h e = refl
calls-deeper t (suc depth) (Some body) h e =
    run_list-same t (calls t depth) (calls t (suc depth)) (calls_within t depth) (calls-deeper t depth) body e h

-- statements without Shift and Stop, and then others
pub run_list-followed_by : (t : Setting) (f : Option Statements → Here → Ran Here) (a b : Statements) (h : Here)
    → takes_nothing a ≡ true
    → run_list t f (followed_by a b) h ≡ then_run (run_list t f a h) (run_list t f b)
run_list-followed_by t f finish b h e = refl
run_list-followed_by t f (place p rest) b h e = run_list-followed_by t f rest b (at_place p h) e
run_list-followed_by t f (wave table rest) b h e = run_list-followed_by t f rest b (at_table table h) e
run_list-followed_by t f (vector assigns rest) b h e =
    let first = make t assigns (after assigns h) in
    ap (behind first.made) (run_list-followed_by t f rest b first.here (and_parts _ (takes_nothing rest) e).1)
    ∙ sym (then_run-assoc first (run_list t f rest) (run_list t f b))
run_list-followed_by t f (condition assigns rest) b h e =
    run_list-followed_by t f rest b (after assigns h) (and_parts _ (takes_nothing rest) e).1
run_list-followed_by t f (loop count body rest) b h e =
    let first = times count (pass_at h.place (run_list t f body)) h in
    ap (behind first.made) (run_list-followed_by t f rest b first.here (and_parts _ (takes_nothing rest) e).1)
    ∙ sym (then_run-assoc first (run_list t f rest) (run_list t f b))
run_list-followed_by t f (expand body assigns rest) b h e =
    let first = from_macro h (f (slice_get t.macros body) (in_macro t assigns h)) in
    ap (behind first.made) (run_list-followed_by t f rest b first.here e) ∙ sym (then_run-assoc first (run_list t f rest) (run_list t f b))
run_list-followed_by t f (call body assigns rest) b h e =
    let first = from_call h (f (slice_get t.procedures body) (in_call t assigns h)) in
    ap (behind first.made) (run_list-followed_by t f rest b first.here e) ∙ sym (then_run-assoc first (run_list t f rest) (run_list t f b))
run_list-followed_by t f (shift body rest) b h e = cc
run_list-followed_by t f (stop rest) b h e = cc
