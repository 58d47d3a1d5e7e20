-- A body that takes no data runs alike with all arguments.
use Rattle.std.proofs.Common.{◌≡◌, ℕ, zero, suc, true, List, [], ◌∷◌, Option, Some, refl, ap, sym, ◌∙◌, slice_get, length}
use Rattle.std.proofs.lemmas.Bool.{and_parts}
use Rattle.stil_ast.specs.Meaning.State.{State}
use Rattle.stil_ast.specs.Meaning.Statements.{Assign, Statements, finish, place, wave, vector, condition, loop, expand, call, shift, stop}
use Rattle.stil_ast.specs.Meaning.Arguments.{Argument, arguments}
use Rattle.stil_ast.specs.Meaning.Dealing.{Dealt, takers, mark_of}
use Rattle.stil_ast.specs.Meaning.Shift.{taking, passes}
use Rattle.stil_ast.specs.Meaning.Running.{Setting, Ran, Here, behind, then_run, times, back_at, pass_at, at_place, at_table, after_deal, after, make, in_macro, from_macro, in_call, from_call, in_shift, from_shift, run_list, run, calls}
use Rattle.stil_ast.specs.Meaning.Laws.{followed_by, all_characters, takes_nothing, bodies_pass, calls_within}
use Rattle.stil_ast.proofs.CallLemmas.{run_list-same, calls-deeper, run_list-followed_by}
use Rattle.stil_ast.proofs.CharacterLemmas.{deal-characters, takers-characters, mark_of-none}

abbrev pub put_here : List Argument → Here → Here
put_here args h = record { state = h.state; held = h.held; args = args; place = h.place }

-- the same run, with other arguments behind it
abbrev pub put_args : List Argument → Ran Here → Ran Here
put_args args r = record { made = r.made; here = put_here args r.here }

then_run-args : (args : List Argument) (r : Ran Here) (f : Here → Ran Here)
    → ((h : Here) → f (put_here args h) ≡ put_args args (f h))
    → then_run (put_args args r) f ≡ put_args args (then_run r f)
then_run-args args r f same = ap (behind r.made) (same r.here)

times-args : (args : List Argument) (f : Here → Ran Here)
    → ((h : Here) → f (put_here args h) ≡ put_args args (f h)) → (n : ℕ) (h : Here)
    → times n f (put_here args h) ≡ put_args args (times n f h)
times-args args f same zero h = refl
times-args args f same (suc n) h =
    ap (λ (r : Ran Here). then_run r (times n f)) (same h) ∙ then_run-args args (f h) (times n f) (times-args args f same n)

after-args : (assigns : List Assign) (args : List Argument) (h : Here) → all_characters assigns ≡ true
    → after assigns (put_here args h) ≡ put_here args (after assigns h)
after-args assigns args h e =
    ap (λ (d : Dealt). after_deal d (put_here args h)) (deal-characters assigns args e)
    ∙ ap (λ (d : Dealt). put_here args (after_deal d h)) (sym (deal-characters assigns h.args e))

-- one vector with a mark
with_mark : Here → ℕ → Ran Here
with_mark h mark = record {
  made = record { vector = record { table = h.state.table; characters = h.state.characters; mark = mark }; place = h.place } ∷ [];
  here = h;
}

no_mark : (t : Setting) (assigns : List Assign) (args : List Argument) → all_characters assigns ≡ true
    → mark_of t.scan_outs (takers assigns) args ≡ 0
no_mark t assigns args e =
    ap (λ (signals : List ℕ). mark_of t.scan_outs signals args) (takers-characters assigns e) ∙ mark_of-none t.scan_outs args

make-args : (t : Setting) (assigns : List Assign) (args : List Argument) (h : Here)
    → all_characters assigns ≡ true
    → make t assigns (put_here args h) ≡ put_args args (make t assigns h)
unfolding with_mark
make-args t assigns args h e =
    ap (with_mark (put_here args h)) (no_mark t assigns args e)
    ∙ ap (λ (mark : ℕ). put_args args (with_mark h mark)) (sym (no_mark t assigns h.args e))

pub run_list-args : (t : Setting) (f : Option Statements → Here → Ran Here) (args : List Argument) (s : Statements)
    → takes_nothing s ≡ true → (h : Here)
    → run_list t f s (put_here args h) ≡ put_args args (run_list t f s h)
run_list-args t f args finish e h = refl
run_list-args t f args (place p rest) e h = run_list-args t f args rest e (at_place p h)
run_list-args t f args (wave table rest) e h = run_list-args t f args rest e (at_table table h)
run_list-args t f args (vector assigns rest) e h =
    let parts = and_parts (all_characters assigns) (takes_nothing rest) e in
    ap (λ (now : Here). then_run (make t assigns now) (run_list t f rest)) (after-args assigns args h parts.0)
    ∙ (ap (λ (r : Ran Here). then_run r (run_list t f rest)) (make-args t assigns args (after assigns h) parts.0)
    ∙ then_run-args args (make t assigns (after assigns h)) (run_list t f rest) (run_list-args t f args rest parts.1))
run_list-args t f args (condition assigns rest) e h =
    let parts = and_parts (all_characters assigns) (takes_nothing rest) e in
    ap (run_list t f rest) (after-args assigns args h parts.0) ∙ run_list-args t f args rest parts.1 (after assigns h)
run_list-args t f args (loop count body rest) e h =
    let parts = and_parts (takes_nothing body) (takes_nothing rest) e in
    ap (λ (r : Ran Here). then_run r (run_list t f rest)) (times-args args (pass_at h.place (run_list t f body)) (λ q. ap (back_at h.place) (run_list-args t f args body parts.0 q)) count h)
    ∙ then_run-args args (times count (pass_at h.place (run_list t f body)) h) (run_list t f rest) (run_list-args t f args rest parts.1)
run_list-args t f args (expand body assigns rest) e h =
    then_run-args args (from_macro h (f (slice_get t.macros body) (in_macro t assigns h))) (run_list t f rest) (run_list-args t f args rest e)
run_list-args t f args (call body assigns rest) e h =
    then_run-args args (from_call h (f (slice_get t.procedures body) (in_call t assigns h))) (run_list t f rest) (run_list-args t f args rest e)
run_list-args t f args (shift body rest) e h = cc
run_list-args t f args (stop rest) e h = cc

-- what is held stays
times-held : (f : Here → Ran Here) → ((h : Here) → (f h).here.held ≡ h.held) → (n : ℕ) (h : Here)
    → (times n f h).here.held ≡ h.held
times-held f same zero h = refl
times-held f same (suc n) h = times-held f same n (f h).here ∙ same h

pub run_list-held : (t : Setting) (f : Option Statements → Here → Ran Here) (s : Statements) (h : Here)
    → (run_list t f s h).here.held ≡ h.held
run_list-held t f finish h = refl
run_list-held t f (place p rest) h = run_list-held t f rest (at_place p h)
run_list-held t f (wave table rest) h = run_list-held t f rest (at_table table h)
run_list-held t f (vector assigns rest) h = run_list-held t f rest (after assigns h)
run_list-held t f (condition assigns rest) h = run_list-held t f rest (after assigns h)
run_list-held t f (loop count body rest) h =
    run_list-held t f rest (times count (pass_at h.place (run_list t f body)) h).here ∙ times-held (pass_at h.place (run_list t f body)) (run_list-held t f body) count h
run_list-held t f (expand body assigns rest) h =
    run_list-held t f rest (from_macro h (f (slice_get t.macros body) (in_macro t assigns h))).here
run_list-held t f (call body assigns rest) h = run_list-held t f rest h
run_list-held t f (shift body rest) h =
    run_list-held t f rest (from_shift h (times (passes (taking body) h.args) (pass_at h.place (run_list t f body)) (in_shift t body h))).here
run_list-held t f (stop rest) h = refl

-- behind the macro's body the caller's arguments and what is held are as they were, as behind the body itself
put_held : Ran Here → List Argument → State → Ran Here
put_held r args held =
    record { made = r.made; here = record { state = r.here.state; held = held; args = args; place = r.here.place } }

from_macro-args : (h : Here) (args : List Argument) (r : Ran Here) → r ≡ put_args h.args r
    → r.here.held ≡ h.held → from_macro h (put_args args r) ≡ r
unfolding put_held
from_macro-args h args r same held = ap (put_held r h.args) (sym held) ∙ sym same

pub macro_is_its_body : (t : Setting) (m : ℕ) (body rest : Statements) (h : Here)
    → slice_get t.macros m ≡ Some body → takes_nothing body ≡ true
    → bodies_pass t (calls_within t 63) body ≡ true
    → run t (expand m [] rest) h ≡ run t (followed_by body rest) h
unfolding calls
macro_is_its_body t m body rest h found nothing within =
    let args = arguments (length t.outs) [] in
    let after_body = λ (r : Ran Here). then_run r (run_list t (calls t 64) rest) in
    ap (λ (o : Option Statements). after_body (from_macro h (calls t 64 o (put_here args h)))) found
    ∙ (ap (λ (r : Ran Here). after_body (from_macro h r)) (run_list-args t (calls t 63) args body nothing h)
    ∙ (ap after_body (from_macro-args h args (run_list t (calls t 63) body h) (run_list-args t (calls t 63) h.args body nothing h) (run_list-held t (calls t 63) body h))
    ∙ (ap after_body (run_list-same t (calls t 63) (calls t 64) (calls_within t 63) (calls-deeper t 63) body within h)
    ∙ sym (run_list-followed_by t (calls t 64) body rest h nothing))))
