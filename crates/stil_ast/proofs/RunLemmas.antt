-- Runs one after another, and the same run so often.
use Rattle.std.proofs.Common.{◌≡◌, ℕ, zero, suc, ◌+◌, List, refl, ap, sym, ◌∙◌, append_assoc, zero-add, suc-add}
use Rattle.stil_ast.specs.Data.Places.{Origin}
use Rattle.stil_ast.specs.Meaning.Statements.{Statements, loop}
use Rattle.stil_ast.specs.Meaning.Running.{Setting, Made, Ran, Here, behind, then_run, times, pass_at, run_list, run, calls}

-- a run with these vectors
abbrev pub with_made : {P : Type 0} → P → List Made → Ran P
with_made here made = record { made = made; here = here }

pub then_run-assoc : {P : Type 0} (r : Ran P) (f g : P → Ran P)
    → then_run (then_run r f) g ≡ then_run r (λ p. then_run (f p) g)
then_run-assoc r f g =
    ap (with_made (g (f r.here).here).here) (append_assoc r.made (f r.here).made (g (f r.here).here).made)

pub then_run-same : {P : Type 0} (r q : Ran P) (f g : P → Ran P) → r ≡ q → ((p : P) → f p ≡ g p)
    → then_run r f ≡ then_run q g
then_run-same {P} r q f g e same = ap (λ (x : Ran P). then_run x f) e ∙ ap (behind q.made) (same q.here)

pub times-same : {P : Type 0} (f g : P → Ran P) → ((p : P) → f p ≡ g p) → (n : ℕ) (p : P)
    → times n f p ≡ times n g p
times-same f g same zero p = refl
times-same f g same (suc n) p =
    then_run-same (f p) (g p) (times n f) (times n g) (same p) (times-same f g same n)

pub times-add : {P : Type 0} (m n : ℕ) (f : P → Ran P) (p : P)
    → times (m + n) f p ≡ then_run (times m f p) (times n f)
times-add zero n f p = ap (λ (k : ℕ). times k f p) (zero-add n)
times-add (suc m) n f p =
    ap (λ (k : ℕ). times k f p) (suc-add m n)
    ∙ (ap (behind (f p).made) (times-add m n f (f p).here) ∙ sym (then_run-assoc (f p) (times m f) (times n f)))

-- passes end where they began
times-place : (p : Origin) (f : Here → Ran Here) (n : ℕ) (h : Here) → h.place ≡ p
    → (times n (pass_at p f) h).here.place ≡ p
times-place p f zero h e = e
times-place p f (suc n) h e = times-place p f n (pass_at p f h).here refl

-- a Loop of m + n
pub loop_splits : (t : Setting) (m n : ℕ) (body rest : Statements) (h : Here)
    → run t (loop (m + n) body rest) h ≡ run t (loop m body (loop n body rest)) h
loop_splits t m n body rest h =
    let pass = λ (p : Origin). pass_at p (run_list t (calls t 64) body) in
    let then_rest = run_list t (calls t 64) rest in
    let first = times m (pass h.place) h in
    ap (λ (r : Ran Here). then_run r then_rest) (times-add m n (pass h.place) h)
    ∙ (then_run-assoc first (times n (pass h.place)) then_rest
    ∙ ap (λ (p : Origin). behind first.made (then_run (times n (pass p) first.here) then_rest)) (sym (times-place h.place (run_list t (calls t 64) body) m h refl)))
