-- What a flat tree does to the table and to the character of each signal, whatever these were.
use Rattle.std.proofs.Common.{◌≡◌, ℕ, zero, suc, ◌<◌, Bool, true, false, cond, eqb, Option, Some, None, length, get_or, refl, sym, ap, subst, ◌∙◌, arith}
use Rattle.std.proofs.lemmas.Bool.{eqb-true}
use Rattle.std.proofs.lemmas.List.{length-set, get_or-set_same, get_or-set_other}
use Rattle.std.specs.Prelude.{slice_index_or}
use Rattle.stil_ast.specs.Meaning.State.{State}
use Rattle.stil_ast.specs.Meaning.Dealing.{with_character}
use Rattle.stil_ast.specs.Meaning.Running.{Ran, times}
use Rattle.stil_ast.specs.Meaning.Flat.{Flat, done, table, character, back, cycle, repeat, save, saved, flat_run}

-- what becomes of a signal's character: it stays, it is what was held, or it is given
pub data Change : Type 0 where
  kept : Change
  held : Change
  given : ℕ → Change

-- the character that it becomes
abbrev pub changed : Change → Option ℕ → Option ℕ → Option ℕ
changed kept h now = now
changed held h now = h
changed (given c) h now = Some c

-- one change after another
abbrev pub followed : Change → Change → Change
followed first kept = first
followed first held = held
followed first (given c) = given c

-- in a loop, and in a save
abbrev pub in_loop : ℕ → Change → Change
in_loop zero change = kept
in_loop (suc n) change = change

abbrev pub in_save : Bool → Change → Change
in_save true change = kept
in_save false kept = kept
in_save false held = kept
in_save false (given c) = given c

-- the change of a signal by a flat tree
abbrev pub change_of : ℕ → Flat → Change
change_of x done = kept
change_of x (table t rest) = change_of x rest
change_of x (character signal c rest) = followed (cond (eqb signal x) (given c) kept) (change_of x rest)
change_of x (back signal rest) = followed (cond (eqb signal x) held kept) (change_of x rest)
change_of x (cycle mark spot rest) = change_of x rest
change_of x (repeat count body rest) = followed (in_loop count (change_of x body)) (change_of x rest)
change_of x (save putting body rest) = followed (in_save putting (change_of x body)) (change_of x rest)

-- the same of the table: None where it stays
abbrev pub tabled : Option ℕ → Option ℕ → Option ℕ
tabled None now = now
tabled (Some t) now = Some t

abbrev pub table_followed : Option ℕ → Option ℕ → Option ℕ
table_followed first None = first
table_followed first (Some t) = Some t

abbrev pub table_in_loop : ℕ → Option ℕ → Option ℕ
table_in_loop zero change = None
table_in_loop (suc n) change = change

abbrev pub table_in_save : Bool → Option ℕ → Option ℕ
table_in_save true change = None
table_in_save false change = change

abbrev pub table_of : Flat → Option ℕ
table_of done = None
table_of (table t rest) = table_followed (Some t) (table_of rest)
table_of (character signal c rest) = table_of rest
table_of (back signal rest) = table_of rest
table_of (cycle mark spot rest) = table_of rest
table_of (repeat count body rest) = table_followed (table_in_loop count (table_of body)) (table_of rest)
table_of (save putting body rest) = table_followed (table_in_save putting (table_of body)) (table_of rest)

-- ---- one after another, and again

changed-followed : (a b : Change) (h now : Option ℕ) → changed b h (changed a h now) ≡ changed (followed a b) h now
changed-followed a kept h now = refl
changed-followed a held h now = refl
changed-followed a (given c) h now = refl

pub changed-again : (a : Change) (h now : Option ℕ) → changed a h (changed a h now) ≡ changed a h now
changed-again kept h now = refl
changed-again held h now = refl
changed-again (given c) h now = refl

-- loops do at any number of passes what they do in one
changed-looped : (n : ℕ) (a : Change) (h now : Option ℕ)
    → changed (in_loop n a) h (changed a h now) ≡ changed (in_loop (suc n) a) h now
changed-looped zero a h now = refl
changed-looped (suc n) a h now = changed-again a h now

changed-saved : (a : Change) (h now : Option ℕ) → changed a now now ≡ changed (in_save false a) h now
changed-saved kept h now = refl
changed-saved held h now = refl
changed-saved (given c) h now = refl

tabled-followed : (a b now : Option ℕ) → tabled b (tabled a now) ≡ tabled (table_followed a b) now
tabled-followed a None now = refl
tabled-followed a (Some t) now = refl

pub tabled-again : (a now : Option ℕ) → tabled a (tabled a now) ≡ tabled a now
tabled-again None now = refl
tabled-again (Some t) now = refl

tabled-looped : (n : ℕ) (a now : Option ℕ) → tabled (table_in_loop n a) (tabled a now) ≡ tabled (table_in_loop (suc n) a) now
tabled-looped zero a now = refl
tabled-looped (suc n) a now = tabled-again a now

-- ---- how many signals there are

times-length : (n : ℕ) (f : State → Ran State) → ((s : State) → length (f s).here.characters ≡ length s.characters)
    → (s : State) → length (times n f s).here.characters ≡ length s.characters
times-length zero f e s = refl
times-length (suc n) f e s = times-length n f e (f s).here ∙ e s

saved-length : (putting : Bool) (s : State) (r : Ran State) → length r.here.characters ≡ length s.characters
    → length (saved putting s r).here.characters ≡ length s.characters
saved-length true s r e = refl
saved-length false s r e = e

pub run-length : (f : Flat) (base s : State) → length (flat_run f base s).here.characters ≡ length s.characters
run-length done base s = refl
run-length (table t rest) base s = run-length rest base (record { table = Some t; characters = s.characters })
run-length (character signal c rest) base s =
    run-length rest base (with_character signal (Some c) s) ∙ length-set s.characters signal (Some c)
run-length (back signal rest) base s =
    let h = slice_index_or base.characters signal None in
    run-length rest base (with_character signal h s) ∙ length-set s.characters signal h
run-length (cycle mark spot rest) base s = run-length rest base s
run-length (repeat count body rest) base s =
    run-length rest base (times count (flat_run body base) s).here
    ∙ times-length count (flat_run body base) (run-length body base) s
run-length (save putting body rest) base s =
    run-length rest base (saved putting s (flat_run body s s)).here
    ∙ saved-length putting s (flat_run body s s) (run-length body s s)

-- ---- the character of a signal

eqb_false-differs : (a b : ℕ) → eqb a b ≡ false → a ≡ b → ⊥
eqb_false-differs a b e same = grind arith

abbrev at : State → ℕ → Option ℕ
at s x = get_or s.characters x None

-- a signal gets a character, or another one does
set-cond : (b : Bool) (signal x : ℕ) (c : Option ℕ) (s : State) → eqb signal x ≡ b → x < length s.characters
    → at (with_character signal c s) x ≡ cond b c (at s x)
set-cond true signal x c s e within =
    let same : signal ≡ x = eqb-true signal x e in
    ap (λ (y : ℕ). at (with_character y c s) x) same ∙ get_or-set_same s.characters x c None within
set-cond false signal x c s e within =
    get_or-set_other s.characters signal x c None (λ eq. absurd (eqb_false-differs signal x e (sym eq)))

-- given, or held
given-cond : (b : Bool) (c : ℕ) (h now : Option ℕ) → cond b (Some c) now ≡ changed (cond b (given c) kept) h now
given-cond true c h now = refl
given-cond false c h now = refl

held-cond : (b : Bool) (signal x : ℕ) (base : State) (now : Option ℕ) → eqb signal x ≡ b
    → cond b (at base signal) now ≡ changed (cond b held kept) (at base x) now
held-cond true signal x base now e = ap (at base) (eqb-true signal x e)
held-cond false signal x base now e = refl

times-at : (n : ℕ) (f : State → Ran State) (x : ℕ) (change : Change) (h : Option ℕ)
    → ((s : State) → length (f s).here.characters ≡ length s.characters)
    → ((s : State) → x < length s.characters → at (f s).here x ≡ changed change h (at s x))
    → (s : State) → x < length s.characters → at (times n f s).here x ≡ changed (in_loop n change) h (at s x)
times-at zero f x change h sized one s within = refl
times-at (suc n) f x change h sized one s within =
    times-at n f x change h sized one (f s).here (subst (λ (k : ℕ). x < k) (sym (sized s)) within)
    ∙ (ap (changed (in_loop n change) h) (one s within) ∙ changed-looped n change h (at s x))

saved-at : (putting : Bool) (s : State) (r : Ran State) (x : ℕ) (change : Change) (h : Option ℕ)
    → at r.here x ≡ changed change (at s x) (at s x)
    → at (saved putting s r).here x ≡ changed (in_save putting change) h (at s x)
saved-at true s r x change h e = refl
saved-at false s r x change h e = e ∙ changed-saved change h (at s x)

pub run-at : (f : Flat) (x : ℕ) (base s : State) → x < length s.characters
    → at (flat_run f base s).here x ≡ changed (change_of x f) (at base x) (at s x)
run-at done x base s within = refl
run-at (table t rest) x base s within = run-at rest x base (record { table = Some t; characters = s.characters }) within
run-at (character signal c rest) x base s within =
    let now = with_character signal (Some c) s in
    run-at rest x base now (subst (λ (k : ℕ). x < k) (sym (length-set s.characters signal (Some c))) within)
    ∙ (ap (changed (change_of x rest) (at base x)) (set-cond (eqb signal x) signal x (Some c) s refl within ∙ given-cond (eqb signal x) c (at base x) (at s x))
    ∙ changed-followed (cond (eqb signal x) (given c) kept) (change_of x rest) (at base x) (at s x))
run-at (back signal rest) x base s within =
    let h = at base signal in
    let now = with_character signal h s in
    run-at rest x base now (subst (λ (k : ℕ). x < k) (sym (length-set s.characters signal h)) within)
    ∙ (ap (changed (change_of x rest) (at base x)) (set-cond (eqb signal x) signal x h s refl within ∙ held-cond (eqb signal x) signal x base (at s x) refl)
    ∙ changed-followed (cond (eqb signal x) held kept) (change_of x rest) (at base x) (at s x))
run-at (cycle mark spot rest) x base s within = run-at rest x base s within
run-at (repeat count body rest) x base s within =
    let r = times count (flat_run body base) s in
    let sized = times-length count (flat_run body base) (run-length body base) s in
    run-at rest x base r.here (subst (λ (k : ℕ). x < k) (sym sized) within)
    ∙ (ap (changed (change_of x rest) (at base x))
    (times-at count (flat_run body base) x (change_of x body) (at base x) (run-length body base) (run-at body x base) s within)
    ∙ changed-followed (in_loop count (change_of x body)) (change_of x rest) (at base x) (at s x))
run-at (save putting body rest) x base s within =
    let r = saved putting s (flat_run body s s) in
    let sized = saved-length putting s (flat_run body s s) (run-length body s s) in
    run-at rest x base r.here (subst (λ (k : ℕ). x < k) (sym sized) within)
    ∙ (ap (changed (change_of x rest) (at base x))
    (saved-at putting s (flat_run body s s) x (change_of x body) (at base x) (run-at body x s s within))
    ∙ changed-followed (in_save putting (change_of x body)) (change_of x rest) (at base x) (at s x))

-- ---- the table

times-table : (n : ℕ) (f : State → Ran State) (change : Option ℕ)
    → ((s : State) → (f s).here.table ≡ tabled change s.table)
    → (s : State) → (times n f s).here.table ≡ tabled (table_in_loop n change) s.table
times-table zero f change one s = refl
times-table (suc n) f change one s =
    times-table n f change one (f s).here
    ∙ (ap (tabled (table_in_loop n change)) (one s) ∙ tabled-looped n change s.table)

saved-table : (putting : Bool) (s : State) (r : Ran State) (change : Option ℕ) → r.here.table ≡ tabled change s.table
    → (saved putting s r).here.table ≡ tabled (table_in_save putting change) s.table
saved-table true s r change e = refl
saved-table false s r change e = e

pub run-table : (f : Flat) (base s : State) → (flat_run f base s).here.table ≡ tabled (table_of f) s.table
run-table done base s = refl
run-table (table t rest) base s =
    run-table rest base (record { table = Some t; characters = s.characters })
    ∙ tabled-followed (Some t) (table_of rest) s.table
run-table (character signal c rest) base s = run-table rest base (with_character signal (Some c) s)
run-table (back signal rest) base s = run-table rest base (with_character signal (slice_index_or base.characters signal None) s)
run-table (cycle mark spot rest) base s = run-table rest base s
run-table (repeat count body rest) base s =
    run-table rest base (times count (flat_run body base) s).here
    ∙ (ap (tabled (table_of rest)) (times-table count (flat_run body base) (table_of body) (run-table body base) s)
    ∙ tabled-followed (table_in_loop count (table_of body)) (table_of rest) s.table)
run-table (save putting body rest) base s =
    run-table rest base (saved putting s (flat_run body s s)).here
    ∙ (ap (tabled (table_of rest)) (saved-table putting s (flat_run body s s) (table_of body) (run-table body s s))
    ∙ tabled-followed (table_in_save putting (table_of body)) (table_of rest) s.table)
