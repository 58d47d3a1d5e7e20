-- What is written are few instructions: equal vectors are written by equal ones.
use Rattle.std.proofs.Common.{◌≡◌, ℕ, zero, suc, ◌+◌, ◌≤◌, ◌&&◌, Bool, true, false, cond, eqb, List, [], ◌∷◌, ◌++◌, length, map, Option, Some, None, refl, sym, ap, subst, ◌∙◌, length-append, arith}
use Rattle.std.specs.Cmp.Lexicographic.{pointwise}
use Rattle.std.proofs.lemmas.Bool.{and_parts, eqb-true}
use Rattle.std.proofs.lemmas.List.{append-nil}
use Rattle.stil_ast.specs.Meaning.State.{State, Vector}
use Rattle.stil_ast.specs.Meaning.Running.{Made, Ran, times, outside}
use Rattle.stil_ast.specs.Meaning.Flat.{Flat, done, table, character, back, cycle, repeat, save, saved, flat_run}
use Rattle.stil_ast.specs.Meaning.Least.{vectors_in, same_option, same_vector, least_passes, least_loop, least_written}
use Rattle.stil_ast.specs.Meaning.ExecutiveData.{Tree, least_in}
use Rattle.packed_code.specs.declared.instr.Entry.{Entry}
use Rattle.packed_code.specs.declared.instr.Instr.{Instr}
use Rattle.packed_code.specs.declared.instr.Instr.TheVariants.{End}
use Rattle.cycle_comp.specs.Counting.{vector_count}
use Rattle.cycle_comp.specs.Written.{flats_of}
use Rattle.cycle_comp.specs.Writing.{looped}
use Rattle.cycle_comp.specs.Passes.{with_entry, same_code, later_passes, passes, with_passes, vector_at, written, flats_written}
use Rattle.cycle_comp.proofs.CountLemmas.{run-count, times-count, saved-count}
use Rattle.cycle_comp.proofs.SameLemmas.{same_code-refl, with_entry-size}

-- the vectors of a list
abbrev seen : List Made → List Vector
seen made = map (λ (m : Made). m.vector) made

-- ---- a test that vectors are equal

same_option-true : (a b : Option ℕ) → same_option a b ≡ true → a ≡ b
same_option-true None None e = refl
same_option-true (Some a) (Some b) e = ap (λ (n : ℕ). Some n) (eqb-true a b e)
same_option-true None (Some b) e = absurd cc
same_option-true (Some a) None e = absurd cc

same_characters-true : (a b : List (Option ℕ)) → pointwise same_option a b ≡ true → a ≡ b
same_characters-true [] [] e = refl
same_characters-true [] (c ∷ b) e = absurd cc
same_characters-true (c ∷ a) [] e = absurd cc
same_characters-true (c ∷ a) (d ∷ b) e =
    let both = and_parts (same_option c d) (pointwise same_option a b) e in
    ap (λ (x : Option ℕ). x ∷ a) (same_option-true c d both.0)
    ∙ ap (λ (xs : List (Option ℕ)). d ∷ xs) (same_characters-true a b both.1)

same_vector-true : (v w : Vector) → same_vector v w ≡ true → v ≡ w
same_vector-true v w e =
    let last = and_parts (same_option v.table w.table && pointwise same_option v.characters w.characters) (eqb v.mark w.mark) e in
    let both = and_parts (same_option v.table w.table) (pointwise same_option v.characters w.characters) last.0 in
    ap (λ (t : Option ℕ). record { table = t; characters = v.characters; mark = v.mark }) (same_option-true v.table w.table both.0)
    ∙ (ap (λ (cs : List (Option ℕ)). record { table = w.table; characters = cs; mark = v.mark }) (same_characters-true v.characters w.characters both.1)
    ∙ ap (λ (m : ℕ). record { table = w.table; characters = w.characters; mark = m }) (eqb-true v.mark w.mark last.1))

same_vectors-true : (a b : List Vector) → pointwise same_vector a b ≡ true → a ≡ b
same_vectors-true [] [] e = refl
same_vectors-true [] (w ∷ b) e = absurd cc
same_vectors-true (v ∷ a) [] e = absurd cc
same_vectors-true (v ∷ a) (w ∷ b) e =
    let both = and_parts (same_vector v w) (pointwise same_vector a b) e in
    ap (λ (x : Vector). x ∷ a) (same_vector-true v w both.0)
    ∙ ap (λ (xs : List Vector). w ∷ xs) (same_vectors-true a b both.1)

-- ---- vectors one after another

-- where as many stand in front, equal lists have equal parts
parts_same : (xs ys zs ws : List Made) → length xs ≡ length zs → seen (xs ++ ys) ≡ seen (zs ++ ws)
    → (seen xs ≡ seen zs) × (seen ys ≡ seen ws)
parts_same [] ys [] ws many e = (refl, e)
parts_same [] ys (z ∷ zs) ws many e = absurd (omega (arith, many))
parts_same (x ∷ xs) ys [] ws many e = absurd (omega (arith, many))
parts_same (x ∷ xs) ys (z ∷ zs) ws many e =
    let head : x.vector ≡ z.vector = cc in
    let tail : seen (xs ++ ys) ≡ seen (zs ++ ws) = cc in
    let rest = parts_same xs ys zs ws (omega (arith, many)) tail in
    (ap (λ (v : Vector). v ∷ seen xs) head ∙ ap (λ (vs : List Vector). z.vector ∷ vs) rest.0, rest.1)

-- where there are none in both there is none in each
parts_none : (xs ys : List Made) → seen (xs ++ ys) ≡ [] → (seen xs ≡ []) × (seen ys ≡ [])
parts_none [] ys e = (refl, e)
parts_none (x ∷ xs) ys e = absurd cc

-- what a save makes
saved-made : (putting : Bool) (s : State) (r : Ran State) → (saved putting s r).made ≡ r.made
saved-made true s r = refl
saved-made false s r = refl

-- ---- no vectors are written by no instructions

passes_silent : (n : ℕ) (write : State → List Instr → List Instr) (run : State → Ran State)
    → ((s : State) (code : List Instr) → vectors_in (run s) ≡ [] → write s code ≡ code) → (s : State) (code : List Instr)
    → vectors_in (times n run s) ≡ [] → with_passes n write run s code ≡ code
passes_silent zero write run one s code e = refl
passes_silent (suc zero) write run one s code e = one s code (parts_none (run s).made [] e).0
passes_silent (suc (suc n)) write run one s code e =
    ap (λ (pass : List Instr). code ++ passes n pass (write (run s).here []))
    (one s [] (parts_none (run s).made (times (suc n) run (run s).here).made e).0)
    ∙ append-nil code

pub written-silent : (e : Vector → Entry) (f : Flat) (base s : State) (code : List Instr)
    → vectors_in (flat_run f base s) ≡ [] → written e f base s code ≡ code
written-silent e done base s code none = refl
written-silent e (table t rest) base s code none = written-silent e rest base _ code none
written-silent e (character signal c rest) base s code none = written-silent e rest base _ code none
written-silent e (back signal rest) base s code none = written-silent e rest base _ code none
written-silent e (cycle mark spot rest) base s code none = absurd cc
written-silent e (repeat count body rest) base s code none =
    let r = times count (flat_run body base) s in
    let both = parts_none r.made (flat_run rest base r.here).made none in
    written-silent e rest base r.here (with_passes count (written e body base) (flat_run body base) s code) both.1
    ∙ passes_silent count (written e body base) (flat_run body base) (written-silent e body base) s code both.0
written-silent e (save putting body rest) base s code none =
    let r = saved putting s (flat_run body s s) in
    let both = parts_none r.made (flat_run rest base r.here).made none in
    written-silent e rest base r.here (written e body s s code) both.1
    ∙ written-silent e body s s code (ap seen (sym (saved-made putting s (flat_run body s s))) ∙ both.0)

-- ---- equal vectors are written by equal instructions

-- of two bodies' passes
passes_same : (n many : ℕ) (write other : State → List Instr → List Instr) (run turn : State → Ran State)
    → ((s : State) → length (run s).made ≡ many) → ((s : State) → length (turn s).made ≡ many)
    → ((s t : State) (code : List Instr) → vectors_in (run s) ≡ vectors_in (turn t) → write s code ≡ other t code)
    → (s t : State) (code : List Instr) → vectors_in (times n run s) ≡ vectors_in (times n turn t)
    → with_passes n write run s code ≡ with_passes n other turn t code
passes_same zero many write other run turn counted numbered one s t code e = refl
passes_same (suc zero) many write other run turn counted numbered one s t code e =
    one s t code (parts_same (run s).made [] (turn t).made [] (counted s ∙ sym (numbered t)) e).0
passes_same (suc (suc n)) many write other run turn counted numbered one s t code e =
    let first = parts_same (run s).made (times (suc n) run (run s).here).made (turn t).made
    (times (suc n) turn (turn t).here).made (counted s ∙ sym (numbered t)) e in
    let second = parts_same (run (run s).here).made (times n run (run (run s).here).here).made (turn (turn t).here).made
    (times n turn (turn (turn t).here).here).made (counted (run s).here ∙ sym (numbered (turn t).here)) first.1 in
    ap (λ (pass : List Instr). code ++ passes n pass (write (run s).here [])) (one s t [] first.0)
    ∙ ap (λ (pass : List Instr). code ++ passes n (other t []) pass) (one (run s).here (turn t).here [] second.0)

pub written-same : (e : Vector → Entry) (f : Flat) (base outer s t : State) (code : List Instr)
    → vectors_in (flat_run f base s) ≡ vectors_in (flat_run f outer t)
    → written e f base s code ≡ written e f outer t code
written-same e done base outer s t code same = refl
written-same e (table w rest) base outer s t code same = written-same e rest base outer _ _ code same
written-same e (character signal c rest) base outer s t code same = written-same e rest base outer _ _ code same
written-same e (back signal rest) base outer s t code same = written-same e rest base outer _ _ code same
written-same e (cycle mark spot rest) base outer s t code same =
    let head : vector_at s mark ≡ vector_at t mark = cc in
    let tail : vectors_in (flat_run rest base s) ≡ vectors_in (flat_run rest outer t) = cc in
    written-same e rest base outer s t (with_entry (e (vector_at s mark)) code) tail
    ∙ ap (λ (v : Vector). written e rest outer t (with_entry (e v) code)) head
written-same e (repeat count body rest) base outer s t code same =
    let r = times count (flat_run body base) s in
    let q = times count (flat_run body outer) t in
    let counted = times-count count (flat_run body base) (vector_count body) (run-count body base) s in
    let numbered = times-count count (flat_run body outer) (vector_count body) (run-count body outer) t in
    let both = parts_same r.made (flat_run rest base r.here).made q.made (flat_run rest outer q.here).made (counted ∙ sym numbered) same in
    written-same e rest base outer r.here q.here (with_passes count (written e body base) (flat_run body base) s code) both.1
    ∙ ap (written e rest outer q.here)
    (passes_same count (vector_count body) (written e body base) (written e body outer) (flat_run body base) (flat_run body outer)
    (run-count body base) (run-count body outer) (written-same e body base outer) s t code both.0)
written-same e (save putting body rest) base outer s t code same =
    let r = saved putting s (flat_run body s s) in
    let q = saved putting t (flat_run body t t) in
    let counted = saved-count putting s (flat_run body s s) ∙ run-count body s s in
    let numbered = saved-count putting t (flat_run body t t) ∙ run-count body t t in
    let both = parts_same r.made (flat_run rest base r.here).made q.made (flat_run rest outer q.here).made (counted ∙ sym numbered) same in
    written-same e rest base outer r.here q.here (written e body s s code) both.1
    ∙ ap (written e rest outer q.here)
    (written-same e body s t s t code
    (ap seen (sym (saved-made putting s (flat_run body s s))) ∙ (both.0 ∙ ap seen (saved-made putting t (flat_run body t t)))))

-- ---- how many they are

looped-size : (n : ℕ) (body : List Instr) → length (looped n body) ≡ length body + 2
looped-size n body = let long = length-append body (End ∷ []) in omega (arith, long)

later_passes-size : (n : ℕ) (second : List Instr) → length (later_passes n second) ≤ length second + 2
later_passes-size zero second = omega arith
later_passes-size (suc n) second = omega (arith, looped-size (suc (suc n)) second)

-- of any two passes
passes-size : (n : ℕ) (one second : List Instr) → length (passes n one second) ≤ length one + length second + 2
passes-size n [] second = omega arith
passes-size n (i ∷ one) second = step (same_code (i ∷ one) second)
  where
    step : (b : Bool)
        → length (cond b (looped (suc (suc n)) (i ∷ one)) ((i ∷ one) ++ later_passes n second))
        ≤ length (i ∷ one) + length second + 2
    step true = omega (arith, looped-size (suc (suc n)) (i ∷ one))
    step false = omega (arith, length-append (i ∷ one) (later_passes n second), later_passes-size n second)

-- of two that are alike
passes_alike-size : (n : ℕ) (one second : List Instr) → one ≡ second → length (passes n one second) ≤ length one + 2
passes_alike-size n [] second e = omega arith
passes_alike-size n (i ∷ one) second e = step (same_code (i ∷ one) second) refl
  where
    step : (b : Bool) → same_code (i ∷ one) second ≡ b
        → length (cond b (looped (suc (suc n)) (i ∷ one)) ((i ∷ one) ++ later_passes n second)) ≤ length (i ∷ one) + 2
    step true is = omega (arith, looped-size (suc (suc n)) (i ∷ one))
    step false is =
        let yes : same_code (i ∷ one) second ≡ true = subst (λ (code : List Instr). same_code (i ∷ one) code ≡ true) e (same_code-refl (i ∷ one)) in
        absurd cc

-- what is no more in each case is no more than the least
least-cases : (made later : List Vector) (x y size : ℕ) → (made ≡ [] → size ≤ 0) → (made ≡ later → size ≤ x + 2)
    → size ≤ x + y + 2 → size ≤ least_passes made later x y
least-cases [] later x y size none same all = none refl
least-cases (v ∷ made) later x y size none same all = step (pointwise same_vector (v ∷ made) later) refl
  where
    step : (b : Bool) → pointwise same_vector (v ∷ made) later ≡ b → size ≤ cond b (x + 2) (x + y + 2)
    step true e = same (same_vectors-true (v ∷ made) later e)
    step false e = all

-- a length within a bound, for what stands behind other instructions
within : (code more : List Instr) (bound : ℕ) → length more ≤ bound → length (code ++ more) ≤ length code + bound
within code more bound e = omega (arith, length-append code more, e)

passes_least : (n : ℕ) (write : State → List Instr → List Instr) (run : State → Ran State) (least : State → ℕ)
    → ((s : State) (code : List Instr) → vectors_in (run s) ≡ [] → write s code ≡ code)
    → ((s t : State) (code : List Instr) → vectors_in (run s) ≡ vectors_in (run t) → write s code ≡ write t code)
    → ((s : State) (code : List Instr) → length (write s code) ≤ length code + least s)
    → (s : State) (code : List Instr) → length (with_passes n write run s code) ≤ length code + least_loop n least run s
passes_least zero write run least silent same each s code = omega arith
passes_least (suc zero) write run least silent same each s code = each s code
passes_least (suc (suc n)) write run least silent same each s code =
    let t = (run s).here in
    let one = write s [] in
    let second = write t [] in
    within code (passes n one second) (least_loop (suc (suc n)) least run s)
    (least-cases (vectors_in (run s)) (vectors_in (run t)) (least s) (least t) (length (passes n one second))
    (λ none. nothing none)
    (λ alike. omega (arith, passes_alike-size n one second (same s t [] alike), each s []))
    (omega (arith, passes-size n one second, each s [], each t [])))
  where
    nothing : vectors_in (run s) ≡ [] → length (passes n (write s []) (write (run s).here [])) ≤ 0
    nothing none =
        let e = ap (λ (pass : List Instr). length (passes n pass (write (run s).here []))) (silent s [] none) in
        omega (arith, e)

pub written-least : (e : Vector → Entry) (f : Flat) (base s : State) (code : List Instr)
    → length (written e f base s code) ≤ length code + least_written f base s
written-least e done base s code = omega arith
written-least e (table t rest) base s code = written-least e rest base _ code
written-least e (character signal c rest) base s code = written-least e rest base _ code
written-least e (back signal rest) base s code = written-least e rest base _ code
written-least e (cycle mark spot rest) base s code =
    let one = with_entry (e (vector_at s mark)) code in
    omega (arith, with_entry-size (e (vector_at s mark)) code, written-least e rest base s one)
written-least e (repeat count body rest) base s code =
    let r = times count (flat_run body base) s in
    let pass = with_passes count (written e body base) (flat_run body base) s code in
    omega (
      arith,
      written-least e rest base r.here pass,
      passes_least count (written e body base) (flat_run body base) (least_written body base) (written-silent e body base)
          (written-same e body base base) (written-least e body base) s code,
    )
written-least e (save putting body rest) base s code =
    let r = saved putting s (flat_run body s s) in
    omega (arith, written-least e rest base r.here (written e body s s code), written-least e body s s code)

-- ---- trees

pub trees-least : (e : Vector → Entry) (trees : List Tree) (s : State) (code : List Instr)
    → length (flats_written e (flats_of trees) s code) ≤ length code + least_in trees s
trees-least e [] s code = omega arith
trees-least e (t ∷ trees) s code =
    let outer = (outside s).held in
    let one = written e t.flat outer s code in
    omega (arith, trees-least e trees (flat_run t.flat outer s).here one, written-least e t.flat outer s code)
