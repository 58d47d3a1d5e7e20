-- What calls leave in a tree serves for it.
use Rattle.std.proofs.Common.{◌≡◌, ℕ, zero, suc, ◌+◌, ◌||◌, Bool, true, false, List, [], ◌∷◌, ◌++◌, refl, ap, sym, ◌∙◌, arith, if◌then◌else◌}
use Rattle.std.proofs.lemmas.Bool.{or_parts, cond_both, cond-false}
use Rattle.stil_ast.specs.Meaning.State.{State}
use Rattle.stil_ast.specs.Meaning.Flat.{Flat, done, table, character, back, cycle, repeat, save, saved, flat_run, measure}
use Rattle.stil_ast.specs.Meaning.Flattening.{joined}
use Rattle.stil_ast.specs.Meaning.Least.{vectors_in, least_passes, least_loop, least_written}
use Rattle.stil_ast.specs.Meaning.Running.{Made, Ran, still, behind, then_run, times}
use Rattle.stil_ast.specs.Meaning.ExecutiveData.{IsSameFlat}
use Rattle.stil_ast.proofs.FlatSteps.{flat_run-joined}
use Rattle.stil_ast.proofs.RunLemmas.{then_run-same}
use Rattle.flat_tree.specs.Slots.{whole_front, wholes_flat}
use Rattle.flat_tree.specs.Kept.{has_vector, loops_in, call_front, kept}
use Rattle.flat_tree.specs.declared.flat.Whole.{Whole}
use Rattle.flat_tree.specs.declared.flat.Whole.TheVariants.{Cycle, Repeat, Save}
use Rattle.flat_tree.proofs.FlatLemmas.{joined-assoc, joined-done, measure-joined, least_written-joined}
use Rattle.flat_tree.proofs.SameLemmas.{same-refl, same-trans, same-repeat, same-save, same-table, same-character, same-back, same-cycle}

-- passes that make nothing make nothing together
times-made : (n : ℕ) (f : State → Ran State) → ((s : State) → (f s).made ≡ []) → (s : State) → (times n f s).made ≡ []
times-made zero f none s = refl
times-made (suc n) f none s =
    ap (λ (xs : List Made). xs ++ (times n f (f s).here).made) (none s) ∙ times-made n f none (f s).here

-- passes that do nothing do nothing together
times-still : (n : ℕ) (f : State → Ran State) → ((s : State) → f s ≡ still s) → (s : State) → times n f s ≡ still s
times-still zero f none s = refl
times-still (suc n) f none s = ap (λ (r : Ran State). then_run r (times n f)) (none s) ∙ times-still n f none s

-- a run that makes nothing, and then another one
nothing-then : (r q : Ran State) → r.made ≡ [] → q.made ≡ [] → (behind r.made q).made ≡ []
nothing-then r q e g = ap (λ (xs : List Made). xs ++ q.made) e ∙ g

-- without a vector nothing is made
made-none : (f : Flat) → has_vector f ≡ false → (base s : State) → (flat_run f base s).made ≡ []
made-none done e base s = refl
made-none (table t rest) e base s = made-none rest e base _
made-none (character signal c rest) e base s = made-none rest e base _
made-none (back signal rest) e base s = made-none rest e base _
made-none (cycle mark spot rest) e base s = cc
made-none (repeat count body rest) e base s =
    let parts = or_parts (has_vector body) (has_vector rest) e in
    let first = times count (flat_run body base) s in
    nothing-then first (flat_run rest base first.here) (times-made count (flat_run body base) (made-none body parts.0 base) s)
    (made-none rest parts.1 base first.here)
made-none (save true body rest) e base s =
    let parts = or_parts (has_vector body) (has_vector rest) e in
    nothing-then (flat_run body s s) (flat_run rest base s) (made-none body parts.0 s s) (made-none rest parts.1 base s)
made-none (save false body rest) e base s =
    let parts = or_parts (has_vector body) (has_vector rest) e in
    let first = flat_run body s s in
    nothing-then first (flat_run rest base first.here) (made-none body parts.0 s s) (made-none rest parts.1 base first.here)

-- a Loop whose passes make nothing takes as few instructions as its only pass, or none
least_loop-none : (n : ℕ) (least : State → ℕ) (run : State → Ran State) → ((s : State) → least s ≡ 0)
    → ((s : State) → (run s).made ≡ []) → (s : State) → least_loop n least run s ≡ 0
least_loop-none zero least run few none s = refl
least_loop-none (suc zero) least run few none s = few s
least_loop-none (suc (suc n)) least run few none s =
    ap (λ (xs : List Made). least_passes (vectors_in (record { made = xs; here = s }))
    (vectors_in (run (run s).here)) (least s) (least (run s).here)) (none s)

-- without a vector no instruction is taken
least-none : (f : Flat) → has_vector f ≡ false → (base s : State) → least_written f base s ≡ 0
least-none done e base s = refl
least-none (table t rest) e base s = least-none rest e base _
least-none (character signal c rest) e base s = least-none rest e base _
least-none (back signal rest) e base s = least-none rest e base _
least-none (cycle mark spot rest) e base s = cc
least-none (repeat count body rest) e base s =
    let parts = or_parts (has_vector body) (has_vector rest) e in
    omega (
      arith,
      least_loop-none count (least_written body base) (flat_run body base) (least-none body parts.0 base)
          (made-none body parts.0 base) s,
      least-none rest parts.1 base (times count (flat_run body base) s).here,
    )
least-none (save putting body rest) e base s =
    let parts = or_parts (has_vector body) (has_vector rest) e in
    omega (arith, least-none body parts.0 s s, least-none rest parts.1 base (saved putting s (flat_run body s s)).here)

-- loops alone do nothing
loops-still : (f : Flat) (base s : State) → flat_run (loops_in f) base s ≡ still s
loops-still done base s = refl
loops-still (table t rest) base s = loops-still rest base s
loops-still (character signal c rest) base s = loops-still rest base s
loops-still (back signal rest) base s = loops-still rest base s
loops-still (cycle mark spot rest) base s = loops-still rest base s
loops-still (repeat count body rest) base s =
    ap (λ (r : Ran State). then_run r (flat_run (loops_in rest) base))
    (times-still count (flat_run (loops_in body) base) (loops-still body base) s)
    ∙ loops-still rest base s
loops-still (save putting body rest) base s =
    flat_run-joined (loops_in body) (loops_in rest) base s
    ∙ (ap (λ (r : Ran State). then_run r (flat_run (loops_in rest) base)) (loops-still body base s)
    ∙ loops-still rest base s)

-- they have no vector
vector-joined : (a b : Flat) → has_vector a ≡ false → has_vector b ≡ false → has_vector (joined a b) ≡ false
vector-joined done b e g = g
vector-joined (table t rest) b e g = vector-joined rest b e g
vector-joined (character signal c rest) b e g = vector-joined rest b e g
vector-joined (back signal rest) b e g = vector-joined rest b e g
vector-joined (cycle mark spot rest) b e g = cc
vector-joined (repeat count body rest) b e g =
    let parts = or_parts (has_vector body) (has_vector rest) e in
    ap (λ (x : Bool). x || has_vector (joined rest b)) parts.0 ∙ vector-joined rest b parts.1 g
vector-joined (save putting body rest) b e g =
    let parts = or_parts (has_vector body) (has_vector rest) e in
    ap (λ (x : Bool). x || has_vector (joined rest b)) parts.0 ∙ vector-joined rest b parts.1 g

loops-vector : (f : Flat) → has_vector (loops_in f) ≡ false
loops-vector done = refl
loops-vector (table t rest) = loops-vector rest
loops-vector (character signal c rest) = loops-vector rest
loops-vector (back signal rest) = loops-vector rest
loops-vector (cycle mark spot rest) = loops-vector rest
loops-vector (repeat count body rest) =
    ap (λ (x : Bool). x || has_vector (loops_in rest)) (loops-vector body) ∙ loops-vector rest
loops-vector (save putting body rest) =
    vector-joined (loops_in body) (loops_in rest) (loops-vector body) (loops-vector rest)

-- without a vector the measure is that of the loops
loops-measure : (f : Flat) → has_vector f ≡ false → measure (loops_in f) ≡ measure f
loops-measure done e = refl
loops-measure (table t rest) e = loops-measure rest e
loops-measure (character signal c rest) e = loops-measure rest e
loops-measure (back signal rest) e = loops-measure rest e
loops-measure (cycle mark spot rest) e = cc
loops-measure (repeat count body rest) e =
    let parts = or_parts (has_vector body) (has_vector rest) e in
    omega (arith, loops-measure body parts.0, loops-measure rest parts.1)
loops-measure (save putting body rest) e =
    let parts = or_parts (has_vector body) (has_vector rest) e in
    omega (arith, measure-joined (loops_in body) (loops_in rest), loops-measure body parts.0, loops-measure rest parts.1)

-- the loops of a body without a vector serve for its save
loops-same : (body rest : Flat) → has_vector body ≡ false
    → IsSameFlat (joined (loops_in body) rest) (save true body rest)
loops-same body rest e =
    record {
      runs = λ base s.
          flat_run-joined (loops_in body) rest base s
          ∙ then_run-same (flat_run (loops_in body) base s) (saved true s (flat_run body s s)) (flat_run rest base)
          (flat_run rest base)
          (loops-still body base s ∙ ap (λ (xs : List Made). record { made = xs; here = s }) (sym (made-none body e s s)))
          (λ p. refl);
      measure = omega (arith, measure-joined (loops_in body) rest, loops-measure body e);
      least = λ base s.
          least_written-joined (loops_in body) rest base s
          ∙ (ap (λ (r : Ran State). least_written (loops_in body) base s + least_written rest base r.here)
          (loops-still body base s)
          ∙ ap (λ (n : ℕ). n + least_written rest base s)
          (least-none (loops_in body) (loops-vector body) base s ∙ sym (least-none body e s s)));
    }

-- what a call leaves serves for its save
front-same : (body rest : Flat) → IsSameFlat (call_front body rest) (save true body rest)
front-same body rest =
    cond_both (has_vector body) (save true body rest) (joined (loops_in body) rest)
    (λ (f : Flat). IsSameFlat f (save true body rest)) (λ e. same-refl (save true body rest)) (loops-same body rest)

-- a tree of which calls leave only what they must serves for the whole
pub kept_is_same : (f : Flat) → IsSameFlat (kept f) f
kept_is_same done = same-refl done
kept_is_same (table t rest) = same-table t (kept rest) rest (kept_is_same rest)
kept_is_same (character signal c rest) = same-character signal c (kept rest) rest (kept_is_same rest)
kept_is_same (back signal rest) = same-back signal (kept rest) rest (kept_is_same rest)
kept_is_same (cycle mark spot rest) = same-cycle mark spot (kept rest) rest (kept_is_same rest)
kept_is_same (repeat count body rest) =
    same-repeat count (kept body) body (kept rest) rest (kept_is_same body) (kept_is_same rest)
kept_is_same (save true body rest) =
    same-trans (call_front (kept body) (kept rest)) (save true (kept body) (kept rest)) (save true body rest)
    (front-same (kept body) (kept rest))
    (same-save true (kept body) body (kept rest) rest (kept_is_same body) (kept_is_same rest))
kept_is_same (save false body rest) =
    same-save false (kept body) body (kept rest) rest (kept_is_same body) (kept_is_same rest)

-- what a call leaves stands in front of what is joined to it
pub call_front-joined : (body a b : Flat) → joined (call_front body a) b ≡ call_front body (joined a b)
call_front-joined body a b = front_joined (has_vector body)
  where
    front_joined : (has : Bool)
        → joined (if has then save true body a else joined (loops_in body) a) b
        ≡ (if has then save true body (joined a b) else joined (loops_in body) (joined a b))
    front_joined true = refl
    front_joined false = joined-assoc (loops_in body) a b

-- the loops of a whole, and of what stands behind it
whole-loops : (whole : Whole) (rest : Flat)
    → loops_in (whole_front whole rest) ≡ joined (loops_in (whole_front whole done)) (loops_in rest)
whole-loops (Cycle mark place) rest = refl
whole-loops (Repeat count body) rest = refl
whole-loops (Save putting body) rest =
    ap (λ (f : Flat). joined f (loops_in rest)) (sym (joined-done (loops_in body.value)))

-- those of a whole are added, with others still to come
pub loops_more : (loops more : Flat) (whole : Whole) (rest : List Whole)
    → more ≡ joined loops (loops_in (whole_front whole done))
    → joined more (loops_in (wholes_flat rest)) ≡ joined loops (loops_in (wholes_flat (whole ∷ rest)))
loops_more loops more whole rest e =
    ap (λ (f : Flat). joined f (loops_in (wholes_flat rest))) e
    ∙ (joined-assoc loops (loops_in (whole_front whole done)) (loops_in (wholes_flat rest))
    ∙ ap (joined loops) (sym (whole-loops whole (wholes_flat rest))))

-- without a vector a call leaves its loops
pub loops_left : (body loops : Flat) → has_vector body ≡ false → loops ≡ loops_in body → loops ≡ call_front body done
loops_left body loops none e =
    e ∙ (sym (joined-done (loops_in body)) ∙ sym (cond-false (has_vector body) (save true body done) _ none))
