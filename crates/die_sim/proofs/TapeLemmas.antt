-- A call that is added leaves the calls before it as they are.
use Rattle.std.proofs.Common.{◌≡◌, ℕ, suc, ◌+◌, ◌-◌, ◌≤◌, List, [], ◌∷◌, ◌++◌, length, take, drop, map, refl, ap, ◌∙◌, subst, arith, length-drop}
use Rattle.std.proofs.lemmas.List.{drop-append-le, take-append-le, drop_at, take_all, map_push}
use Rattle.tester_types.specs.declared.level.Drive.{Drive}
use Rattle.die_sim.specs.declared.tape.Call.{Call}
use Rattle.die_sim.specs.Taping.{call_of, AreWithin}

call_of-append : (old more : List (ℕ × Drive)) (c : Call) → c.from ≤ c.to → c.to ≤ length old → call_of (old ++ more) c ≡ call_of old c
call_of-append old more c a b =
    let front : drop c.from (old ++ more) ≡ drop c.from old ++ more = drop-append-le c.from old more (omega arith) in
    let short : c.to - c.from ≤ length (drop c.from old) = omega (arith, length-drop c.from old) in
    ap (λ (l : List (ℕ × Drive)). (let p : ℕ × List (ℕ × Drive) = (c.at, l) in p)) (ap (take (c.to - c.from)) front ∙ take-append-le (c.to - c.from) (drop c.from old) more short)

calls_kept : (old more : List (ℕ × Drive)) (calls : List Call) → AreWithin (length old) calls → map (call_of (old ++ more)) calls ≡ map (call_of old) calls
calls_kept old more [] w = refl
calls_kept old more (c ∷ cs) w =
    let here = w.each 0 c (omega arith) in
    ap (λ x. x ∷ map (call_of (old ++ more)) cs) (call_of-append old more c here.0 here.1)
    ∙ ap (λ l. call_of old c ∷ l) (calls_kept old more cs (record { each = λ k d l. w.each (suc k) d (omega (arith, l)) }))

call_of-last : (old more : List (ℕ × Drive)) (at : ℕ)
    → call_of (old ++ more) (record { at = at; from = length old; to = length old + length more }) ≡ (at, more)
call_of-last old more at =
    let n : length old + length more - length old ≡ length more = omega arith in
    ap (λ (l : List (ℕ × Drive)). (let p : ℕ × List (ℕ × Drive) = (at, l) in p))
    (ap (take (length old + length more - length old)) (drop_at old more (length old) refl) ∙ take_all (length old + length more - length old) more (omega (arith, n)))

-- the calls after one more
pub calls-push : (old more : List (ℕ × Drive)) (calls : List Call) (at : ℕ) → AreWithin (length old) calls
    → map (call_of (old ++ more)) (calls ++ record { at = at; from = length old; to = length old + length more } ∷ [])
    ≡ map (call_of old) calls ++ (at, more) ∷ []
calls-push old more calls at w =
    map_push (call_of (old ++ more)) calls (record { at = at; from = length old; to = length old + length more })
    ∙ ap (λ l. l ++ call_of (old ++ more) (record { at = at; from = length old; to = length old + length more }) ∷ []) (calls_kept old more calls w)
    ∙ ap (λ x. map (call_of old) calls ++ x ∷ []) (call_of-last old more at)

-- the same where the parts are known by equations
pub calls-added : (old more new : List (ℕ × Drive)) (calls calls' : List Call) (at from to within : ℕ)
    (view : List (ℕ × List (ℕ × Drive))) → new ≡ old ++ more → from ≡ length old → to ≡ from + length more
    → calls' ≡ calls ++ record { at = at; from = from; to = to } ∷ [] → AreWithin within calls → within ≡ length old
    → map (call_of old) calls ≡ view → map (call_of new) calls' ≡ view ++ (at, more) ∷ []
calls-added old more new calls calls' at from to within view e_new e_from e_to e_calls w e_within e_view =
    let entry : ℕ → ℕ → Call = λ f t. record { at = at; from = f; to = t } in
    ap (λ (d : List (ℕ × Drive)). map (call_of d) calls') e_new
    ∙ ap (λ (l : List Call). map (call_of (old ++ more)) l) e_calls
    ∙ ap (λ (t : ℕ). map (call_of (old ++ more)) (calls ++ entry from t ∷ [])) (e_to ∙ ap (λ (f : ℕ). f + length more) e_from)
    ∙ ap (λ (f : ℕ). map (call_of (old ++ more)) (calls ++ entry f (length old + length more) ∷ [])) e_from
    ∙ calls-push old more calls at (subst (λ (n : ℕ). AreWithin n calls) e_within w)
    ∙ ap (λ (l : List (ℕ × List (ℕ × Drive))). l ++ (at, more) ∷ []) e_view
