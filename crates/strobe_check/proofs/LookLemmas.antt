-- The looks at one signal among all looks of a moment.
use Rattle.std.proofs.Common.{◌≡◌, ℕ, ◌+◌, ◌<◌, Bool, true, false, cond, eqb, ◌&&◌, ◌||◌, List, [], ◌∷◌, ◌++◌, length, get_or, take, map, filter, Option, refl, ap, ◌∙◌}
use Rattle.std.proofs.lemmas.Bool.{cond-true, cond-false, eq-eqb, ne_eqb}
use Rattle.std.proofs.lemmas.List.{take_more, map-append, append-nil}
use Rattle.std.proofs.lemmas.List.Elements.{filter-append}
use Rattle.std.specs.List.{list_any}
use Rattle.tester_types.specs.declared.wave.Look.{Look}
use Rattle.strobe_check.specs.Step.{looks_of, opened, window_after}

one_look : (signal : ℕ) (look : ℕ × Look)
    → looks_of signal (look ∷ []) ≡ cond (eqb look.0 signal) (look.1 ∷ []) []
one_look signal look = by (eqb look.0 signal)
  where
    by : (b : Bool) → map (λ (l : ℕ × Look). l.1) (cond b (look ∷ []) []) ≡ cond b (look.1 ∷ []) []
    by true = refl
    by false = refl

looks_of-append : (signal : ℕ) (xs ys : List (ℕ × Look))
    → looks_of signal (xs ++ ys) ≡ looks_of signal xs ++ looks_of signal ys
looks_of-append signal xs ys =
    ap (map (λ (l : ℕ × Look). l.1)) (filter-append (λ l. eqb l.0 signal) xs ys)
    ∙ map-append (λ (l : ℕ × Look). l.1) (filter (λ l. eqb l.0 signal) xs)
    (filter (λ l. eqb l.0 signal) ys)

-- one more look, which is at the signal or isn't
pub looks_of-more : (signal : ℕ) (looks : List (ℕ × Look)) (i : ℕ) (d : ℕ × Look) → i < length looks
    → looks_of signal (take (i + 1) looks)
    ≡ looks_of signal (take i looks) ++ cond (eqb (get_or looks i d).0 signal) ((get_or looks i d).1 ∷ []) []
looks_of-more signal looks i d within =
    ap (looks_of signal) (take_more looks i d within)
    ∙ looks_of-append signal (take i looks) (get_or looks i d ∷ [])
    ∙ ap (λ l. looks_of signal (take i looks) ++ l) (one_look signal (get_or looks i d))

pub window_after-append : (window : Option Look) (xs ys : List Look)
    → window_after window (xs ++ ys) ≡ window_after (window_after window xs) ys
window_after-append window [] ys = refl
window_after-append window (x ∷ xs) ys = window_after-append (opened x) xs ys

-- a test of one of the looks at the signal
pub list_any-looks_of : (test : Look → Bool) (signal : ℕ) (looks : List (ℕ × Look))
    → list_any (λ look. eqb look.0 signal && test look.1) looks
    ≡ list_any test (looks_of signal looks)
list_any-looks_of test signal [] = refl
list_any-looks_of test signal (look ∷ looks) =
    ap (λ b. eqb look.0 signal && test look.1 || b) (list_any-looks_of test signal looks)
    ∙ by (eqb look.0 signal)
  where
    by : (b : Bool) → (b && test look.1 || list_any test (looks_of signal looks))
        ≡ list_any test (map (λ (l : ℕ × Look). l.1) (cond b (look ∷ filter (λ l. eqb l.0 signal) looks) (filter (λ l. eqb l.0 signal) looks)))
    by true = refl
    by false = refl

-- a look at the signal closes the window before it, and a look at another one doesn't
pub window_after-own : (window : Option Look) (signal : ℕ) (looks : List (ℕ × Look)) (i : ℕ)
    (d : ℕ × Look)
    → i < length looks
    → (get_or looks i d).0 ≡ signal
    → window_after window (looks_of signal (take (i + 1) looks)) ≡ opened (get_or looks i d).1
window_after-own window signal looks i d within own =
    let before = looks_of signal (take i looks) in
    let look = (get_or looks i d).1 in
    ap (window_after window)
    (looks_of-more signal looks i d within ∙ ap (λ l. before ++ l) (cond-true _ (look ∷ []) [] (eq-eqb _ _ own)))
    ∙ window_after-append window before (look ∷ [])

pub window_after-other : (window : Option Look) (signal : ℕ) (looks : List (ℕ × Look)) (i : ℕ)
    (d : ℕ × Look)
    → i < length looks
    → ((get_or looks i d).0 ≡ signal → ⊥)
    → window_after window (looks_of signal (take (i + 1) looks))
    ≡ window_after window (looks_of signal (take i looks))
window_after-other window signal looks i d within other =
    let before = looks_of signal (take i looks) in
    let look = (get_or looks i d).1 in
    ap (window_after window)
    (looks_of-more signal looks i d within ∙ ap (λ l. before ++ l) (cond-false _ (look ∷ []) [] (ne_eqb _ _ other)) ∙ append-nil before)
