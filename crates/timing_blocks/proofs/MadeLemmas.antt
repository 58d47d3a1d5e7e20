-- A machine whose state is made of what was read comes to what is made of all that is read.
use Rattle.std.proofs.Common.{◌≡◌, List, [], ◌∷◌, ◌++◌, Result, Ok, Err, refl, ap, ◌∙◌}
use Rattle.answers.specs.Reading.{and_then, reading, stepping}

-- a value that is handed on
pub and_then_ok : {X F : Type 0} (r : Result X F) → and_then r (λ x. Ok x) ≡ r
and_then_ok (Ok x) = refl
and_then_ok (Err fault) = refl

-- one step, and those behind it
made_on : {S X E F : Type 0} (step : S → E → Result S F) (judge : List X → E → Result X F) (made : List X → S)
    (before : List X) (es : List E) (r : Result X F)
    → ((x : X) → stepping step (made (before ++ x ∷ [])) es
    ≡ and_then (reading judge (before ++ x ∷ []) es) (λ all. Ok (made all)))
    → and_then (and_then r (λ x. Ok (made (before ++ x ∷ [])))) (λ next. stepping step next es)
    ≡ and_then (and_then r (λ x. reading judge (before ++ x ∷ []) es)) (λ all. Ok (made all))
made_on step judge made before es (Ok x) later = later x
made_on step judge made before es (Err fault) later = refl

-- where each step makes the state of one item more
pub stepping-made : {S X E F : Type 0} (step : S → E → Result S F) (judge : List X → E → Result X F) (made : List X → S)
    → ((before : List X) (e : E) → step (made before) e ≡ and_then (judge before e) (λ x. Ok (made (before ++ x ∷ []))))
    → (before : List X) (es : List E)
    → stepping step (made before) es ≡ and_then (reading judge before es) (λ all. Ok (made all))
stepping-made step judge made one before [] = refl
stepping-made step judge made one before (e ∷ es) =
    ap (λ r. and_then r (λ next. stepping step next es)) (one before e)
    ∙ made_on step judge made before es (judge before e) (λ x. stepping-made step judge made one (before ++ x ∷ []) es)
