-- Items read one after another, up to the first fault in their order.
use Rattle.std.specs.Prelude.{◌≡◌, List, [], ◌∷◌, ◌++◌, Result, Ok, Err}

-- one step after another
abbrev pub and_then : {X Y F : Type 0} → Result X F → (X → Result Y F) → Result Y F
and_then (Ok x) next = next x
and_then (Err fault) next = Err fault

-- each item moves a state on, or is refused
abbrev pub stepping : {S E F : Type 0} → (S → E → Result S F) → S → List E → Result S F
stepping step state [] = Ok state
stepping step state (e ∷ es) = and_then (step state e) (λ next. stepping step next es)

-- each item is judged by what was read of those before it
abbrev pub reading : {X E F : Type 0} → (List X → E → Result X F) → List X → List E → Result (List X) F
reading judge before [] = Ok before
reading judge before (e ∷ es) = and_then (judge before e) (λ x. reading judge (before ++ x ∷ []) es)

-- the first item that is refused: those before it are read, and it has this fault
pub record IsFirst {X E F : Type 0} (judge : List X → E → Result X F) (before : List X) (es : List E) (fault : F)
    : Type 0 where
  pub front : List E
  pub here : E
  pub back : List E
  pub read : List X
  pub split : es ≡ front ++ here ∷ back
  pub front_read : reading judge before front ≡ Ok read
  pub refused : judge read here ≡ Err fault

-- the same, where each item moves a state on
pub record IsFirstStep {S E F : Type 0} (step : S → E → Result S F) (state : S) (es : List E) (fault : F) : Type 0 where
  pub front : List E
  pub here : E
  pub back : List E
  pub reached : S
  pub split : es ≡ front ++ here ∷ back
  pub front_read : stepping step state front ≡ Ok reached
  pub refused : step reached here ≡ Err fault
