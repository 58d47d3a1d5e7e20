-- A fault is that of the first step that is refused.
use Rattle.std.proofs.Common.{◌≡◌, List, [], ◌∷◌, ◌++◌, Result, Ok, Err, refl, ap, ◌∙◌}
use Rattle.answers.specs.Reading.{and_then, stepping, IsFirstStep}

-- what stands behind one step
stepped_on : {S E F : Type 0} (step : S → E → Result S F) (reached : S) (front es : List E) (r : Result S F)
    → ((next : S) → stepping step next front ≡ Ok reached → stepping step next (front ++ es) ≡ stepping step reached es)
    → and_then r (λ next. stepping step next front) ≡ Ok reached
    → and_then r (λ next. stepping step next (front ++ es)) ≡ stepping step reached es
stepped_on step reached front es (Ok next) later is = later next is
stepped_on step reached front es (Err fault) later is = cc

-- a front, and then the rest
pub stepping-append : {S E F : Type 0} (step : S → E → Result S F) (state reached : S) (front es : List E)
    → stepping step state front ≡ Ok reached → stepping step state (front ++ es) ≡ stepping step reached es
stepping-append step state reached [] es is =
    let same : state ≡ reached = cc in ap (λ s. stepping step s es) same
stepping-append step state reached (e ∷ front) es is =
    stepped_on step reached front es (step state e) (λ next. stepping-append step next reached front es) is

-- the fault of one step, or of those behind it
met_or_later : {S E F : Type 0} (step : S → E → Result S F) (state : S) (e : E) (es : List E) (fault : F) (r : Result S F)
    → step state e ≡ r
    → ((next : S) → stepping step next es ≡ Err fault → IsFirstStep step next es fault)
    → and_then r (λ next. stepping step next es) ≡ Err fault → IsFirstStep step state (e ∷ es) fault
met_or_later step state e es fault (Ok next) stepped later is =
    let first = later next is in
    record {
      front = e ∷ first.front;
      here = first.here;
      back = first.back;
      reached = first.reached;
      split = ap (λ tail. e ∷ tail) first.split;
      front_read = ap (λ r. and_then r (λ s. stepping step s first.front)) stepped ∙ first.front_read;
      refused = first.refused;
    }
met_or_later step state e es fault (Err met) stepped later is =
    let same : met ≡ fault = cc in
    record {
      front = [];
      here = e;
      back = es;
      reached = state;
      split = refl;
      front_read = refl;
      refused = stepped ∙ ap Err same;
    }

-- a fault is that of a first refused step
pub first_is : {S E F : Type 0} (step : S → E → Result S F) (state : S) (es : List E) (fault : F)
    → stepping step state es ≡ Err fault → IsFirstStep step state es fault
first_is step state [] fault is = cc
first_is step state (e ∷ es) fault is =
    met_or_later step state e es fault (step state e) refl (λ next. first_is step next es fault) is

-- a first refused step's fault is that of the whole
pub is_first : {S E F : Type 0} (step : S → E → Result S F) (state : S) (es : List E) (fault : F)
    → IsFirstStep step state es fault → stepping step state es ≡ Err fault
is_first step state es fault first =
    ap (stepping step state) first.split
    ∙ stepping-append step state first.reached first.front (first.here ∷ first.back) first.front_read
    ∙ ap (λ r. and_then r (λ s. stepping step s first.back)) first.refused
