-- The names of blocks that may stand once.
use Rattle.std.proofs.Common.{◌≡◌, ℕ, List, [], ◌∷◌, ◌++◌, Result, Ok, Err, map, sym, ap, ◌∙◌}
use Rattle.std.proofs.lemmas.List.{map-append}
use Rattle.answers.specs.Reading.{and_then}
use Rattle.stil_form.specs.declared.fault.FormFault.{FormFault}
use Rattle.stil_read.specs.Top.{untitled}

-- what is made of a name has this name
made-by : {X Y : Type 0} (name : X → List ℕ) (make : List ℕ → Y → X) → ((c : List ℕ) (y : Y) → name (make c y) ≡ c)
    → (inner : Result Y FormFault) (c : List ℕ) (x : X) → and_then inner (λ y. Ok (make c y)) ≡ Ok x → name x ≡ c
made-by name make keeps (Ok y) c x is = let same : make c y ≡ x = cc in ap name (sym same) ∙ keeps c y
made-by name make keeps (Err fault) c x is = cc

-- a block has the name that stands behind its keyword
pub named-by : {X Y : Type 0} (name : X → List ℕ) (make : List ℕ → Y → X) → ((c : List ℕ) (y : Y) → name (make c y) ≡ c)
    → (head : Result (List ℕ) FormFault) (inner : List ℕ → Result Y FormFault) (called : List ℕ) (x : X)
    → head ≡ Ok called → and_then head (λ c. and_then (inner c) (λ y. Ok (make c y))) ≡ Ok x → name x ≡ called
named-by name make keeps (Ok c) inner called x is whole =
    let same : c ≡ called = cc in made-by name make keeps (inner c) c x whole ∙ same
named-by name make keeps (Err fault) inner called x is whole = cc

-- one more name behind others
pub untitled-more : {X : Type 0} (name : X → List ℕ) (before : List X) (one : X) (called : List ℕ) → name one ≡ called
    → untitled (map name (before ++ one ∷ [])) ≡ untitled (map name before) ++ ([], called) ∷ []
untitled-more name before one called is =
    ap untitled (map-append name before (one ∷ []))
    ∙ map-append (λ (c : List ℕ). ([], c)) (map name before) (name one ∷ [])
    ∙ ap (λ (c : List ℕ). untitled (map name before) ++ ([], c) ∷ []) is
