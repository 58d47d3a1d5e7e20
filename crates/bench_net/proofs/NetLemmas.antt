-- Names and numbers of nets.
use Rattle.std.proofs.Common.{◌≡◌, ◌≢◌, ℕ, ◌+◌, ◌<◌, ◌≤◌, Bool, not, cond, List, [], ◌∷◌, length, get_or, map, Option, Some, None, slice_get, refl, sym, ap, ◌∙◌, subst, arith, inl, inr}
use Rattle.std.proofs.lemmas.List.{length-map}
use Rattle.std.specs.List.{position, position_or_len}
use Rattle.std.specs.Str.{bytes_eq}
use Rattle.std.specs.Cmp.Lexicographic.{bytes_decides}
use Rattle.std.proofs.lemmas.List.Quantifiers.{position-Some}
use Rattle.std.proofs.lemmas.List.Sums.{fails_before_first, prefix_len-le-length}
use Rattle.std.proofs.lemmas.Option.{slice_get-get_or, slice_get_within, get_or_from_slice_get}
use Rattle.std.proofs.lemmas.Bool.{both_ways, cases_lt, lt-ltb, le-ltb}
use Rattle.bench_net.specs.Circuit.{number}

-- a name found in a list of texts stands there
name_found : (names : List (List ℕ)) (name : List ℕ) (i : ℕ) → position (bytes_eq name) names
    ≡ Some i → slice_get names i ≡ Some name
name_found names name i h =
    let at = position-Some (bytes_eq name) names i [] h in
    slice_get-get_or names i [] at.0
    ∙ ap (λ x. Some x) (sym ((bytes_decides name (get_or names i [])).0 at.1))

-- of the texts of a list, the test of one is the list's
position_or_len-map : {X : Type 0} (f : X → List ℕ) (p : List ℕ → Bool) → (xs : List X)
    → position_or_len p (map f xs) ≡ position_or_len (λ x. p (f x)) xs
position_or_len-map f p [] = refl
position_or_len-map f p (x ∷ xs) = ap (λ n. cond {A = ℕ} (not (p (f x))) (1 + n) 0)
    (position_or_len-map f p xs)

pub position-map : {X : Type 0} (f : X → List ℕ) (p : List ℕ → Bool) → (xs : List X)
    → position p (map f xs) ≡ position (λ x. p (f x)) xs
position-map f p xs = rw (position_or_len-map f p xs, length-map xs f) refl

-- where a look-up among keys with these names answers a place, the name stands there
pub slice_get-found : {X : Type 0} (f : X
    → List ℕ) (keys : List X) (names : List (List ℕ)) (name : List ℕ) (i : ℕ) → map f keys ≡ names
    → Some i ≡ position (λ x. bytes_eq name (f x)) keys → slice_get names i ≡ Some name
slice_get-found f keys names name i e h =
    name_found names name i (subst (λ (ns : List (List ℕ)). position (bytes_eq name) ns ≡ Some i) e
    (position-map f (bytes_eq name) keys ∙ sym h))

some_is_none : (o : Option ℕ) (i : ℕ) → o ≡ None → o ≡ Some i → ⊥
some_is_none o i e h = cc

absent : (names : List (List ℕ)) (name : List ℕ) → position (bytes_eq name) names ≡ None
    → length names ≤ position_or_len (bytes_eq name) names
absent names name e =
    elim (cases_lt (position_or_len (bytes_eq name) names) (length names)) [
      | inl l ↦ absurd (some_is_none (position (bytes_eq name) names)
          (position_or_len (bytes_eq name) names) e
          (rw (lt-ltb (position_or_len (bytes_eq name) names) (length names) l) refl))
      | inr l ↦ l
    ]

-- where it answers none, the name stands nowhere
pub slice_get-none : {X : Type 0} (f : X
    → List ℕ) (keys : List X) (names : List (List ℕ)) (name : List ℕ) → map f keys ≡ names → None
    ≡ position (λ x. bytes_eq name (f x)) keys → (n : ℕ) → slice_get names n ≢ Some name
slice_get-none f keys names name e h n at =
    let all : length names ≤ position_or_len (bytes_eq name) names = absent names name
    (subst (λ (ns : List (List ℕ)). position (bytes_eq name) ns
    ≡ None) e (position-map f (bytes_eq name) keys ∙ sym h)) in
    let in' : n < length names = slice_get_within names n name at in
    let before = fails_before_first (bytes_eq name) names n [] (omega arith) in
    both_ways (bytes_eq name (get_or names n [])) before
    ((bytes_decides name (get_or names n [])).1
    (sym (get_or_from_slice_get names n name [] at)))

-- a place that a look-up answers is the net's number
pub number_from_some : (names : List (List ℕ)) (name : List ℕ) (i : ℕ) → Some i
    ≡ position (bytes_eq name) names → i ≡ number names name
number_from_some names name i h =
    elim (cases_lt (position_or_len (bytes_eq name) names) (length names)) [
      | inl l ↦ some_same i (position_or_len (bytes_eq name) names) (h
          ∙ (rw (lt-ltb (position_or_len (bytes_eq name) names) (length names) l) refl))
      | inr g ↦ absurd (some_none i (h ∙ (rw (le-ltb (position_or_len (bytes_eq name) names)
          (length names) g) refl)))
    ]
  where
    some_same : (a b : ℕ) → Some a ≡ Some b → a ≡ b
    some_same a b e = cc

    some_none : (a : ℕ) → Some a ≡ None → ⊥
    some_none a e = cc

pub number_from_none : (names : List (List ℕ)) (name : List ℕ) → None
    ≡ position (bytes_eq name) names → length names ≡ number names name
number_from_none names name h =
    omega (
      arith,
      absent names name (sym h),
      prefix_len-le-length
          (λ x. not (bytes_eq name x)) names,
    )
