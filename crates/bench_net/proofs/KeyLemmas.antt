-- Names as the keys of sets.
use Rattle.std.proofs.Common.{◌≡◌, ℕ, ◌≤◌, Bool, List, [], ◌∷◌, ◌++◌, length, get_or, take, drop, ◌-◌, map, Some, None, refl, sym, ap, ◌∙◌, subst, arith, inl, inr}
use Rattle.std.specs.List.{find, flat_map}
use Rattle.std.proofs.lemmas.Bool.{cases_Bool}
use Rattle.std.proofs.lemmas.List.{take_rest}
use Rattle.bench_net.specs.declared.line.Line.{Line}
use Rattle.bench_net.specs.Net.{used}
use Rattle.bench_net.specs.Views.{form_of}

-- the first that passes of two lists
pub find_append_some : {X : Type 0} (p : X → Bool) (xs ys : List X) (x : X) → Some x ≡ find p xs
    → Some x ≡ find p (xs ++ ys)
find_append_some p [] ys x h = absurd (some_is_not_none h)
  where
    some_is_not_none : {X : Type 0} {x : X} → Some x ≡ None → ⊥
    some_is_not_none h = cc
find_append_some p (y ∷ xs) ys x h =
    elim (cases_Bool (p y)) [
      | inl e ↦ rw (e) (rw (e) at h)
      | inr e ↦ rw (e) (find_append_some p xs ys x (rw (e) at h))
    ]

-- where none of the first list passes, the second decides
pub find_append_none : {X : Type 0} (p : X → Bool) (xs ys : List X) → None ≡ find p xs
    → find p (xs ++ ys) ≡ find p ys
find_append_none p [] ys h = refl
find_append_none p (y ∷ xs) ys h =
    elim (cases_Bool (p y)) [
      | inl e ↦ absurd (none_is_not_some (rw (e) at h))
      | inr e ↦ rw (e) (find_append_none p xs ys (rw (e) at h))
    ]
  where
    none_is_not_some : {X : Type 0} {x : X} → None ≡ Some x → ⊥
    none_is_not_some h = cc

-- where the first of a list has none that passes, the rest decides
pub find_rest : (p : List ℕ → Bool) (rest : List Line) (y : Line) → 1 ≤ length rest → y
    ≡ get_or rest 0 y → None ≡ find p (used (form_of y))
    → find p (flat_map used (map form_of (take (length rest - 1) (drop 1 rest))))
    ≡ find p (flat_map used (map form_of rest))
find_rest p [] y some at h = absurd (omega arith)
find_rest p (z ∷ zs) y some at h =
    ap (λ (ls : List Line). find p (flat_map used (map form_of ls))) (take_rest (z ∷ zs) 1)
    ∙ sym (find_append_none p (used (form_of z)) (flat_map used (map form_of zs))
    (subst (λ (l : Line). None ≡ find p (used (form_of l))) at h))
