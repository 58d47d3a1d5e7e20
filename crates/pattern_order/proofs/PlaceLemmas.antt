-- The place of a name after one more entry, and what is found at a place.
use Rattle.std.proofs.Common.{◌≡◌, ℕ, ◌<◌, Bool, true, false, cond, List, [], ◌∷◌, ◌++◌, length, Option, Some, None, is_some, sym, ap, ◌∙◌, inl, inr, refl, arith, subst}
use Rattle.std.specs.Prelude.{nat_lt, slice_get, find, position}
use Rattle.std.specs.Borrow.{Bor}
use Rattle.std.specs.List.{list_any, position_or_len}
use Rattle.std.specs.Option.{option_or}
use Rattle.std.specs.Str.{bytes_eq}
use Rattle.std.specs.Map.{lookup}
use Rattle.std.proofs.lemmas.Bool.{cases_Bool, ltb-true, ltb-false}
use Rattle.std.proofs.lemmas.Option.{none-some, same_Some, slice_get_past, slice_get_cases, get_or_from_slice_get}
use Rattle.std.proofs.lemmas.List.Quantifiers.{position-Some}
use Rattle.std.proofs.lemmas.List.Folds.{find_at}
use Rattle.text_bytes.proofs.MapLemmas.{lookup-push}
use Rattle.text_bytes.proofs.TextLemmas.{bytes_eq-comm}
use Rattle.indexmap.specs.IndexMap.{IndexMap, IsEmpty}
use Rattle.pattern_order.specs.Numbers.{place_in}

-- a name that had no place has this one
pub place-added : {S : Type 0} (old new : IndexMap (Bor (List ℕ)) ℕ S) (key : Bor (List ℕ)) (place : ℕ) (name : List ℕ)
    → new.entries ≡ old.entries ++ (key, place) ∷ []
    → place_in new name ≡ option_or (place_in old name) (cond (bytes_eq key.now name) (Some place) None)
place-added old new key place name put =
    ap (λ es. lookup (λ (k : Bor (List ℕ)). bytes_eq name k.now) es) put
    ∙ lookup-push (λ (k : Bor (List ℕ)). bytes_eq name k.now) old.entries key place
    ∙ ap (λ b. option_or (place_in old name) (cond b (Some place) None)) (bytes_eq-comm name key.now)

-- an empty index has no place
pub none-kept : {S : Type 0} (places : IndexMap (Bor (List ℕ)) ℕ S) (name : List ℕ) → IsEmpty places
    → place_in places name ≡ None
none-kept places name empty = ap (lookup (λ (k : Bor (List ℕ)). bytes_eq name k.now)) empty

-- an element stands at each place
there : {X : Type 0} (xs : List X) (k : ℕ) → k < length xs → is_some (slice_get xs k) ≡ true
there xs k lt =
    elim (slice_get_cases xs k).1 [
      | inl c ↦ ap is_some c.2
      | inr c ↦ absurd (omega (arith, c.0, lt))
    ]

module _ {X : Type 0} (p : X → Bool) where
  -- the first that passes stands at its place
  pub find-position : (xs : List X) (k : ℕ) → position p xs ≡ Some k → (find p xs ≡ slice_get xs k) × (k < length xs)
  find-position xs k h = by_cases (nat_lt (position_or_len p xs) (length xs)) refl
    where
      by_cases : (b : Bool) → nat_lt (position_or_len p xs) (length xs) ≡ b → (find p xs ≡ slice_get xs k) × (k < length xs)
      by_cases true t =
          let is : position_or_len p xs ≡ k =
          same_Some (position_or_len p xs) k (sym (ap (λ b. cond b (Some (position_or_len p xs)) None) t) ∙ h) in
          (find_at p xs ∙ ap (slice_get xs) is, subst (λ (n : ℕ). n < length xs) is (ltb-true (position_or_len p xs) (length xs) t))
      by_cases false f =
          absurd (none-some k (sym (ap (λ b. cond b (Some (position_or_len p xs)) None) f) ∙ h))

  -- where there is no place, none passes
  pub find-no_position : (xs : List X) → position p xs ≡ None → find p xs ≡ None
  find-no_position xs h = by_cases (nat_lt (position_or_len p xs) (length xs)) refl
    where
      by_cases : (b : Bool) → nat_lt (position_or_len p xs) (length xs) ≡ b → find p xs ≡ None
      by_cases true t =
          absurd (none-some (position_or_len p xs) (sym h ∙ ap (λ b. cond b (Some (position_or_len p xs)) None) t))
      by_cases false f = find_at p xs ∙ slice_get_past xs (position_or_len p xs) (ltb-false (position_or_len p xs) (length xs) f)

  find-any : (xs : List X) → is_some (find p xs) ≡ list_any p xs
  find-any [] = refl
  find-any (x ∷ xs) =
      elim (cases_Bool (p x)) [
        | inl t ↦ rw t refl
        | inr f ↦ rw f (find-any xs)
      ]

  -- there is a place where one is found
  pub position-found : (xs : List X) → is_some (position p xs) ≡ is_some (find p xs)
  position-found xs = by_position (position p xs) refl
    where
      by_position : (o : Option ℕ) → position p xs ≡ o → is_some (position p xs) ≡ is_some (find p xs)
      by_position None h = ap is_some h ∙ sym (ap is_some (find-no_position xs h))
      by_position (Some k) h =
          let found = find-position xs k h in ap is_some h ∙ sym (ap is_some found.0 ∙ there xs k found.1)

  -- there is a place where some item passes
  pub position-any : (xs : List X) → is_some (position p xs) ≡ list_any p xs
  position-any xs = position-found xs ∙ find-any xs

  -- what stands at the place passes
  pub position-passes : (xs : List X) (k : ℕ) (x : X) → position p xs ≡ Some k → slice_get xs k ≡ Some x → p x ≡ true
  position-passes xs k x h at = ap p (sym (get_or_from_slice_get xs k x x at)) ∙ (position-Some p xs k x h).1
