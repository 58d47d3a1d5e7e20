-- Values by names, as a map keeps them.
use Rattle.std.proofs.Common.{◌≡◌, ℕ, true, false, is_some, cond, List, [], ◌∷◌, ◌++◌, map, Option, Some, None, Vec, nat_eq, refl, sym, ap, ◌∙◌, inl, inr}
use Rattle.std.specs.Cmp.Lexicographic.{pointwise}
use Rattle.std.specs.Str.{bytes_eq}
use Rattle.std.specs.Map.{lookup}
use Rattle.std.specs.declared.alloc.Global.{Global}
use Rattle.std.proofs.lemmas.Bool.{cases_Bool}
use Rattle.std.proofs.lemmas.Slice.Eq.{bytes_eq-Decides}
use Rattle.expr_text.specs.Ratio.{Ratio}
use Rattle.std.proofs.lemmas.List.{map-append}
use Rattle.expr_text.specs.Vars.{value_of_name, unless_named, with_value, named_value}

-- names are the same either way
pub same-comm : (a b : List ℕ) → pointwise nat_eq a b ≡ pointwise nat_eq b a
same-comm a b =
    elim (cases_Bool (bytes_eq a b)) [
      | inl t ↦ t ∙ sym ((bytes_eq-Decides b a).1 (sym ((bytes_eq-Decides a b).0 t)))
      | inr f ↦ elim (cases_Bool (bytes_eq b a)) [
        | inl t ↦ (bytes_eq-Decides a b).1 (sym ((bytes_eq-Decides b a).0 t)) ∙ sym t
        | inr g ↦ f ∙ sym g
      ]
    ]

-- what a map finds is the value of the name
pub value_of_name-lookup : (name : List ℕ) (es : List (Vec ℕ Global × Ratio))
    → lookup (λ (k : Vec ℕ Global). bytes_eq name k.items) es ≡ value_of_name name (map named_value es)
value_of_name-lookup name [] = refl
value_of_name-lookup name (e ∷ es) =
    ap (λ (o : Option Ratio). cond (bytes_eq name e.0.items) (Some e.1) o) (value_of_name-lookup name es)
    ∙ ap (λ b. cond b (Some e.1) (value_of_name name (map named_value es))) (same-comm name e.0.items)

-- a name that is in the map keeps its value
pub with_value-known : (name : List ℕ) (value : Ratio) (vars : List (List ℕ × Ratio)) (es : List (Vec ℕ Global × Ratio))
    → map named_value es ≡ vars → true ≡ is_some (lookup (λ (k : Vec ℕ Global). bytes_eq name k.items) es)
    → vars ≡ with_value name value vars
with_value-known name value vars es are there = by_value (value_of_name name vars) refl
  where
    by_value : (found : Option Ratio) → value_of_name name vars ≡ found → vars ≡ unless_named name value vars found
    by_value (Some r) e = refl
    by_value None e =
        let clash : true ≡ false = there ∙ ap is_some (value_of_name-lookup name es ∙ ap (value_of_name name) are ∙ e) in cc

-- a name that is not in the map goes behind the others
pub with_value-new : (name : List ℕ) (value : Ratio) (vars : List (List ℕ × Ratio)) (es : List (Vec ℕ Global × Ratio))
    (k : Vec ℕ Global) → k.items ≡ name → map named_value es ≡ vars
    → lookup (λ (k : Vec ℕ Global). bytes_eq name k.items) es ≡ None
    → map named_value (es ++ (k, value) ∷ []) ≡ with_value name value vars
with_value-new name value vars es k is are new =
    map-append named_value es ((k, value) ∷ [])
    ∙ ap (λ (xs : List (List ℕ × Ratio)). xs ++ (k.items, value) ∷ []) are
    ∙ ap (λ (n : List ℕ). vars ++ (n, value) ∷ []) is
    ∙ sym (ap (unless_named name value vars) (sym (ap (value_of_name name) are) ∙ sym (value_of_name-lookup name es) ∙ new))
