-- What is found in entries of a map.
use Rattle.std.proofs.Common.{◌≡◌, Bool, cond, List, [], ◌∷◌, ◌++◌, Some, None, refl, sym, ap, ◌∙◌, inl, inr}
use Rattle.std.specs.Option.{option_or}
use Rattle.std.specs.Map.{lookup}
use Rattle.std.proofs.lemmas.Bool.{cases_Bool}

-- what is found after one more entry
pub lookup-push : {K X : Type 0} (test : K → Bool) (es : List (K × X)) (k : K) (v : X)
    → lookup test (es ++ (k, v) ∷ []) ≡ option_or (lookup test es) (cond (test k) (Some v) None)
lookup-push test [] k v = refl
lookup-push test (e ∷ es) k v =
    elim (cases_Bool (test e.0)) [
      | inl t ↦ ap (λ b. cond b (Some e.1) (lookup test (es ++ (k, v) ∷ []))) t
          ∙ sym (ap (λ b. option_or (cond b (Some e.1) (lookup test es)) (cond (test k) (Some v) None)) t)
      | inr t ↦ ap (λ b. cond b (Some e.1) (lookup test (es ++ (k, v) ∷ []))) t ∙ lookup-push test es k v
          ∙ sym (ap (λ b. option_or (cond b (Some e.1) (lookup test es)) (cond (test k) (Some v) None)) t)
    ]
