-- Names of categories, and what a Selector takes, after one more entry.
use Rattle.std.proofs.Common.{◌≡◌, ℕ, Option, option_map, find, IfOk, Result, Ok, Err, cond, List, [], ◌∷◌, ◌++◌, Some, None, refl, sym, ap, ◌∙◌}
use Rattle.std.specs.Borrow.{Bor}
use Rattle.std.specs.Option.{option_or, option_copied}
use Rattle.std.specs.Str.{bytes_eq}
use Rattle.std.specs.Map.{lookup}
use Rattle.text_bytes.proofs.MapLemmas.{lookup-push}
use Rattle.indexmap.specs.IndexMap.{IndexMap, IsEmpty}
use Rattle.stil_ast.specs.declared.variable.Choice.{Choice}
use Rattle.stil_ast.specs.Meaning.Variables.{selected_choice, choice_in}
use Rattle.stil_ast.specs.declared.variable.Selection.{Selection}
use Rattle.stil_ast.specs.declared.variable.Selector.{Selector}
use Rattle.time_expr.specs.Selected.{kept_choice, choice_of}
use Rattle.expr_text.proofs.VarsLemmas.{same-comm}

-- a name for which nothing was kept has this choice
pub choice-added : {S : Type 0} (old new : IndexMap (Bor (List ℕ)) Choice S) (key : Bor (List ℕ)) (choice : Choice) (other : List ℕ)
    → new.entries ≡ old.entries ++ (key, choice) ∷ []
    → kept_choice new other ≡ option_or (kept_choice old other) (cond (bytes_eq key.now other) (Some choice) None)
choice-added old new key choice other put =
    ap (λ es. lookup (λ (k : Bor (List ℕ)). bytes_eq other k.now) es) put
    ∙ lookup-push (λ (k : Bor (List ℕ)). bytes_eq other k.now) old.entries key choice
    ∙ ap (λ b. option_or (kept_choice old other) (cond b (Some choice) None)) (same-comm other key.now)

-- where nothing is kept Typ is taken, as where nothing is selected
pub choice_of-selected : (o : Option Selection) → choice_of (option_map (λ (s : Selection). s.choice) o) ≡ selected_choice o
choice_of-selected None = refl
choice_of-selected (Some s) = refl

-- an empty index keeps nothing
pub none-kept : {S : Type 0} (choices : IndexMap (Bor (List ℕ)) Choice S) (name : List ℕ) → IsEmpty choices
    → kept_choice choices name ≡ None
none-kept choices name empty = ap (lookup (λ (k : Bor (List ℕ)). bytes_eq name k.now)) empty

-- what is kept of the selections of a Selector is what it takes
pub choices-selected : {M E : Type 0} (kept : M → List ℕ → Option Choice) (r : Result M E) (selector : Option (Bor Selector))
    (s : Bor Selector) (selections : List Selection) → selector ≡ Some s → selections ≡ s.now.selections
    → IfOk r (λ m. (name : List ℕ) → kept m name
    ≡ option_map (λ (x : Selection). x.choice) (find (λ (x : Selection). bytes_eq x.name name) selections))
    → IfOk r (λ m. (name : List ℕ) → choice_of (kept m name) ≡ choice_in (option_copied selector) name)
choices-selected kept (Err e) selector s selections is are h = h
choices-selected kept (Ok m) selector s selections is are h = λ name.
    ap choice_of (h name) ∙ choice_of-selected (find (λ (x : Selection). bytes_eq x.name name) selections)
    ∙ ap (λ (xs : List Selection). selected_choice (find (λ (x : Selection). bytes_eq x.name name) xs)) are
    ∙ ap (λ (o : Option (Bor Selector)). choice_in (option_copied o) name) (sym is)
