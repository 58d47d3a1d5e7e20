-- What signals need, found row by row.
use Rattle.std.proofs.Common.{◌≡◌, ℕ, ◌+◌, ◌<◌, Bool, true, false, cond, List, [], ◌∷◌, ◌++◌, length, take, Option, Some, None, slice_get, refl, ap, ◌∙◌}
use Rattle.std.specs.Borrow.{Bor}
use Rattle.std.specs.Option.{option_or, option_copied}
use Rattle.std.specs.Str.{bytes_eq}
use Rattle.std.proofs.lemmas.List.{take_more}
use Rattle.std.proofs.lemmas.Option.{get_or_from_slice_get}
use Rattle.std.specs.Map.{lookup}
use Rattle.indexmap.specs.IndexMap.{IndexMap}
use Rattle.plan_rows.specs.declared.row.BindRow.{BindRow}
use Rattle.text_bytes.proofs.MapLemmas.{lookup-push}
use Rattle.lot_plan.specs.Views.{row_in}

-- one more item is taken
pub take-next : {X : Type 0} (xs : List X) (i : ℕ) (x : X) → i < length xs → slice_get xs i ≡ Some x →
    take (i + 1) xs ≡ take i xs ++ x ∷ []
take-next xs i x within at = take_more xs i x within ∙ ap (λ y. take i xs ++ y ∷ []) (get_or_from_slice_get xs i x x at)

copied-or : {X : Type 0} (o p : Option (Bor X)) → option_copied (option_or o p) ≡ option_or (option_copied o) (option_copied p)
copied-or None p = refl
copied-or (Some x) p = refl

copied-if : {X : Type 0} (b : Bool) (x : Bor X) → option_copied (cond b (Some x) None) ≡ cond b (Some x.now) None
copied-if true x = refl
copied-if false x = refl

-- a row of a name that has none
pub row-added : {S : Type 0} (old new : IndexMap (Bor (List ℕ)) (Bor BindRow) S) (key : Bor (List ℕ)) (row : Bor BindRow)
    (signal name : List ℕ) →
    key.now ≡ signal → new.entries ≡ old.entries ++ (key, row) ∷ [] →
    row_in new name ≡ option_or (row_in old name) (cond (bytes_eq name signal) (Some row.now) None)
row-added old new key row signal name own put =
    ap (λ es. option_copied (lookup (λ (k : Bor (List ℕ)). bytes_eq name k.now) es)) put
    ∙ ap option_copied (lookup-push (λ (k : Bor (List ℕ)). bytes_eq name k.now) old.entries key row)
    ∙ copied-or (lookup (λ (k : Bor (List ℕ)). bytes_eq name k.now) old.entries) (cond (bytes_eq name key.now) (Some row) None)
    ∙ ap (option_or (row_in old name)) (copied-if (bytes_eq name key.now) row
    ∙ ap (λ n. cond (bytes_eq name n) (Some row.now) None) own)
