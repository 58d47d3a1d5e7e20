-- Texts that are put one after another, and how a fault in each of them leaves the sink.
use Rattle.std.proofs.Common.{◌≡◌, ℕ, ◌+◌, ◌<◌, List, [], ◌∷◌, ◌++◌, length, take, get_or, Option, ap, sym, ◌∙◌}
use Rattle.std.proofs.lemmas.Grind.{flat_map-append}
use Rattle.std.proofs.lemmas.List.{append-nil, take_more}
use Rattle.std.specs.List.{flat_map}
use Rattle.tester_types.specs.Outside.{gained}
use Rattle.tester_types.proofs.OutsideLemmas.{gained-gained}

-- one more text among many
flat_map-more : {X : Type 0} (text : X → List ℕ) (items : List X) (i : ℕ) (item : X) → i < length items →
    item ≡ get_or items i item → flat_map text (take (i + 1) items) ≡ flat_map text (take i items) ++ text item
flat_map-more text items i item within is =
    ap (flat_map text) (take_more items i item within ∙ ap (λ x. take i items ++ x ∷ []) (sym is))
    ∙ flat_map-append text (take i items) (item ∷ [])
    ∙ ap (λ t. flat_map text (take i items) ++ t) (append-nil (text item))

-- one more text was put
pub each_goes_on : {X : Type 0} (text : X → List ℕ) (held before now : Option (List ℕ)) (items : List X) (i : ℕ) (item : X) →
    i < length items → item ≡ get_or items i item →
    before ≡ gained held (flat_map text (take i items)) → now ≡ gained before (text item) →
    now ≡ gained held (flat_map text (take (i + 1) items))
each_goes_on text held before now items i item within is first more =
    more ∙ ap (λ was. gained was (text item)) first ∙ gained-gained held (flat_map text (take i items)) (text item)
    ∙ ap (gained held) (sym (flat_map-more text items i item within is))
