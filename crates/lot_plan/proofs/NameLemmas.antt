-- Names in sets, and rows by their kinds.
use Rattle.std.proofs.Common.{◌≡◌, ℕ, ◌+◌, ◌<◌, ◌≤◌, Bool, true, false, ◌||◌, cond, List, [], ◌∷◌, ◌++◌, length, map, drop, get_or, refl, sym, ap, ◌∙◌, subst, inl, inr}
use Rattle.std.specs.Prelude.{All}
use Rattle.std.specs.Borrow.{Bor}
use Rattle.std.specs.List.{list_any}
use Rattle.std.specs.Str.{bytes_eq}
use Rattle.std.specs.Cmp.Lexicographic.{bytes_decides}
use Rattle.text_bytes.proofs.ListLemmas.{drop-item}
use Rattle.std.proofs.lemmas.Bool.{cases_Bool}
use Rattle.std.proofs.lemmas.List.{get_or-map, length-map, map-append}
use Rattle.std.proofs.lemmas.List.Folds.{list_any-append}
use Rattle.std.proofs.Math.Bool.{or-false}
use Rattle.plan_rows.specs.Limits.{last_site}
use Rattle.text_bytes.specs.Texts.{behind, added}
use Rattle.packed_code.specs.declared.parts.CodeSignal.{CodeSignal}
use Rattle.plan_rows.specs.declared.row.DieRow.{DieRow}
use Rattle.lot_plan.specs.Needs.{has_name}

-- of the texts of a list, whether one passes
list_any-map : {X : Type 0} (f : X → List ℕ) (p : List ℕ → Bool) → (xs : List X)
    → list_any p (map f xs) ≡ list_any (λ x. p (f x)) xs
list_any-map f p [] = refl
list_any-map f p (x ∷ xs) = ap (λ b. p (f x) || b) (list_any-map f p xs)

-- a new key goes behind the others
pub keys-absent : {X : Type 0} (f : X → List ℕ) (keys keys' : List X) (k : X) → false
    ≡ list_any (bytes_eq (f k)) (map f keys) → keys'
    ≡ cond (list_any (λ j. bytes_eq (f k) (f j)) keys) keys (keys ++ k ∷ []) → map f keys'
    ≡ map f keys ++ f k ∷ []
keys-absent f keys keys' k h put =
    ap (map f) (put ∙ ap (λ b. cond b keys (keys ++ k ∷ []))
    (sym (list_any-map f (bytes_eq (f k)) keys) ∙ sym h))
    ∙ map-append f keys (k ∷ [])

-- a name that isn't there goes behind the others
pub with_file-new : (files made : List (List ℕ)) (name : List ℕ) → false ≡ list_any (bytes_eq name) files →
    made ≡ files ++ name ∷ [] →
    made ≡ added files name
with_file-new files made name fresh is = is ∙ ap (λ b. cond b files (files ++ name ∷ [])) fresh

or_same : (a b : Bool) → (b ≡ true → a ≡ true) → a ≡ (a || b)
or_same true b h = refl
or_same false true h = h refl
or_same false false h = refl

-- the names that are there after one more
pub any-with_file : (files : List (List ℕ)) (file name : List ℕ) →
    list_any (bytes_eq name) (added files file) ≡ (list_any (bytes_eq name) files || bytes_eq name file)
any-with_file files file name =
    elim (cases_Bool (list_any (bytes_eq file) files)) [
      | inl e ↦ ap (λ b. list_any (bytes_eq name) (cond b files (files ++ file ∷ []))) e
          ∙ or_same (list_any (bytes_eq name) files) (bytes_eq name file)
          (λ same. ap (λ (n : List ℕ). list_any (bytes_eq n) files) ((bytes_decides name file).0 same) ∙ e)
      | inr e ↦ ap (λ b. list_any (bytes_eq name) (cond b files (files ++ file ∷ []))) e
          ∙ list_any-append (bytes_eq name) files (file ∷ [])
          ∙ ap (λ b. list_any (bytes_eq name) files || b) (or-false (bytes_eq name file))
    ]

or_assoc : (a b c : Bool) → ((a || b) || c) ≡ (a || (b || c))
or_assoc true b c = refl
or_assoc false b c = refl

-- the name of one more signal
pub any-signal : (files made : List (List ℕ)) (signals : List CodeSignal) (i : ℕ) (signal : CodeSignal) (file name : List ℕ)
    (all : Bool) →
    i < length signals → signal ≡ get_or signals i signal → made ≡ added files file → file ≡ signal.name →
    (list_any (bytes_eq name) files || list_any (has_name name) (drop i signals)) ≡ all →
    (list_any (bytes_eq name) made || list_any (has_name name) (drop (i + 1) signals)) ≡ all
any-signal files made signals i signal file name all within is put own before =
    ap (λ m. list_any (bytes_eq name) m || list_any (has_name name) (drop (i + 1) signals)) put
    ∙ ap (λ b. b || list_any (has_name name) (drop (i + 1) signals)) (any-with_file files file name)
    ∙ or_assoc (list_any (bytes_eq name) files) (bytes_eq name file) (list_any (has_name name) (drop (i + 1) signals))
    ∙ ap (λ f. list_any (bytes_eq name) files || (bytes_eq name f || list_any (has_name name) (drop (i + 1) signals))) own
    ∙ ap (λ rest. list_any (bytes_eq name) files || list_any (has_name name) rest) (sym (drop-item signals i signal within is))
    ∙ before

-- what holds of each of what references point to holds of the one at hand
pub each-behind : {X : Type 0} (P : X → Type 0) (items : List (Bor X)) (i : ℕ) (item : Bor X) → All P (behind items) →
    i < length items →
    item ≡ get_or items i item → P item.now
each-behind P items i item all within is =
    let at : get_or (behind items) i item.now ≡ item.now = get_or-map (λ b. b.now) items i item item.now within
    ∙ ap (λ b. b.now) (sym is) in
    subst P at (all i item.now (rw length-map within))

-- the site at hand is small, where all are
pub site-within : (dies : List (Bor DieRow)) (i : ℕ) (die : Bor DieRow) → All (λ d. d.site ≤ last_site) (behind dies) →
    i < length dies →
    die ≡ get_or dies i die → die.now.site ≤ last_site
site-within dies i die all within is = each-behind (λ (d : DieRow). d.site ≤ last_site) dies i die all within is
