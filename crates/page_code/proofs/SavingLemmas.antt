-- Rows and their changes, put one behind another.
use Rattle.std.proofs.Common.{◌≡◌, ℕ, ◌+◌, ◌<◌, List, [], ◌∷◌, ◌++◌, length, get_or, take, drop, Option, refl, sym, ap, subst, ◌∙◌, append_assoc}
use Rattle.std.specs.List.{flat_map}
use Rattle.std.proofs.lemmas.List.{append-nil, take_more, drop_more, take-append-drop}
use Rattle.std.proofs.lemmas.Grind.{flat_map-append}
use Rattle.tester_types.specs.Outside.{gained, GainsFront}
use Rattle.tester_types.proofs.OutsideLemmas.{gained_both, puts_stops}
use Rattle.page_code.specs.Changes.{changes}
use Rattle.page_code.specs.Spelling.{behind, change}
use Rattle.page_code.proofs.ChangesLemmas.{change_in, changes-append, changes_cut, changes_more}

-- ---- items behind those before them

behind-append : {A : Type 0} (spell : List A → A → List ℕ) (before xs ys : List A)
    → behind spell before (xs ++ ys) ≡ behind spell before xs ++ behind spell (before ++ xs) ys
behind-append spell before [] ys = ap (λ zs. behind spell zs ys) (sym (append-nil before))
behind-append {A} spell before (x ∷ xs) ys =
    ap (λ (text : List ℕ). spell before x ++ text)
    (behind-append spell (before ++ x ∷ []) xs ys
    ∙ ap (λ (zs : List A). behind spell (before ++ x ∷ []) xs ++ behind spell zs ys) (append_assoc before (x ∷ []) xs))
    ∙ sym (append_assoc (spell before x) (behind spell (before ++ x ∷ []) xs) (behind spell (before ++ x ∷ xs) ys))

-- one item more
pub behind_more : {A : Type 0} (spell : List A → A → List ℕ) (xs : List A) (i : ℕ) (d : A) → i < length xs
    → behind spell [] (take (i + 1) xs) ≡ behind spell [] (take i xs) ++ spell (take i xs) (get_or xs i d)
behind_more spell xs i d inside =
    ap (behind spell []) (take_more xs i d inside)
    ∙ behind-append spell [] (take i xs) (get_or xs i d ∷ [])
    ∙ ap (λ (text : List ℕ). behind spell [] (take i xs) ++ text) (append-nil (spell (take i xs) (get_or xs i d)))

-- a fault in one of many items
pub behind_stops : {A : Type 0} (spell : List A → A → List ℕ) (held before now : Option (List ℕ)) (xs : List A) (i : ℕ) (d : A)
    → i < length xs → before ≡ gained held (behind spell [] (take i xs)) → GainsFront before (spell (take i xs) (get_or xs i d)) now
    → GainsFront held (behind spell [] xs) now
behind_stops spell held before now xs i d inside first front =
    let split : behind spell [] (take i xs) ++ behind spell (take i xs) (get_or xs i d ∷ drop (i + 1) xs) ≡ behind spell [] xs =
    sym (behind-append spell [] (take i xs) (get_or xs i d ∷ drop (i + 1) xs))
    ∙ ap (λ ys. behind spell [] (take i xs ++ ys)) (sym (drop_more xs i d inside))
    ∙ ap (behind spell []) (take-append-drop i xs) in
    subst (λ (all : List ℕ). GainsFront held all now) split
    (puts_stops held before now (behind spell [] (take i xs)) (spell (take i xs) (get_or xs i d))
    (behind spell (take i xs ++ get_or xs i d ∷ []) (drop (i + 1) xs)) first front)

-- ---- changes

-- what the signals before one change
abbrev changes_before : List ℕ → List ℕ → ℕ → List ℕ
changes_before last row i = flat_map change (changes 0 (take i last) (take i row))

-- one signal more
pub changes_put : (held before now : Option (List ℕ)) (last row : List ℕ) (i : ℕ) → i < length last → i < length row
    → before ≡ gained held (changes_before last row i)
    → now ≡ gained before (flat_map change (change_in i (get_or last i 0) (get_or row i 0)))
    → now ≡ gained held (changes_before last row (i + 1))
changes_put held before now last row i in_last in_row first more =
    let one = change_in i (get_or last i 0) (get_or row i 0) in
    gained_both held before now (changes_before last row i) (flat_map change one) first more
    ∙ ap (gained held) (sym (ap (flat_map change) (changes_more last row i in_last in_row)
    ∙ flat_map-append change (changes 0 (take i last) (take i row)) one))

-- a fault in one of the changes
pub changes_stop : (held before now : Option (List ℕ)) (last row : List ℕ) (i : ℕ) → i < length last → i < length row
    → before ≡ gained held (changes_before last row i)
    → GainsFront before (flat_map change (change_in i (get_or last i 0) (get_or row i 0))) now
    → GainsFront held (flat_map change (changes 0 last row)) now
changes_stop held before now last row i in_last in_row first front =
    let one = change_in i (get_or last i 0) (get_or row i 0) in
    let rest = changes (i + 1) (drop (i + 1) last) (drop (i + 1) row) in
    let split : flat_map change (changes 0 last row) ≡ changes_before last row i ++ (flat_map change one ++ flat_map change rest) =
    ap (flat_map change) (changes_cut last row i in_last in_row
    ∙ ap (λ cs. changes 0 (take i last) (take i row) ++ cs)
    (changes-append i (get_or last i 0 ∷ []) (get_or row i 0 ∷ []) (drop (i + 1) last) (drop (i + 1) row) refl))
    ∙ flat_map-append change (changes 0 (take i last) (take i row)) (one ++ rest)
    ∙ ap (λ text. changes_before last row i ++ text) (flat_map-append change one rest) in
    subst (λ (all : List ℕ). GainsFront held all now) (sym split)
    (puts_stops held before now (changes_before last row i) (flat_map change one) (flat_map change rest) first front)
