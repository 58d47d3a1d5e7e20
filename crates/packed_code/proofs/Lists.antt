-- Lists whose items are each as they should be.
use Rattle.std.proofs.Common.{◌≡◌, ℕ, zero, suc, ◌+◌, ◌-◌, ◌<◌, Bool, true, List, [], ◌∷◌, ◌++◌, length, get_or, map, take, replicate, append_assoc, Some, refl, ap, ◌∙◌, sym, subst, arith}
use Rattle.std.proofs.lemmas.Bool.{and_parts}
use Rattle.std.proofs.lemmas.List.{append-nil, get_or_push, length-append}
use Rattle.std.proofs.lemmas.Option.{slice_get-get_or}
use Rattle.std.specs.List.{AllByRecursion, flat_map, list_all}
use Rattle.text_bytes.proofs.ListLemmas.{all_append}
use Rattle.packed_code.specs.Conditions.{EachBehind, Each, last_of}

-- an item is as it should be behind those before it
pub behind_at : {A : Type 0} (Fits : List A → A → Type 0) (before items : List A) (i : ℕ) (d : A) → EachBehind Fits before items → i < length items
    → Fits (before ++ take i items) (get_or items i d)
behind_at Fits before [] i d each lt = absurd (omega arith)
behind_at {A} Fits before (x ∷ xs) zero d each lt = subst (λ (b : List A). Fits b x) (sym (append-nil before)) each.0
behind_at {A} Fits before (x ∷ xs) (suc i) d each lt =
    subst (λ (b : List A). Fits b (get_or xs i d)) (append_assoc before (x ∷ []) (take i xs)) (behind_at Fits (before ++ x ∷ []) xs i d each.1 (omega arith))

-- what holds behind the items before holds of each
pub each_all : {A : Type 0} (Fits : A → Type 0) (before items : List A) → EachBehind (λ before item. Fits item) before items → AllByRecursion Fits items
each_all Fits before [] each = tt
each_all Fits before (x ∷ xs) each = (each.0, each_all Fits (before ++ x ∷ []) xs each.1)

pub all_each : {A : Type 0} (Fits : A → Type 0) (before items : List A) → AllByRecursion Fits items → EachBehind (λ before item. Fits item) before items
all_each Fits before [] each = tt
all_each Fits before (x ∷ xs) each = (each.0, all_each Fits (before ++ x ∷ []) xs each.1)

pub all_at : {A : Type 0} (Fits : A → Type 0) (items : List A) (i : ℕ) (d : A) → AllByRecursion Fits items → i < length items → Fits (get_or items i d)
all_at Fits [] i d each lt = absurd (omega arith)
all_at Fits (x ∷ xs) zero d each lt = each.0
all_at Fits (x ∷ xs) (suc i) d each lt = all_at Fits xs i d each.1 (omega arith)

pub each_at : {A : Type 0} (Fits : A → Type 0) (items : List A) (i : ℕ) (d : A) → Each Fits items → i < length items → Fits (get_or items i d)
each_at Fits items i d each lt = all_at Fits items i d (each_all Fits [] items each) lt

pub all_replicate : {A : Type 0} (Fits : A → Type 0) (n : ℕ) (x : A) → Fits x → AllByRecursion Fits (replicate n x)
all_replicate Fits zero x h = tt
all_replicate Fits (suc n) x h = (h, all_replicate Fits n x h)

-- what holds of any item holds of each
pub all_of_any : {A : Type 0} (P : A → Type 0) (items : List A) → ((x : A) → P x) → AllByRecursion P items
all_of_any P [] any = tt
all_of_any P (x ∷ xs) any = (any x, all_of_any P xs any)

-- what holds of what is made of each, in lists of what is made
pub all_mapped : {A B : Type 0} (P : B → Type 0) (f : A → B) (items : List A) → AllByRecursion (λ (x : A). P (f x)) items
    → AllByRecursion P (map f items)
all_mapped P f [] all = tt
all_mapped P f (x ∷ xs) all = (all.0, all_mapped P f xs all.1)

pub all_flat : {A B : Type 0} (P : B → Type 0) (f : A → List B) (items : List A) → AllByRecursion (λ (x : A). AllByRecursion P (f x)) items
    → AllByRecursion P (flat_map f items)
all_flat P f [] all = tt
all_flat P f (x ∷ xs) all = all_append P (f x) (flat_map f xs) all.0 (all_flat P f xs all.1)

-- items that all pass a test
pub all_passing : {A : Type 0} (test : A → Bool) (items : List A) → list_all test items ≡ true
    → AllByRecursion (λ (x : A). test x ≡ true) items
all_passing test [] all = tt
all_passing test (x ∷ xs) all = let p = and_parts (test x) (list_all test xs) all in (p.0, all_passing test xs p.1)

-- the last of items that were put one behind another
pub last_of_push : {A : Type 0} (before : List A) (x : A) → last_of (before ++ x ∷ []) ≡ Some x
last_of_push before x =
    let size : length (before ++ x ∷ []) ≡ length before + 1 = length-append before (x ∷ []) in
    let place : length (before ++ x ∷ []) - 1 ≡ length before = omega arith in
    slice_get-get_or (before ++ x ∷ []) (length (before ++ x ∷ []) - 1) x (omega arith)
    ∙ ap Some (ap (λ (i : ℕ). get_or (before ++ x ∷ []) i x) place ∙ get_or_push before x x (length before) refl)

-- what holds of each item behind those before it, held by a weaker fact of each
pub behind_all : {A : Type 0} (Fits : List A → A → Type 0) (Small : A → Type 0) → ((before : List A) (x : A) → Fits before x → Small x)
    → (before items : List A) → EachBehind Fits before items → AllByRecursion Small items
behind_all Fits Small weaken before [] each = tt
behind_all Fits Small weaken before (x ∷ xs) each = (weaken before x each.0, behind_all Fits Small weaken (before ++ x ∷ []) xs each.1)
