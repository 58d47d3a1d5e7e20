-- Lists whose items are each as they should be, behind those before them or alone.
use Rattle.std.proofs.Common.{◌≡◌, Bool, true, List, [], ◌∷◌, ◌++◌, map, Option, Some, None, refl, sym, ap, subst, append_assoc}
use Rattle.std.proofs.lemmas.Bool.{and_from}
use Rattle.std.proofs.lemmas.List.{append-nil}
use Rattle.std.specs.List.{list_all, flat_map, filter_map, cons_option, AllByRecursion}
use Rattle.text_bytes.proofs.ListLemmas.{all_append}
use Rattle.packed_code.specs.Conditions.{EachBehind}

-- each item fits behind those before it where it does so wherever the list is cut
pub each_behind_cuts : {A : Type 0} (Fits : List A → A → Type 0) (before items : List A)
    → ((a b : List A) (x : A) → items ≡ a ++ x ∷ b → Fits (before ++ a) x) → EachBehind Fits before items
each_behind_cuts {A} Fits before [] cut = tt
each_behind_cuts {A} Fits before (y ∷ ys) cut = (
  subst (λ (b : List A). Fits b y) (append-nil before) (cut [] ys y refl),
  each_behind_cuts Fits (before ++ y ∷ []) ys (λ a b x is.
      subst (λ (l : List A). Fits l x) (sym (append_assoc before (y ∷ []) a)) (cut (y ∷ a) b x (ap (λ l. y ∷ l) is))),
)

-- what holds of all items holds of the one at a cut
pub all_cut : {A : Type 0} (P : A → Type 0) (items a b : List A) (x : A) → AllByRecursion P items
    → items ≡ a ++ x ∷ b → P x
all_cut {A} P items a b x all is = inside a (subst (λ (l : List A). AllByRecursion P l) is all)
  where
    inside : (a : List A) → AllByRecursion P (a ++ x ∷ b) → P x
    inside [] all = all.0
    inside (y ∷ a) all = inside a all.1

-- items that are mapped
pub all_map : {A B : Type 0} (f : A → B) (Old : A → Type 0) (New : B → Type 0)
    → ((a : A) → Old a → New (f a)) → (xs : List A) → AllByRecursion Old xs → AllByRecursion New (map f xs)
all_map f Old New one [] all = tt
all_map f Old New one (x ∷ xs) all = (one x all.0, all_map f Old New one xs all.1)

-- items that are each made a list
pub all_flat_map : {A B : Type 0} (f : A → List B) (Old : A → Type 0) (New : B → Type 0)
    → ((a : A) → Old a → AllByRecursion New (f a))
    → (xs : List A) → AllByRecursion Old xs → AllByRecursion New (flat_map f xs)
all_flat_map f Old New one [] all = tt
all_flat_map f Old New one (x ∷ xs) all =
    all_append New (f x) (flat_map f xs) (one x all.0) (all_flat_map f Old New one xs all.1)

-- items of which some are left out
pub all_filter_map : {A B : Type 0} (f : A → Option B) (Old : A → Type 0) (New : B → Type 0)
    → ((a : A) (b : B) → Old a → f a ≡ Some b → New b)
    → (xs : List A) → AllByRecursion Old xs → AllByRecursion New (filter_map f xs)
all_filter_map f Old New one [] all = tt
all_filter_map {A} {B} f Old New one (x ∷ xs) all = put (f x) refl (all_filter_map f Old New one xs all.1)
  where
    put : (o : Option B) → f x ≡ o → AllByRecursion New (filter_map f xs)
        → AllByRecursion New (cons_option o (filter_map f xs))
    put None is rest = rest
    put (Some b) is rest = (one x b all.0 is, rest)

-- and back
pub passing_all : {A : Type 0} (test : A → Bool) (xs : List A) → AllByRecursion (λ (x : A). test x ≡ true) xs
    → list_all test xs ≡ true
passing_all test [] all = refl
passing_all test (x ∷ xs) all = and_from (test x) (list_all test xs) all.0 (passing_all test xs all.1)

-- both hold of each
pub all_both : {A : Type 0} (P Q : A → Type 0) (xs : List A) → AllByRecursion P xs → AllByRecursion Q xs
    → AllByRecursion (λ (x : A). P x × Q x) xs
all_both P Q [] p q = tt
all_both P Q (x ∷ xs) p q = ((p.0, q.0), all_both P Q xs p.1 q.1)
