-- Lists whose items are each as they should be, and what is made of each item in turn.
use Rattle.std.proofs.Common.{◌≡◌, ℕ, zero, suc, ◌+◌, ◌<◌, Bool, true, false, not, cond, List, [], ◌∷◌, ◌++◌, get_or, refl, ap, ◌∙◌, arith}
use Rattle.std.specs.List.{AllByRecursion, list_all, list_any, filter, flat_map, range_with_len}
use Rattle.std.proofs.lemmas.Bool.{and_parts, not-true, or_from}

-- ---- what holds of each item

-- what holds of any
pub all_any : {X : Type 0} (Q : X → Type 0) → ((x : X) → Q x) → (xs : List X) → AllByRecursion Q xs
all_any Q each [] = tt
all_any Q each (x ∷ xs) = (each x, all_any Q each xs)

-- the item at an index, or the default
pub all_or : {X : Type 0} (P : X → Type 0) (xs : List X) (i : ℕ) (d : X) → AllByRecursion P xs → P d → P (get_or xs i d)
all_or P [] i d all none = none
all_or P (x ∷ xs) zero d all none = all.0
all_or P (x ∷ xs) (suc i) d all none = all_or P xs i d all.1 none

-- what two lists of facts say
pub all_both : {X : Type 0} (P Q R : X → Type 0) → ((x : X) → P x → Q x → R x) → (xs : List X) → AllByRecursion P xs → AllByRecursion Q xs
    → AllByRecursion R xs
all_both P Q R each [] p q = tt
all_both P Q R each (x ∷ xs) p q = (each x p.0 q.0, all_both P Q R each xs p.1 q.1)

-- the numbers of a range
pub all_range : (from n most : ℕ) → from + n ≡ most → AllByRecursion (λ i. i < most) (range_with_len from n)
all_range from zero most e = tt
all_range from (suc n) most e = (omega arith, all_range (from + 1) n most (omega arith))

-- ---- tests

-- no item passes, where each fails
pub none_passes : {X : Type 0} (test : X → Bool) (xs : List X) → list_all (λ x. not (test x)) xs ≡ true → list_any test xs ≡ false
none_passes test [] h = refl
none_passes test (x ∷ xs) h =
    let parts = and_parts (not (test x)) (list_all (λ y. not (test y)) xs) h in
    or_from (test x) (list_any test xs) (not-true (test x) parts.0) (none_passes test xs parts.1)

-- ---- what is made of each item

-- the same of each, the same in all
pub flat_same : {X Y : Type 0} (f g : X → List Y) (xs : List X) → AllByRecursion (λ x. f x ≡ g x) xs → flat_map f xs ≡ flat_map g xs
flat_same f g [] all = refl
flat_same f g (x ∷ xs) all = ap (λ ys. ys ++ flat_map f xs) all.0 ∙ ap (λ ys. g x ++ ys) (flat_same f g xs all.1)

kept_by : {X Y : Type 0} (f : X → List Y) (b : Bool) (x : X) (xs : List X)
    → cond b (f x) [] ++ flat_map f xs ≡ flat_map f (cond b (x ∷ xs) xs)
kept_by f true x xs = refl
kept_by f false x xs = refl

-- what is made of those that are kept
pub flat_kept : {X Y : Type 0} (f : X → List Y) (test : X → Bool) (xs : List X)
    → flat_map (λ x. cond (test x) (f x) []) xs ≡ flat_map f (filter test xs)
flat_kept f test [] = refl
flat_kept f test (x ∷ xs) =
    ap (λ ys. cond (test x) (f x) [] ++ ys) (flat_kept f test xs) ∙ kept_by f (test x) x (filter test xs)
