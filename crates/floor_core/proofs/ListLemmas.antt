-- Lists that are told apart by a test, and facts on each item of them.
use Rattle.std.proofs.Common.{◌≡◌, Bool, true, false, List, [], ◌∷◌, Option, Some, cond, filter, sym, refl, ap, ◌∙◌}
use Rattle.std.specs.List.{find, AllByRecursion}
use Rattle.std.proofs.lemmas.Bool.{cond_both}

-- what is so of each item that a test lets through is so without the first
pub each-tail : {X : Type 0} (P : X → Type 0) (test : X → Bool) (x : X) (xs : List X) → AllByRecursion P (filter test (x ∷ xs))
    → AllByRecursion P (filter test xs)
each-tail P test x xs =
    elim (test x) as (λ b. AllByRecursion P (cond b (x ∷ filter test xs) (filter test xs)) → AllByRecursion P (filter test xs))
    [ true ↦ λ a. a.1 | false ↦ λ a. a ]

-- a test lets an item through
pub filter-yes : {X : Type 0} (test : X → Bool) (x : X) (xs : List X) → test x ≡ true → filter test (x ∷ xs) ≡ x ∷ filter test xs
filter-yes test x xs e = ap (λ b. cond b (x ∷ filter test xs) (filter test xs)) e

-- or keeps it back
pub filter-no : {X : Type 0} (test : X → Bool) (x : X) (xs : List X) → test x ≡ false → filter test (x ∷ xs) ≡ filter test xs
filter-no test x xs e = ap (λ b. cond b (x ∷ filter test xs) (filter test xs)) e

-- the first item that passes a test is the first one among those that a weaker test lets through
pub find-filter : {X : Type 0} (test wide : X → Bool) → ((x : X) → test x ≡ true → wide x ≡ true) → (xs : List X)
    → find test (filter wide xs) ≡ find test xs
find-filter test wide weaker [] = refl
find-filter {X = X} test wide weaker (x ∷ xs) =
    let rest = find-filter test wide weaker xs in
    cond_both (wide x) (x ∷ filter wide xs) (filter wide xs) (λ (l : List X). find test l ≡ find test (x ∷ xs))
    (λ yes. ap (λ (o : Option X). cond (test x) (Some x) o) rest)
    (λ not. rest ∙ sym (ap (λ b. cond b (Some x) (find test xs)) (missed (test x) (wide x) (weaker x) not)))
  where
    missed : (b w : Bool) → (b ≡ true → w ≡ true) → w ≡ false → b ≡ false
    missed true w implied not = let never : true ≡ false = sym (implied refl) ∙ not in cc
    missed false w implied not = refl
