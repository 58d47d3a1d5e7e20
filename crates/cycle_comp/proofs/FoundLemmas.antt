-- What is found among items that are each as they should be, and what their numbers are.
use Rattle.std.proofs.Common.{◌≡◌, ℕ, zero, suc, ◌+◌, ◌<◌, ◌≤◌, ◌==◌, Bool, true, cond, List, [], ◌∷◌, ◌++◌, length, Option, Some, None, refl, sym, ap, subst, ◌∙◌, append_assoc, arith, inl, inr}
use Rattle.std.specs.Prelude.{find, slice_get}
use Rattle.std.specs.List.{list_any, filter_map, cons_option, enumerate_from, AllByRecursion}
use Rattle.std.proofs.lemmas.Bool.{cases_Bool, eqb-true, or_cases, or_left, or_right}
use Rattle.std.proofs.lemmas.Option.{none-some}
use Rattle.stil_ast.specs.Data.Texts.{upwards}
use Rattle.stil_ast.specs.Faults.Found.{first_in}
use Rattle.stil_ast.specs.declared.fault.StilFault.{StilFault}
use Rattle.stil_ast.proofs.FoundLemmas.{or_else-none}

-- no item has a fault where there is no first
pub first_all : {A : Type 0} (rule : A → Option StilFault) (xs : List A) → first_in rule xs ≡ None
    → AllByRecursion (λ (x : A). rule x ≡ None) xs
first_all rule [] none = tt
first_all rule (x ∷ xs) none =
    let p = or_else-none (rule x) (first_in rule xs) none in (p.0, first_all rule xs p.1)

-- what is found is as it should be, and passes the test
pub found_all : {A : Type 0} (P : A → Type 0) (test : A → Bool) (xs : List A) (x : A) → AllByRecursion P xs
    → find test xs ≡ Some x → P x × (test x ≡ true)
found_all P test [] x all is = absurd (none-some x is)
found_all {A} P test (y ∷ ys) x all is =
    elim (cases_Bool (test y)) [
      | inl passes ↦
          let same : ◌≡◌ {A = Option A} (Some y) (Some x) = ap (λ (b : Bool). cond b (Some y) (find test ys)) (sym passes) ∙ is in
          let one : y ≡ x = cc in
          (subst P one all.0, subst (λ (z : A). test z ≡ true) one passes)
      | inr other ↦
          found_all P test ys x all.1 (ap (λ (b : Bool). cond b (Some y) (find test ys)) (sym other) ∙ is)
    ]

-- one that is equal to an item passes its test
pub any_at : (f : ℕ → Bool) (a : ℕ) (xs : List ℕ) → list_any (λ (x : ℕ). x == a) xs ≡ true → f a ≡ true
    → list_any f xs ≡ true
any_at f a [] is here = absurd cc
any_at f a (x ∷ xs) is here =
    elim (or_cases (x == a) (list_any (λ (y : ℕ). y == a) xs) is) [
      | inl one ↦ or_left (f x) (list_any f xs) (ap f (eqb-true x a one) ∙ here)
      | inr more ↦ or_right (f x) (list_any f xs) (any_at f a xs more here)
    ]

-- numbered items stand under their numbers
pub enumerate_at : {A : Type 0} (before rest : List A)
    → AllByRecursion (λ (p : ℕ × A). slice_get (before ++ rest) p.0 ≡ Some p.1) (enumerate_from (length before) rest)
enumerate_at before [] = tt
enumerate_at {A} before (x ∷ rest) = (
  at_end before x rest,
  subst (λ (n : ℕ). AllByRecursion (λ (p : ℕ × A). slice_get (before ++ x ∷ rest) p.0 ≡ Some p.1) (enumerate_from n rest))
      (one_more before x)
      (subst (λ (l : List A). AllByRecursion (λ (p : ℕ × A). slice_get l p.0 ≡ Some p.1)
      (enumerate_from (length (before ++ x ∷ [])) rest)) (append_assoc before (x ∷ []) rest)
      (enumerate_at (before ++ x ∷ []) rest)),
)
  where
    at_end : (before : List A) (x : A) (rest : List A) → slice_get (before ++ x ∷ rest) (length before) ≡ Some x
    at_end [] x rest = refl
    at_end (y ∷ ys) x rest = at_end ys x rest

    one_more : (before : List A) (x : A) → length (before ++ x ∷ []) ≡ length before + 1
    one_more [] x = omega arith
    one_more (y ∷ ys) x = omega (arith, one_more ys x)

-- the same from 0 on
pub numbered_at : {A : Type 0} (items : List A)
    → AllByRecursion (λ (p : ℕ × A). slice_get items p.0 ≡ Some p.1) (enumerate_from 0 items)
numbered_at items = enumerate_at [] items

-- what holds of all items with their numbers holds of the one under a number
pub all_under : {A : Type 0} (P : ℕ → A → Type 0) (n : ℕ) (xs : List A) (i : ℕ) (x : A)
    → AllByRecursion (λ (p : ℕ × A). P p.0 p.1) (enumerate_from n xs) → slice_get xs i ≡ Some x → P (n + i) x
all_under P n [] i x all at = absurd (none-some x at)
all_under {A} P n (y ∷ ys) zero x all at =
    let same : y ≡ x = cc in
    let here : n + 0 ≡ n = omega arith in
    subst (λ (m : ℕ). P m x) (sym here) (subst (λ (z : A). P n z) same all.0)
all_under P n (y ∷ ys) (suc i) x all at =
    let moved : n + suc i ≡ n + 1 + i = omega arith in
    subst (λ (m : ℕ). P m x) (sym moved) (all_under P (n + 1) ys i x all.1 at)

-- consecutive numbers are below their end
pub all_below : (from count : ℕ) → AllByRecursion (λ (s : ℕ). s < from + count) (upwards from count)
all_below from zero = tt
all_below from (suc count) =
    let same : suc from + count ≡ from + suc count = omega arith in
    (omega arith, subst (λ (m : ℕ). AllByRecursion (λ (s : ℕ). s < m) (upwards (suc from) count)) same (all_below (suc from) count))

-- what is left of items is not more
pub fewer : {A B : Type 0} (f : A → Option B) (xs : List A) → length (filter_map f xs) ≤ length xs
fewer f [] = omega arith
fewer {A} {B} f (x ∷ xs) = put (f x) (fewer f xs)
  where
    put : (o : Option B) → length (filter_map f xs) ≤ length xs
        → length (cons_option o (filter_map f xs)) ≤ suc (length xs)
    put None rest = omega (arith, rest)
    put (Some b) rest = omega (arith, rest)
