-- Two lists item by item, and the place of an item.
use Rattle.std.proofs.Common.{◌≡◌, ℕ, zero, suc, ◌+◌, Bool, not, cond, List, [], ◌∷◌, map, slice_get, Some, refl, ap, ◌∙◌, arith}
use Rattle.std.specs.List.{AllZip, AllByRecursion, enumerate_from, position_or_len}
use Rattle.flat_fine.proofs.ListLemmas.{no_item, one_item}

-- ---- two lists item by item

-- another relation, over what the second list is mapped to
pub zip_map : {A B C : Type 0} (R : A → B → Type 0) (S : A → C → Type 0) (f : B → C) (xs : List A) (ys : List B)
    → ((x : A) (y : B) → R x y → S x (f y)) → AllZip R xs ys → AllZip S xs (map f ys)
zip_map R S f [] [] so all = tt
zip_map R S f [] (y ∷ ys) so all = absurd all
zip_map R S f (x ∷ xs) [] so all = absurd all
zip_map R S f (x ∷ xs) (y ∷ ys) so all = (so x y all.0, zip_map R S f xs ys so all.1)

-- each item beside what it is mapped to
pub zip_self : {A B : Type 0} (R : A → B → Type 0) (f : A → B) (xs : List A) → AllByRecursion (λ x. R x (f x)) xs → AllZip R xs (map f xs)
zip_self R f [] all = tt
zip_self R f (x ∷ xs) all = (all.0, zip_self R f xs all.1)

-- a test that is passed beside each number that passes another finds the same place
pub same_place : {B : Type 0} (P : ℕ → Type 0) (R : ℕ → B → Type 0) (one : ℕ → Bool) (two : B → Bool) (xs : List ℕ) (ys : List B)
    → ((x : ℕ) (y : B) → P x → R x y → two y ≡ one x) → AllByRecursion P xs → AllZip R xs ys
    → position_or_len two ys ≡ position_or_len one xs
same_place P R one two [] [] so of all = refl
same_place P R one two [] (y ∷ ys) so of all = absurd all
same_place P R one two (x ∷ xs) [] so of all = absurd all
same_place P R one two (x ∷ xs) (y ∷ ys) so of all =
    ap (λ (b : Bool). cond (not b) (1 + position_or_len two ys) 0) (so x y of.0 all.0)
    ∙ ap (λ (n : ℕ). cond (not (one x)) (1 + n) 0) (same_place P R one two xs ys so of.1 all.1)

-- ---- items with their numbers

pub enumerated : {A : Type 0} (n : ℕ) (xs : List A) (i : ℕ) (x : A) → slice_get xs i ≡ Some x
    → slice_get (enumerate_from n xs) i ≡ Some (n + i, x)
enumerated n [] i x e = absurd (no_item x e)
enumerated n (y ∷ xs) zero x e = ap (λ (z : _). Some (n, z)) (one_item y x e) ∙ ap (λ (m : ℕ). Some (m, x)) (omega arith)
enumerated n (y ∷ xs) (suc i) x e =
    let at : n + 1 + i ≡ n + suc i = omega arith in
    enumerated (n + 1) xs i x e ∙ ap (λ (m : ℕ). Some (m, x)) at
