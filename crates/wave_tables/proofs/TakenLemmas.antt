-- A list's front with one item more.
use Rattle.std.proofs.Common.{◌≡◌, ℕ, zero, suc, ◌+◌, ◌<◌, Bool, true, drop, arith, List, [], ◌∷◌, ◌++◌, Option, Some, length, get_or, take, map, refl, sym, ap, ◌∙◌, rules}
use Rattle.std.specs.List.{filter_map, list_all, enumerate_from}
use Rattle.std.specs.Prelude.{slice_get}
use Rattle.std.specs.Borrow.{Bor}
use Rattle.std.proofs.lemmas.Option.{slice_get-map, slice_get-get_or}
use Rattle.std.proofs.Math.Seq.{drop-append_seam}
use Rattle.std.specs.Option.{option_to_list, option_map}
use Rattle.std.proofs.lemmas.List.{take_more, map-append, length-map}
use Rattle.std.proofs.lemmas.List.Elements.{filter_map-append}
use Rattle.std.proofs.lemmas.Bool.{and_parts}
use Rattle.text_bytes.specs.Texts.{behind}
use Rattle.text_bytes.proofs.ListLemmas.{enumerate_from-push}

-- the front with the item at hand
pub take_taken : {X : Type 0} (xs : List X) (i : ℕ) (x : X) → i < length xs → x ≡ get_or xs i x
    → take (i + 1) xs ≡ take i xs ++ x ∷ []
take_taken xs i x within is = take_more xs i x within ∙ ap (λ y. take i xs ++ y ∷ []) (sym is)

-- what is seen of it
pub map_taken : {X Y : Type 0} (f : X → Y) (xs : List X) (i : ℕ) (x : X) → i < length xs → x ≡ get_or xs i x
    → map f (take i xs) ++ f x ∷ [] ≡ map f (take (i + 1) xs)
map_taken f xs i x within is = sym (ap (map f) (take_taken xs i x within is) ∙ map-append f (take i xs) (x ∷ []))

-- what is found of one item
one_found : {X Y : Type 0} (f : X → Option Y) (x : X) → filter_map f (x ∷ []) ≡ option_to_list (f x)
one_found f x = search rules

-- what is found of it
pub filter_map_taken : {X Y : Type 0} (f : X → Option Y) (xs : List X) (i : ℕ) (x : X) → i < length xs
    → x ≡ get_or xs i x
    → filter_map f (take i xs) ++ option_to_list (f x) ≡ filter_map f (take (i + 1) xs)
filter_map_taken f xs i x within is =
    sym (ap (filter_map f) (take_taken xs i x within is) ∙ filter_map-append f (take i xs) (x ∷ [])
    ∙ ap (λ l. filter_map f (take i xs) ++ l) (one_found f x))

-- each passes, so this one does
pub item_passes : {X : Type 0} (p : X → Bool) (xs : List X) (i : ℕ) (d : X) → list_all p xs ≡ true → i < length xs
    → p (get_or xs i d) ≡ true
item_passes p [] i d e h = absurd (omega arith)
item_passes p (x ∷ xs) zero d e h = (and_parts (p x) (list_all p xs) e).0
item_passes p (x ∷ xs) (suc i) d e h = item_passes p xs i d (and_parts (p x) (list_all p xs) e).1 (omega arith)

-- what is found at a place passes
pub found_passes : {X : Type 0} (p : X → Bool) (xs : List X) (i : ℕ) (x : X) → list_all p xs ≡ true
    → slice_get xs i ≡ Some x
    → p x ≡ true
found_passes p [] i x e at = cc
found_passes p (y ∷ ys) zero x e at = let same : y ≡ x = cc in ap p (sym same) ∙ (and_parts (p y) (list_all p ys) e).0
found_passes p (y ∷ ys) (suc i) x e at = found_passes p ys i x (and_parts (p y) (list_all p ys) e).1 at

-- from a place on stands what is found there, and then what stands behind it
pub drop_found : {X : Type 0} (xs : List X) (i : ℕ) (x : X) → slice_get xs i ≡ Some x → drop i xs ≡ x ∷ drop (i + 1) xs
drop_found [] i x at = cc
drop_found (y ∷ ys) zero x at = let same : y ≡ x = cc in ap (λ z. z ∷ ys) same
drop_found (y ∷ ys) (suc i) x at =
    drop_found ys i x at ∙ ap (λ (n : ℕ). x ∷ drop n (y ∷ ys)) (moved i)
  where
    moved : (i : ℕ) → suc (i + 1) ≡ suc i + 1
    moved i = omega arith

-- the first item from a place on is found there
pub found_drop : {X : Type 0} (xs : List X) (i : ℕ) (x : X) (rest : List X) → drop i xs ≡ x ∷ rest
    → (slice_get xs i ≡ Some x) × (drop (i + 1) xs ≡ rest)
found_drop [] zero x rest e = cc
found_drop [] (suc i) x rest e = cc
found_drop (y ∷ ys) zero x rest e = (cc, cc)
found_drop (y ∷ ys) (suc i) x rest e =
    let p = found_drop ys i x rest e in
    let moved : suc i + 1 ≡ suc (i + 1) = omega arith in
    (p.0, ap (λ (n : ℕ). drop n (y ∷ ys)) moved ∙ p.1)

drop_by : {X : Type 0} (n k : ℕ) (xs : List X) → drop (n + k) xs ≡ drop k (drop n xs)
drop_by zero k xs = ap (λ (m : ℕ). drop m xs) (omega arith)
drop_by (suc n) zero [] = ap (λ (m : ℕ). drop m []) moved
  where
    moved : suc n + 0 ≡ suc n
    moved = omega arith
drop_by (suc n) (suc k) [] = ap (λ (m : ℕ). drop m []) moved
  where
    moved : suc n + suc k ≡ suc (n + suc k)
    moved = omega arith
drop_by (suc n) k (x ∷ xs) = ap (λ (m : ℕ). drop m (x ∷ xs)) moved ∙ drop_by n k xs
  where
    moved : suc n + k ≡ suc (n + k)
    moved = omega arith

-- what stands behind a front that is found at a place
pub drop_behind : {X : Type 0} (xs : List X) (n k : ℕ) (front rest : List X) → length front ≡ k
    → drop n xs ≡ front ++ rest
    → drop (n + k) xs ≡ rest
drop_behind xs n k front rest long e =
    drop_by n k xs ∙ ap (drop k) e ∙ ap (λ (m : ℕ). drop m (front ++ rest)) (sym long) ∙ drop-append_seam front rest

-- as many references as they point to
pub behind_long : {X : Type 0} (bs : List (Bor X)) (xs : List X) → behind bs ≡ xs → length bs ≡ length xs
behind_long bs xs are = sym (length-map bs (λ b. b.now)) ∙ ap length are

-- what a reference at a place points to
pub behind_at : {X : Type 0} (bs : List (Bor X)) (xs : List X) (i : ℕ) (b : Bor X) → behind bs ≡ xs → i < length bs
    → b ≡ get_or bs i b
    → slice_get xs i ≡ Some b.now
behind_at bs xs i b are within is =
    ap (λ l. slice_get l i) (sym are) ∙ slice_get-map (λ b. b.now) bs i
    ∙ ap (option_map (λ b. b.now)) (slice_get-get_or bs i b within ∙ ap Some (sym is))

pub front_found : {X : Type 0} (xs : List X) (i : ℕ) (x : X) → slice_get xs i ≡ Some x
    → take (i + 1) xs ≡ take i xs ++ x ∷ []
front_found [] i x at = cc
front_found (y ∷ ys) zero x at = let same : y ≡ x = cc in ap (λ z. z ∷ []) same
front_found (y ∷ ys) (suc i) x at =
    let moved : suc i + 1 ≡ suc (i + 1) = omega arith in
    ap (λ (n : ℕ). take n (y ∷ ys)) moved ∙ ap (λ l. y ∷ l) (front_found ys i x at)

front_long : {X : Type 0} (xs : List X) (i : ℕ) (x : X) → slice_get xs i ≡ Some x → length (take i xs) ≡ i
front_long [] i x at = cc
front_long (y ∷ ys) zero x at = refl
front_long (y ∷ ys) (suc i) x at = ap suc (front_long ys i x at)

-- the first items with their numbers, and one more
pub enumerate_taken : {X : Type 0} (xs : List X) (i : ℕ) (x : X) → slice_get xs i ≡ Some x
    → enumerate_from 0 (take (i + 1) xs) ≡ enumerate_from 0 (take i xs) ++ (i, x) ∷ []
enumerate_taken xs i x at =
    let number : 0 + length (take i xs) ≡ i = omega (arith, front_long xs i x at) in
    ap (enumerate_from 0) (front_found xs i x at) ∙ enumerate_from-push 0 (take i xs) x
    ∙ ap (λ (n : ℕ). enumerate_from 0 (take i xs) ++ (n, x) ∷ []) number
