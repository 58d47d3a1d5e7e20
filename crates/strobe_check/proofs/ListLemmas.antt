-- Lists of any elements.
use Rattle.std.proofs.Common.{◌≡◌, ℕ, zero, suc, ◌+◌, ◌<◌, Bool, true, false, cond, List, [], ◌∷◌, ◌++◌, length, get_or, ext_get_or, replicate, set, take, drop, Option, Some, None, refl, sym, ap, ◌∙◌, arith}
use Rattle.std.proofs.lemmas.List.{append_assoc, take_more, drop_more, set_at, get_or_at, get_or-replicate, length-replicate, length-take-le}
use Rattle.std.specs.List.{AllByRecursion, cons_option, flat_map, range_with_len}

-- ---- one more element

-- what may stand in front of two lists
pub cons_option-append : {X : Type 0} (o : Option X) (xs ys : List X)
    → cons_option o (xs ++ ys) ≡ cons_option o xs ++ ys
cons_option-append None xs ys = refl
cons_option-append (Some x) xs ys = refl

-- ---- `flat_map`

-- functions that agree everywhere
pub flat_map-same : {X Y : Type 0} (f g : X → List Y) → ((x : X) → f x ≡ g x) → (xs : List X)
    → flat_map f xs ≡ flat_map g xs
flat_map-same f g same [] = refl
flat_map-same f g same (x ∷ xs) =
    ap (λ l. l ++ flat_map f xs) (same x) ∙ ap (λ l. g x ++ l) (flat_map-same f g same xs)

-- functions that agree at the places from a on below a bound
pub flat_map-below : {Y : Type 0} (f g : ℕ → List Y) (bound a n : ℕ) → a + n ≡ bound
    → ((k : ℕ) → k < bound → f k ≡ g k)
    → flat_map f (range_with_len a n) ≡ flat_map g (range_with_len a n)
flat_map-below f g bound a zero upto same = refl
flat_map-below f g bound a (suc n) upto same =
    ap (λ l. l ++ flat_map f (range_with_len (a + 1) n)) (same a (omega arith))
    ∙ ap (λ l. g a ++ l) (flat_map-below f g bound (a + 1) n (omega arith) same)

-- ---- each element

-- what holds of each item of two lists holds of each of the chosen one
pub All-cond : {X : Type 0} (P : X → Type 0) (b : Bool) (xs ys : List X) → AllByRecursion P xs
    → AllByRecursion P ys → AllByRecursion P (cond b xs ys)
All-cond P true xs ys left right = left
All-cond P false xs ys left right = right

-- ---- a list that another one replaces from its front on

-- the first one of the second list
seam : {X : Type 0} (xs ys : List X) (i : ℕ) (d : X) → i < length xs → length ys ≡ length xs
    → take i xs ++ drop i ys ≡ take i xs ++ get_or ys i d ∷ drop (i + 1) ys
seam xs ys i d within long = ap (λ l. take i xs ++ l) (drop_more ys i d (omega arith))

-- a front has its length
pub front_len : {X : Type 0} (xs : List X) (i : ℕ) → i < length xs → length (take i xs) ≡ i
front_len xs i within = length-take-le i xs (omega arith)

-- the next element is still that of the second list
pub get_or-seam : {X : Type 0} (xs ys : List X) (i : ℕ) (d : X) → i < length xs
    → length ys ≡ length xs
    → get_or (take i xs ++ drop i ys) i d ≡ get_or ys i d
get_or-seam xs ys i d within long =
    ap (λ l. get_or l i d) (seam xs ys i d within long)
    ∙ get_or_at (take i xs) (get_or ys i d) (drop (i + 1) ys) d i (front_len xs i within)

-- the front with one more
front-more : {X : Type 0} (xs ys : List X) (i : ℕ) (d : X) → i < length xs
    → take i xs ++ get_or xs i d ∷ ys ≡ take (i + 1) xs ++ ys
front-more xs ys i d within =
    sym (append_assoc (take i xs) (get_or xs i d ∷ []) ys)
    ∙ ap (λ l. l ++ ys) (sym (take_more xs i d within))

-- it is replaced
pub set-seam : {X : Type 0} (xs ys : List X) (i : ℕ) (d : X) → i < length xs → length ys ≡ length xs
    → set (take i xs ++ drop i ys) i (get_or xs i d) ≡ take (i + 1) xs ++ drop (i + 1) ys
set-seam xs ys i d within long =
    ap (λ l. set l i (get_or xs i d)) (seam xs ys i d within long)
    ∙ set_at (take i xs) (get_or ys i d) (drop (i + 1) ys) (get_or xs i d) i (front_len xs i within)
    ∙ front-more xs (drop (i + 1) ys) i d within

-- it is the same in both
pub kept-seam : {X : Type 0} (xs ys : List X) (i : ℕ) (d : X) → i < length xs
    → length ys ≡ length xs → get_or ys i d ≡ get_or xs i d
    → take i xs ++ drop i ys ≡ take (i + 1) xs ++ drop (i + 1) ys
kept-seam xs ys i d within long same =
    seam xs ys i d within long ∙ ap (λ x. take i xs ++ x ∷ drop (i + 1) ys) same
    ∙ front-more xs (drop (i + 1) ys) i d within

-- ---- a list of one element alone

pub all_same : {X : Type 0} (xs : List X) (n : ℕ) (x : X) → length xs ≡ n → ((k : ℕ) → k < n → get_or xs k x ≡ x)
    → xs ≡ replicate n x
all_same xs n x long each =
    ext_get_or x xs (replicate n x) (long ∙ sym (length-replicate n x))
    (λ k l. each k (omega (arith, l, long)) ∙ sym (get_or-replicate n k x x (omega (arith, l, long))))
