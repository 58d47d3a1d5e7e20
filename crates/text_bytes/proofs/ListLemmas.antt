-- Facts on lists that the standard library's lemmas don't have.
use Rattle.std.proofs.Common.{◌≡◌, ℕ, zero, suc, ◌+◌, ◌<◌, ◌≤◌, Bool, true, not, ◌||◌, List, [], ◌∷◌, ◌++◌, length, map, drop, get_or, Some, sym, refl, ap, subst, ◌∙◌, arith}
use Rattle.std.specs.Prelude.{slice_get, reverse}
use Rattle.std.specs.List.{AllByRecursion, list_all, list_any, filter, enumerate_from, range_with_len}
use Rattle.std.proofs.Math.Seq.{drop-cons}
use Rattle.std.proofs.lemmas.Bool.{and_from, and_parts, cond_both}
use Rattle.std.proofs.lemmas.List.{reverse-append}
use Rattle.std.proofs.lemmas.List.Filters.{length-filter_both}
use Rattle.std.proofs.lemmas.Option.{none-some}

-- ---- items and their places

-- one more, in both ways of writing it
pub suc-plus : (i : ℕ) → suc i ≡ i + 1
suc-plus i = omega arith

-- one more in front, or behind
pub plus-suc : (n k : ℕ) → n + 1 + k ≡ n + suc k
plus-suc n k = omega arith

-- what is left begins with the item at hand
pub drop-item : {X : Type 0} (items : List X) (i : ℕ) (item : X) → i < length items → item ≡ get_or items i item
    → drop i items ≡ item ∷ drop (i + 1) items
drop-item items i item within is =
    drop-cons items i item within ∙ ap (λ x. x ∷ drop (suc i) items) (sym is) ∙ ap (λ j. item ∷ drop j items) (suc-plus i)

-- what was split off, with one item more
pub split_more : {X : Type 0} (items front : List X) (i : ℕ) (item : X) → i < length items → item ≡ get_or items i item
    → items ≡ front ++ drop i items → items ≡ front ++ item ∷ drop (i + 1) items
split_more {X} items front i item within is split = split ∙ ap (λ (l : List X). front ++ l) (drop-item items i item within is)

-- of what is seen of items, whether one passes
pub list_any-map : {X Y : Type 0} (f : X → Y) (p : Y → Bool) (xs : List X) → list_any p (map f xs) ≡ list_any (λ x. p (f x)) xs
list_any-map f p [] = refl
list_any-map f p (x ∷ xs) = ap (λ b. p (f x) || b) (list_any-map f p xs)

-- what stands in a list stands there with more behind it
pub slice_get-more : {A : Type 0} (xs more : List A) (i : ℕ) (x : A) → slice_get xs i ≡ Some x → slice_get (xs ++ more) i ≡ Some x
slice_get-more [] more i x e = absurd cc
slice_get-more (y ∷ xs) more zero x e = e
slice_get-more (y ∷ xs) more (suc i) x e = slice_get-more xs more i x e

-- at each place of a list something stands
pub slice_get-there : {X : Type 0} (xs : List X) (i : ℕ) → i < length xs → (x : X) × (slice_get xs i ≡ Some x)
slice_get-there [] i h = absurd (omega arith)
slice_get-there (x ∷ xs) zero h = (x, refl)
slice_get-there (x ∷ xs) (suc i) h = slice_get-there xs i (omega arith)

-- of numbered items, and one more, the last has the greatest number
pub enumerate_from-push : {X : Type 0} (n : ℕ) (xs : List X) (y : X)
    → enumerate_from n (xs ++ y ∷ []) ≡ enumerate_from n xs ++ (n + length xs, y) ∷ []
enumerate_from-push n [] y = let same : n ≡ n + 0 = omega arith in ap (λ (k : ℕ). (k, y) ∷ []) same
enumerate_from-push n (x ∷ xs) y =
    ap (λ l. (n, x) ∷ l) (enumerate_from-push (n + 1) xs y)
    ∙ ap (λ (k : ℕ). (n, x) ∷ (enumerate_from (n + 1) xs ++ (k, y) ∷ [])) (plus-suc n (length xs))

-- ---- lists of so many items

pub one_item : {X : Type 0} (xs : List X) (a : X) → 1 ≤ length xs → length xs < 2 → a ≡ get_or xs 0 a → xs ≡ a ∷ []
one_item [] a least below first = absurd (omega arith)
one_item (x ∷ []) a least below first = ap (λ h. h ∷ []) (sym first)
one_item (x ∷ y ∷ xs) a least below first = absurd (omega arith)

pub two_items : {X : Type 0} (xs : List X) (a b : X) → 2 ≤ length xs → length xs < 3 → a ≡ get_or xs 0 a → b ≡ get_or xs 1 b
    → xs ≡ a ∷ b ∷ []
two_items [] a b least below first second = absurd (omega arith)
two_items (x ∷ xs) a b least below first second =
    ap (λ h. h ∷ xs) (sym first) ∙ ap (λ l. a ∷ l) (one_item xs b (omega (arith, least)) (omega (arith, below)) second)

pub three_items : {X : Type 0} (xs : List X) (a b c : X) → 3 ≤ length xs → length xs < 4 → a ≡ get_or xs 0 a → b ≡ get_or xs 1 b
    → c ≡ get_or xs 2 c → xs ≡ a ∷ b ∷ c ∷ []
three_items [] a b c least below first second third = absurd (omega arith)
three_items (x ∷ xs) a b c least below first second third =
    ap (λ h. h ∷ xs) (sym first) ∙ ap (λ l. a ∷ l) (two_items xs b c (omega (arith, least)) (omega (arith, below)) second third)

pub four_items : {X : Type 0} (xs : List X) (a b c d : X) → 4 ≤ length xs → length xs < 5 → a ≡ get_or xs 0 a → b ≡ get_or xs 1 b
    → c ≡ get_or xs 2 c → d ≡ get_or xs 3 d → xs ≡ a ∷ b ∷ c ∷ d ∷ []
four_items [] a b c d least below first second third fourth = absurd (omega arith)
four_items (x ∷ xs) a b c d least below first second third fourth =
    ap (λ h. h ∷ xs) (sym first)
    ∙ ap (λ l. a ∷ l) (three_items xs b c d (omega (arith, least)) (omega (arith, below)) second third fourth)

-- ---- what holds of each item

-- of two lists, and so of both
pub all_append : {A : Type 0} (Fits : A → Type 0) (xs ys : List A) → AllByRecursion Fits xs → AllByRecursion Fits ys
    → AllByRecursion Fits (xs ++ ys)
all_append Fits [] ys p q = q
all_append Fits (x ∷ xs) ys p q = (p.0, all_append Fits xs ys p.1 q)

-- of both, and so of the first
pub all_front : {A : Type 0} (P : A → Type 0) (xs ys : List A) → AllByRecursion P (xs ++ ys) → AllByRecursion P xs
all_front P [] ys all = tt
all_front P (x ∷ xs) ys all = (all.0, all_front P xs ys all.1)

-- and of the second
pub all_back : {A : Type 0} (P : A → Type 0) (xs ys : List A) → AllByRecursion P (xs ++ ys) → AllByRecursion P ys
all_back P [] ys all = all
all_back P (x ∷ xs) ys all = all_back P xs ys all.1

-- what follows for each
pub all_from : {X : Type 0} (P Q : X → Type 0) → ((x : X) → P x → Q x) → (xs : List X) → AllByRecursion P xs → AllByRecursion Q xs
all_from P Q each [] all = tt
all_from P Q each (x ∷ xs) all = (each x all.0, all_from P Q each xs all.1)

-- of those that pass a test
pub all_filter : {X : Type 0} (P : X → Type 0) (test : X → Bool) (xs : List X) → AllByRecursion P xs → AllByRecursion P (filter test xs)
all_filter P test [] all = tt
all_filter P test (x ∷ xs) all =
    cond_both (test x) (x ∷ filter test xs) (filter test xs) (AllByRecursion P) (λ _. (all.0, all_filter P test xs all.1))
    (λ _. all_filter P test xs all.1)

-- of the items the other way round
pub all_reverse : {A : Type 0} (P : A → Type 0) (xs : List A) → AllByRecursion P xs → AllByRecursion P (reverse xs)
all_reverse P [] all = tt
all_reverse {A} P (x ∷ xs) all =
    subst (λ (l : List A). AllByRecursion P l) (sym (reverse-append (x ∷ []) xs))
    (all_append P (reverse xs) (x ∷ []) (all_reverse P xs all.1) (all.0, tt))

-- of the items with their numbers
pub all_numbered : {A : Type 0} (P : A → Type 0) (n : ℕ) (xs : List A) → AllByRecursion P xs
    → AllByRecursion (λ (p : ℕ × A). P p.1) (enumerate_from n xs)
all_numbered P n [] all = tt
all_numbered P n (x ∷ xs) all = (all.0, all_numbered P (n + 1) xs all.1)

-- of the one at a place
pub all_got : {A : Type 0} (P : A → Type 0) (xs : List A) (i : ℕ) (x : A) → AllByRecursion P xs → slice_get xs i ≡ Some x → P x
all_got P [] i x all at = absurd (none-some x at)
all_got P (y ∷ ys) zero x all at = let same : y ≡ x = cc in subst P same all.0
all_got P (y ∷ ys) (suc i) x all at = all_got P ys i x all.1 at

-- ---- tests

-- all that pass a test pass a weaker one
pub passes_from : {X : Type 0} (p q : X → Bool) → ((x : X) → p x ≡ true → q x ≡ true) → (xs : List X) → list_all p xs ≡ true
    → list_all q xs ≡ true
passes_from p q each [] h = refl
passes_from p q each (x ∷ xs) h =
    let parts = and_parts (p x) (list_all p xs) h in
    and_from (q x) (list_all q xs) (each x parts.0) (passes_from p q each xs parts.1)

-- no more pass a test than there are
pub length-filter-le : {A : Type 0} (p : A → Bool) (xs : List A) → length (filter p xs) ≤ length xs
length-filter-le p xs = omega (arith, length-filter_both p (λ x. not (p x)) (λ x. refl) xs)

-- ---- numbers one after another

-- so many, and then more
pub range-append : (a m n : ℕ) → range_with_len a (m + n) ≡ range_with_len a m ++ range_with_len (a + m) n
range-append a zero n =
    let e : zero + n ≡ n = omega arith in
    let f : a ≡ a + zero = omega arith in
    ap (range_with_len a) e ∙ ap (λ (k : ℕ). range_with_len k n) f
range-append a (suc m) n =
    let e : suc m + n ≡ suc (m + n) = omega arith in
    let f : a + 1 + m ≡ a + suc m = omega arith in
    ap (range_with_len a) e ∙ ap (λ l. a ∷ l) (range-append (a + 1) m n ∙ ap (λ (k : ℕ). range_with_len (a + 1) m ++ range_with_len k n) f)

-- one more
pub range-push : (a n : ℕ) → range_with_len a (n + 1) ≡ range_with_len a n ++ (a + n) ∷ []
range-push a n = range-append a n 1

-- one more of those from 0 on
pub range-more : (n : ℕ) → range_with_len 0 (n + 1) ≡ range_with_len 0 n ++ n ∷ []
range-more n = let e : 0 + n ≡ n = omega arith in range-push 0 n ∙ ap (λ (k : ℕ). range_with_len 0 n ++ k ∷ []) e
