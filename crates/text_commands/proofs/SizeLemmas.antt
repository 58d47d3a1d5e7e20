-- How long lines are as a text.
use Rattle.std.proofs.Common.{◌≡◌, ℕ, suc, ◌+◌, ◌*◌, ◌^◌, ◌<◌, ◌≤◌, Bool, true, false, not, cond, List, [], ◌∷◌, ◌++◌, length, length-append, map, flat_map, decimal, ap, arith}
use Rattle.std.specs.Prelude.{sum_by, codes, ◌==◌}
use Rattle.std.specs.List.{AllByRecursion}
use Rattle.std.proofs.lemmas.List.Sums.{sum_by-cons}
use Rattle.std.proofs.lemmas.Fmt.{length-decimal-le}
use Rattle.flat_parts.specs.FlatText.{block, text_of, with_feed}
use Rattle.flat_parts.specs.Order.{number_in}
use Rattle.flat_said.proofs.BlockLemmas.{text_of-nil, text_of-cons, text_of-append, text_of-block}

-- how long lines are
abbrev pub size : List (List ℕ) → ℕ
size lines = length (text_of lines)

pub size_nil : size [] ≡ 0
size_nil = ap (λ (l : List ℕ). length l) text_of-nil

pub size_cons : (line : List ℕ) (lines : List (List ℕ)) → size (line ∷ lines) ≡ length line + 1 + size lines
size_cons line lines =
    let whole = ap (λ (l : List ℕ). length l) (text_of-cons line lines) in
    omega (arith, whole, length-append (with_feed line) (text_of lines), length-append line (codes "\n"))

pub size_both : (xs ys : List (List ℕ)) → size (xs ++ ys) ≡ size xs + size ys
size_both xs ys =
    let whole = ap (λ (l : List ℕ). length l) (text_of-append xs ys) in omega
    (arith, whole, length-append (text_of xs) (text_of ys))

pub size_block : (opening : List ℕ) (lines : List (List ℕ)) → size (block opening lines) ≡ length opening + 3 + size lines
size_block opening lines =
    let whole = ap (λ (l : List ℕ). length l) (text_of-block opening lines) in
    omega (
      arith,
      whole,
      length-append (with_feed opening) (text_of lines ++ with_feed (codes "}")),
      length-append opening (codes "\n"),
      length-append (text_of lines) (with_feed (codes "}")),
    )

-- the lines of items
pub size_flat : {X : Type 0} (lines : X → List (List ℕ)) (f : X → ℕ) (xs : List X)
    → AllByRecursion (λ x. size (lines x) ≤ f x) xs
    → size (flat_map lines xs) ≤ sum_by f xs
size_flat lines f [] all = let none = size_nil in omega (arith, none)
size_flat lines f (x ∷ xs) all =
    let behind = size_flat lines f xs all.1 in
    let here = all.0 in
    omega (arith, behind, here, size_both (lines x) (flat_map lines xs), sum_by-cons f x xs)

-- a line of each
pub size_map : {X : Type 0} (line : X → List ℕ) (f : X → ℕ) (xs : List X) → AllByRecursion (λ x. length (line x) + 1 ≤ f x) xs
    → size (map line xs) ≤ sum_by f xs
size_map line f [] all = let none = size_nil in omega (arith, none)
size_map line f (x ∷ xs) all =
    let behind = size_map line f xs all.1 in
    let here = all.0 in
    omega (arith, behind, here, size_cons (line x) (map line xs), sum_by-cons f x xs)

-- items in a line
pub items_long : {X : Type 0} (item : X → List ℕ) (f : X → ℕ) (xs : List X) → AllByRecursion (λ x. length (item x) ≤ f x) xs
    → length (flat_map item xs) ≤ sum_by f xs
items_long item f [] all = omega arith
items_long item f (x ∷ xs) all =
    let behind = items_long item f xs all.1 in
    let here = all.0 in
    omega (arith, behind, here, length-append (item x) (flat_map item xs), sum_by-cons f x xs)

-- the same for each
pub sum_same_each : {X : Type 0} (k : ℕ) (xs : List X) → sum_by (λ (x : X). k) xs ≡ length xs * k
sum_same_each k [] = omega arith
sum_same_each {X} k (x ∷ xs) =
    let behind = sum_same_each k xs in
    let more : suc (length xs) * k ≡ length xs * k + k = grind arith in
    omega (arith, behind, more, sum_by-cons (λ (y : X). k) x xs)

-- a sum of a fixed number and another one
pub sum_both : {X : Type 0} (k : ℕ) (f : X → ℕ) (xs : List X) → sum_by (λ (x : X). k + f x) xs ≡ length xs * k + sum_by f xs
sum_both k f [] = omega arith
sum_both {X} k f (x ∷ xs) =
    let behind = sum_both k f xs in
    let more : suc (length xs) * k ≡ length xs * k + k = grind arith in
    omega (arith, behind, more, sum_by-cons (λ (y : X). k + f y) x xs, sum_by-cons f x xs)

-- a number of 64 bits
pub digits_few : (n : ℕ) → n < 2 ^ 64 → length (decimal n) ≤ 20
digits_few n small = length-decimal-le 20 n (omega arith) (omega (arith, small)) small

-- a place in a list
pub place_few : (ns : List ℕ) (n : ℕ) → number_in ns n ≤ length ns
place_few [] n = omega arith
place_few (k ∷ ns) n = by_test (k == n) (place_few ns n)
  where
    by_test : (b : Bool) → number_in ns n ≤ length ns → cond (not b) (1 + number_in ns n) 0 ≤ suc (length ns)
    by_test true less = omega arith
    by_test false less = omega (arith, less)

-- three pieces, and seven
pub three_long : (a b c : List ℕ) → length (a ++ b ++ c) ≡ length a + length b + length c
three_long a b c = omega (arith, length-append (a ++ b) c, length-append a b)

pub five_long : (a b c d e : List ℕ) → length (a ++ b ++ c ++ d ++ e) ≡ length a + length b + length c + length d + length e
five_long a b c d e = omega (arith, length-append (a ++ b ++ c ++ d) e, length-append (a ++ b ++ c) d, three_long a b c)

pub seven_long : (a b c d e f g : List ℕ)
    → length (a ++ b ++ c ++ d ++ e ++ f ++ g) ≡ length a + length b + length c + length d + length e + length f + length g
seven_long a b c d e f g =
    omega (arith, length-append (a ++ b ++ c ++ d ++ e ++ f) g, length-append (a ++ b ++ c ++ d ++ e) f, five_long a b c d e)
