-- How many items pieces have, and how many pieces there are.
use Rattle.std.proofs.Common.{◌≡◌, ℕ, zero, suc, ◌+◌, ◌-◌, ◌*◌, ◌/◌, ◌%◌, ◌<◌, ◌≤◌, List, [], ◌∷◌, length, take, min, refl, sym, ap, ◌∙◌, arith, length-append, mod-lt}
use Rattle.std.specs.List.{flat_map}
use Rattle.std.proofs.lemmas.Nat.{div-mul-add, div-add-mod'}
use Rattle.std.proofs.Math.Nat.{mul-le-mul_right}
use Rattle.site_meaning.specs.Trials.{pieces, in_first}

-- the items of pieces
abbrev pub joined : {X : Type 0} → List (List X) → List X
joined ps = flat_map (λ (p : List _). p) ps

-- those of the first so many pieces
pub items_in : {X : Type 0} (b : ℕ) (ps : List (List X)) → ℕ
items_in b ps = length (joined (take b ps))

items-none : (X : Type 0) (b : ℕ) → items_in {X = X} b [] ≡ 0
unfolding items_in
items-none X zero = refl
items-none X (suc b) = refl

items-first : {X : Type 0} (b : ℕ) (p : List X) (ps : List (List X)) → items_in (suc b) (p ∷ ps) ≡ length p + items_in b ps
unfolding items_in
items-first b p ps = length-append p (joined (take b ps))

items-in_first : {X : Type 0} (b : ℕ) (x : X) (ps : List (List X)) → 0 < length ps → items_in (suc b) (in_first x ps) ≡ suc (items_in (suc b) ps)
items-in_first b x [] some = absurd (omega (arith, some))
items-in_first b x (p ∷ ps) some =
    let a = items-first b (x ∷ p) ps in
    let c = items-first b p ps in
    omega (arith, a, c)

first_some : {X : Type 0} (x : X) (ps : List (List X)) → 0 < length (in_first x ps)
first_some x [] = omega arith
first_some x (p ∷ ps) = omega arith

some_pieces : {X : Type 0} (more left : ℕ) (x : X) (xs : List X) → 0 < length (pieces more left (x ∷ xs))
unfolding pieces
some_pieces more zero x xs = omega arith
some_pieces more (suc left) x xs = first_some x (pieces more left xs)

zero_items : {X : Type 0} (ps : List (List X)) → items_in zero ps ≡ 0
unfolding items_in
zero_items ps = refl

suc_mul : (b m : ℕ) → suc b * m ≡ m + b * m
suc_mul b m = grind arith

-- the first so many pieces have all items, or are full
pub items-pieces : {X : Type 0} (more left b : ℕ) (xs : List X)
    → items_in (suc b) (pieces more left xs) ≡ min (length xs) (suc left + b * suc more)
unfolding pieces
items-pieces {X} more left b [] = items-none X (suc b) ∙ omega arith
items-pieces more zero zero (x ∷ xs) =
    let a = items-first zero (x ∷ []) (pieces more more xs) in
    let c : items_in zero (pieces more more xs) ≡ 0 = zero_items (pieces more more xs) in
    omega (arith, a, c)
items-pieces more zero (suc b) (x ∷ xs) =
    let a = items-first (suc b) (x ∷ []) (pieces more more xs) in
    let c = items-pieces more more b xs in
    omega (arith, a, c, suc_mul b (suc more))
items-pieces {X} more (suc left) b (x ∷ []) =
    let a = items-first b (x ∷ []) [] in
    omega (arith, a, items-none X b)
items-pieces more (suc left) b (x ∷ y ∷ ys) =
    let a = items-in_first b x (pieces more left (y ∷ ys)) (some_pieces more left y ys) in
    let c = items-pieces more left b (y ∷ ys) in
    omega (arith, a, c)

length-in_first : {X : Type 0} (x : X) (ps : List (List X)) → 0 < length ps → length (in_first x ps) ≡ length ps
length-in_first x [] some = absurd (omega (arith, some))
length-in_first x (p ∷ ps) some = omega arith

-- how many pieces there are, by how many they hold
record HoldAll (count more left pieces : ℕ) : Type 0 where
  enough : count + (more - left) ≤ pieces * suc more
  few : pieces * suc more < count + (more - left) + suc more

holds_one : (more left : ℕ) → left ≤ more → HoldAll 1 more left 1
holds_one more left within = record { enough = omega (arith, within); few = omega (arith, within) }

hold_all : {X : Type 0} (more left : ℕ) (x : X) (xs : List X) → left ≤ more → HoldAll (length (x ∷ xs)) more left (length (pieces more left (x ∷ xs)))
unfolding pieces
hold_all more zero x [] within = holds_one more zero within
hold_all more zero x (y ∷ ys) within =
    let h = hold_all more more y ys (omega arith) in
    let m = suc_mul (length (pieces more more (y ∷ ys))) (suc more) in
    record { enough = omega (arith, h.enough, m); few = omega (arith, h.few, m) }
hold_all more (suc left) x [] within = holds_one more (suc left) within
hold_all more (suc left) x (y ∷ ys) within =
    let h = hold_all more left y ys (omega (arith, within)) in
    let same = length-in_first x (pieces more left (y ∷ ys)) (some_pieces more left y ys) in
    let m = ap (λ n. n * suc more) same in
    record { enough = omega (arith, h.enough, m, within); few = omega (arith, h.few, m, within) }

count_of : (count more pieces : ℕ) → HoldAll count more more pieces → (count + more) / suc more ≡ pieces
count_of count more pieces h =
    let rest = count + more - pieces * suc more in
    let whole : count + more ≡ pieces * suc more + rest = omega (arith, h.enough, h.few) in
    ap (λ n. n / suc more) whole ∙ div-mul-add pieces (suc more) rest (omega (arith, h.enough, h.few))

zero_times : (m : ℕ) → 0 * m ≡ 0
zero_times m = grind arith

none_long : (X : Type 0) (more : ℕ) → length (pieces {X = X} more more []) ≡ (0 + more) / suc more
unfolding pieces
none_long X more =
    let whole : 0 + more ≡ 0 * suc more + (0 + more) = omega (arith, zero_times (suc more)) in
    sym (ap (λ n. n / suc more) whole ∙ div-mul-add 0 (suc more) (0 + more) (omega arith))

-- as many as it takes
pub length-pieces : {X : Type 0} (more : ℕ) (xs : List X) → length (pieces more more xs) ≡ (length xs + more) / suc more
length-pieces {X} more [] = none_long X more
length-pieces more (x ∷ xs) = sym (count_of (length (x ∷ xs)) more (length (pieces more more (x ∷ xs))) (hold_all more more x xs (omega arith)))

-- pieces that don't hold all items are fewer
pub fewer_pieces : (b k m n : ℕ) → b * m < n → n ≤ k * m → b ≤ k
fewer_pieces b k m n less all = grind (arith, mul-le-mul_right)

-- of whole pieces
pub items-whole : {X : Type 0} (more b : ℕ) (xs : List X) → items_in b (pieces more more xs) ≡ min (length xs) (b * suc more)
items-whole more zero xs = zero_items (pieces more more xs) ∙ omega arith
items-whole more (suc b) xs = items-pieces more more b xs ∙ omega (arith, suc_mul b (suc more))

-- as it is defined
pub items_in-joined : {X : Type 0} (b : ℕ) (ps : List (List X)) → length (joined (take b ps)) ≡ items_in b ps
unfolding items_in
items_in-joined b ps = refl

-- the pieces hold all items
pub enough_pieces : (more n : ℕ) → n ≤ (n + (suc more - 1)) / suc more * suc more
enough_pieces more n =
    let whole = div-add-mod' (n + (suc more - 1)) (suc more) in
    let rest : (n + (suc more - 1)) % suc more < suc more = mod-lt (n + (suc more - 1)) (omega arith) in
    omega (arith, whole, rest)
