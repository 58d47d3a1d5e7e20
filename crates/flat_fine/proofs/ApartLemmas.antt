-- Items that differ are no more than those among which they are: `fewer`.
use Rattle.std.proofs.Common.{◌≡◌, ◌⊎◌, ℕ, ◌+◌, ◌≤◌, List, [], ◌∷◌, ◌++◌, length, sum_by, refl, sym, ap, subst, ◌∙◌, arith, inl, inr}
use Rattle.std.specs.List.{AllByRecursion}
use Rattle.std.proofs.lemmas.List.Sums.{sum_by-cons, sum_by-append}

-- an item is in a list
abbrev pub In : {A : Type 0} → A → List A → Type 0
In x [] = ⊥
In x (y ∷ ys) = (y ≡ x) ⊎ In x ys

-- no two items of a list are equal
abbrev pub AreApart : {A : Type 0} → List A → Type 0
AreApart [] = Unit {0}
AreApart (x ∷ xs) = AllByRecursion (λ y. x ≡ y → ⊥) xs × AreApart xs

-- where an item stands in a list
record Stands {A : Type 0} (x : A) (ys : List A) : Type 0 where
  front : List A
  back : List A
  is : ys ≡ front ++ x ∷ back

stands : {A : Type 0} (x : A) (ys : List A) → In x ys → Stands x ys
stands x [] there = absurd there
stands x (y ∷ ys) (inl same) = record { front = []; back = ys; is = ap (λ z. z ∷ ys) same }
stands x (y ∷ ys) (inr behind) =
    let s = stands x ys behind in record { front = y ∷ s.front; back = s.back; is = ap (λ l. y ∷ l) s.is }

-- another item stays where one is taken out
stays : {A : Type 0} (x y : A) (front back : List A) → (x ≡ y → ⊥) → In y (front ++ x ∷ back) → In y (front ++ back)
stays x y [] back other (inl same) = absurd (other same)
stays x y [] back other (inr there) = there
stays x y (z ∷ front) back other (inl same) = inl same
stays x y (z ∷ front) back other (inr there) = inr (stays x y front back other there)

all_stay : {A : Type 0} (x : A) (xs front back : List A) → AllByRecursion (λ y. x ≡ y → ⊥) xs
    → AllByRecursion (λ y. In y (front ++ x ∷ back)) xs → AllByRecursion (λ y. In y (front ++ back)) xs
all_stay x [] front back others there = tt
all_stay x (y ∷ xs) front back others there =
    (stays x y front back others.0 there.0, all_stay x xs front back others.1 there.1)

-- so what they sum up to is no more
pub fewer : {A : Type 0} (f : A → ℕ) (xs ys : List A) → AreApart xs → AllByRecursion (λ x. In x ys) xs
    → sum_by f xs ≤ sum_by f ys
fewer f [] ys apart there = omega arith
fewer {A} f (x ∷ xs) ys apart there =
    let s = stands x ys there.0 in
    let whole : sum_by f ys ≡ sum_by f s.front + sum_by f (x ∷ s.back) =
    ap (sum_by f) s.is ∙ sum_by-append f s.front (x ∷ s.back) in
    let rest =
    fewer f xs (s.front ++ s.back) apart.1
    (all_stay x xs s.front s.back apart.0 (subst (λ (l : List A). AllByRecursion (λ y. In y l) xs) s.is there.1)) in
    omega (arith, whole, rest, sum_by-append f s.front s.back, sum_by-cons f x s.back, sum_by-cons f x xs)

-- how many there are is a sum
pub ones : {A : Type 0} (xs : List A) → sum_by (λ (x : A). 1) xs ≡ length xs
ones [] = refl
ones {A} (x ∷ xs) = omega (arith, sum_by-cons (λ (y : A). 1) x xs, ones xs)

-- they are no more in number
pub no_more_of : {A : Type 0} (xs ys : List A) → AreApart xs → AllByRecursion (λ x. In x ys) xs → length xs ≤ length ys
no_more_of {A} xs ys apart there = omega (arith, fewer (λ (x : A). 1) xs ys apart there, ones xs, ones ys)

-- one more behind them
pub apart_push : {A : Type 0} (xs : List A) (y : A) → AreApart xs → AllByRecursion (λ x. x ≡ y → ⊥) xs → AreApart (xs ++ y ∷ [])
apart_push [] y apart others = (tt, tt)
apart_push {A} (x ∷ xs) y apart others =
    (all_push (λ (z : A). x ≡ z → ⊥) xs y apart.0 others.0, apart_push xs y apart.1 others.1)
  where
    all_push : (P : A → Type 0) (zs : List A) (w : A) → AllByRecursion P zs → P w → AllByRecursion P (zs ++ w ∷ [])
    all_push P [] w all last = (last, tt)
    all_push P (z ∷ zs) w all last = (all.0, all_push P zs w all.1 last)
