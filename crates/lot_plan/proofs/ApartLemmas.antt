-- Lists whose items differ, under tests and maps.
use Rattle.std.proofs.Common.{◌≡◌, ℕ, suc, zero, ◌<◌, Bool, true, cond, List, [], ◌∷◌, length, map, get_or, refl, sym, ap, subst, arith, inl, inr}
use Rattle.std.specs.Prelude.{All, filter}
use Rattle.std.proofs.lemmas.Bool.{cases_Bool}
use Rattle.std.proofs.lemmas.List.Elements.{All-nil, All-cons, All-head, All-tail}

-- each item differs from each behind it
abbrev pub Apart : {X K : Type 0} → (X → K) → List X → Type 0
Apart f [] = Unit {0}
Apart f (x ∷ xs) = All (λ y. f x ≡ f y → ⊥) xs × Apart f xs

-- no two places have equal items
abbrev pub ApartAt : {X K : Type 0} → (X → K) → List X → Type 0
ApartAt {X} f xs = (k l : ℕ) (d e : X) → k < length xs → l < length xs → f (get_or xs k d) ≡ f (get_or xs l e) → k ≡ l

zero_suc : (n : ℕ) → zero ≡ suc n → ⊥
zero_suc n e = absurd (omega (arith, e))

pub apart-from : {X K : Type 0} (f : X → K) (xs : List X) → ApartAt f xs → Apart f xs
apart-from f [] at = tt
apart-from f (x ∷ xs) at = (
  λ k d within same. zero_suc k (at zero (suc k) x d (omega arith) (omega (arith, within)) same),
  apart-from f xs (λ k l d e k_in l_in same.
      let next : suc k ≡ suc l = at (suc k) (suc l) d e (omega (arith, k_in)) (omega (arith, l_in)) same in
      omega (arith, next)),
)

pub apart-at : {X K : Type 0} (f : X → K) (xs : List X) → Apart f xs → ApartAt f xs
apart-at f [] apart k l d e k_in l_in same = absurd (omega (arith, k_in))
apart-at f (x ∷ xs) apart zero zero d e k_in l_in same = refl
apart-at f (x ∷ xs) apart zero (suc l) d e k_in l_in same = absurd (apart.0 l e (omega (arith, l_in)) same)
apart-at f (x ∷ xs) apart (suc k) zero d e k_in l_in same = absurd (apart.0 k d (omega (arith, k_in)) (sym same))
apart-at f (x ∷ xs) apart (suc k) (suc l) d e k_in l_in same =
    let next : k ≡ l = apart-at f xs apart.1 k l d e (omega (arith, k_in)) (omega (arith, l_in)) same in
    ap suc next

-- what holds of each holds of those that pass a test, and so does the test
pub All-passing : {X : Type 0} (P : X → Type 0) (p : X → Bool) (xs : List X) → All P xs →
    All (λ x. P x × (p x ≡ true)) (filter p xs)
All-passing P p [] all = All-nil (λ x. P x × (p x ≡ true))
All-passing P p (x ∷ xs) all =
    elim (cases_Bool (p x)) [
      | inl t ↦ subst (λ b. All (λ y. P y × (p y ≡ true)) (cond b (x ∷ filter p xs) (filter p xs))) (sym t)
          (All-cons (λ y. P y × (p y ≡ true)) x (filter p xs) (All-head P x xs all, t)
          (All-passing P p xs (All-tail P x xs all)))
      | inr t ↦ subst (λ b. All (λ y. P y × (p y ≡ true)) (cond b (x ∷ filter p xs) (filter p xs))) (sym t)
          (All-passing P p xs (All-tail P x xs all))
    ]

pub All-filter : {X : Type 0} (P : X → Type 0) (p : X → Bool) (xs : List X) → All P xs → All P (filter p xs)
All-filter P p xs all k d within = (All-passing P p xs all k d within).0

pub All-map : {X Y : Type 0} (P : Y → Type 0) (h : X → Y) (xs : List X) → All (λ x. P (h x)) xs → All P (map h xs)
All-map P h [] all = All-nil P
All-map P h (x ∷ xs) all = All-cons P (h x) (map h xs) (All-head (λ y. P (h y)) x xs all)
    (All-map P h xs (All-tail (λ y. P (h y)) x xs all))

-- a test keeps items apart
pub apart-filter : {X K : Type 0} (f : X → K) (p : X → Bool) (xs : List X) → Apart f xs → Apart f (filter p xs)
apart-filter f p [] apart = tt
apart-filter f p (x ∷ xs) apart =
    elim (cases_Bool (p x)) [
      | inl t ↦ subst (λ b. Apart f (cond b (x ∷ filter p xs) (filter p xs))) (sym t)
          (All-filter (λ y. f x ≡ f y → ⊥) p xs apart.0, apart-filter f p xs apart.1)
      | inr t ↦ subst (λ b. Apart f (cond b (x ∷ filter p xs) (filter p xs))) (sym t) (apart-filter f p xs apart.1)
    ]

differ-map : {X Y K L : Type 0} (f : X → K) (g : Y → L) (h : X → Y) (P : X → Type 0) (x : X) (xs : List X) →
    ((y z : X) → P y → P z → g (h y) ≡ g (h z) → f y ≡ f z) → P x → All P xs → All (λ y. f x ≡ f y → ⊥) xs →
    All (λ y. g (h x) ≡ g (h y) → ⊥) xs
differ-map f g h P x xs back here all apart k d within same = apart k d within
    (back x (get_or xs k d) here (all k d within) same)

-- a map that keeps them apart
pub apart-map : {X Y K L : Type 0} (f : X → K) (g : Y → L) (h : X → Y) (P : X → Type 0) (xs : List X) →
    ((y z : X) → P y → P z → g (h y) ≡ g (h z) → f y ≡ f z) → All P xs → Apart f xs → Apart g (map h xs)
apart-map f g h P [] back all apart = tt
apart-map f g h P (x ∷ xs) back all apart = (
  All-map (λ y. g (h x) ≡ g y → ⊥) h xs (differ-map f g h P x xs back (All-head P x xs all) (All-tail P x xs all) apart.0),
  apart-map f g h P xs back (All-tail P x xs all) apart.1,
)
