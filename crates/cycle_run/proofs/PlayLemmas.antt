-- The next of the items that are to come: it is taken, it is left out of those behind it, and it is one among more.
use Rattle.std.proofs.Common.{◌≡◌, ℕ, zero, suc, ◌+◌, ◌-◌, ◌<◌, Bool, true, false, ltb, List, [], ◌∷◌, ◌++◌, take, drop, refl, sym, ap, ◌∙◌, subst, arith}
use Rattle.std.proofs.lemmas.Bool.{ltb-true, ltb-false}
use Rattle.std.proofs.Math.Seq.{take-add}
use Rattle.tester_types.specs.declared.cycle.Cycle.{Cycle}
use Rattle.cycle_run.specs.Play.{PlaysUpTo}

-- one more of them
take-next : {X : Type 0} (i : ℕ) (xs : List X) → take (i + 1) xs ≡ take i xs ++ take 1 (drop i xs)
take-next i xs = take-add i 1 xs

drop-next : {X : Type 0} (i : ℕ) (xs : List X) → drop (i + 1) xs ≡ drop 1 (drop i xs)
drop-next zero xs = refl
drop-next {X} (suc i) [] = subst (λ (n : ℕ). drop {A = X} n [] ≡ drop 1 (drop (suc i) [])) (sym (more i)) refl
  where
    more : (k : ℕ) → suc k + 1 ≡ suc (k + 1)
    more k = omega arith
drop-next {X} (suc i) (x ∷ xs) =
    subst (λ (n : ℕ). drop n (x ∷ xs) ≡ drop 1 (drop (suc i) (x ∷ xs))) (sym (more i)) (drop-next i xs)
  where
    more : (k : ℕ) → suc k + 1 ≡ suc (k + 1)
    more k = omega arith

-- one among them
take-among : {X : Type 0} (i n : ℕ) (xs : List X)
    → take (i + (1 + n)) xs ≡ take i xs ++ (take 1 (drop i xs) ++ take n (drop 1 (drop i xs)))
take-among {X} i n xs = take-add i (1 + n) xs ∙ ap (λ (l : List X). take i xs ++ l) (take-add 1 n (drop i xs))

-- the next of those that are to come
take-given : {X : Type 0} (xs later : List X) (x : X) → xs ≡ x ∷ later → take 1 xs ≡ x ∷ []
take-given {X} xs later x is = ap (λ (l : List X). take 1 l) is

drop-given : {X : Type 0} (xs later : List X) (x : X) → xs ≡ x ∷ later → drop 1 xs ≡ later
drop-given {X} xs later x is = ap (λ (l : List X). drop 1 l) is

module _ {X : Type 0} (i : ℕ) (xs coming later : List X) (x : X) (left : coming ≡ drop i xs) (given : coming ≡ x ∷ later) where
  pub one_taken : take (i + 1) xs ≡ take i xs ++ (x ∷ [])
  one_taken = take-next i xs ∙ ap (λ (l : List X). take i xs ++ l) (take-given (drop i xs) later x (sym left ∙ given))

  pub one_left : later ≡ drop (i + 1) xs
  one_left = sym (drop-given coming later x given) ∙ ap (λ (l : List X). drop 1 l) left ∙ sym (drop-next i xs)

pub one_among : {X : Type 0} (i most : ℕ) (xs coming later : List X) (x : X) → i < most → coming ≡ drop i xs → coming ≡ x ∷ later
    → take most xs ≡ take i xs ++ ((x ∷ []) ++ take (most - i - 1) (drop 1 (drop i xs)))
one_among {X} i most xs coming later x within left given =
    let rest = most - i - 1 in
    let all : most ≡ i + (1 + rest) = omega (arith, within) in
    ap (λ (n : ℕ). take n xs) all ∙ take-among i rest xs
    ∙ ap (λ (l : List X). take i xs ++ (l ++ take rest (drop 1 (drop i xs)))) (take-given (drop i xs) later x (sym left ∙ given))

-- where there isn't enough, all that were asked for are played
pub all_ran : {S : Type 0} (plays : List Cycle → S → S → Type 0) (done : S → Bool → Type 0) (coming : List Cycle) (most count : ℕ)
    (old new : S) → PlaysUpTo plays done coming most count old new → (done new true → ⊥) → count ≡ most
all_ran plays done coming most count old new up short = by (ltb count most) refl
  where
    by : (b : Bool) → ltb count most ≡ b → count ≡ most
    by true less = absurd (short (up.enough (ltb-true count most less)))
    by false more = let a = ltb-false count most more in let w = up.within in omega (arith, a, w)
