-- The names of a drill's nets: of digits, not too long, and each its own.
use Rattle.std.proofs.Common.{◌≡◌, ℕ, zero, suc, ◌+◌, ◌≤◌, ◌<◌, Bool, true, false, List, [], ◌∷◌, length, refl, arith, inl, inr}
use Rattle.std.specs.Prelude.{decimal}
use Rattle.std.specs.List.{list_all}
use Rattle.std.specs.Str.{bytes_eq}
use Rattle.std.proofs.lemmas.Bool.{cases_Bool, and_from}
use Rattle.std.proofs.lemmas.Fmt.{decimal_injective, length-decimal-le}
use Rattle.std.proofs.lemmas.Slice.Eq.{bytes_eq-Decides}
use Rattle.text_bytes.proofs.DigitLemmas.{decimal_all}
use Rattle.drill_fine.specs.Nets.{net_at}

-- what holds of `d`, `f` and each digit holds of the bytes of a net's name
pub net_all : (test : ℕ → Bool) → test 100 ≡ true → test 102 ≡ true → ((d : ℕ) → d < 10 → test (48 + d) ≡ true) → (k : ℕ)
    → k ≤ 1000 → list_all test (net_at k) ≡ true
net_all test d f each zero few = and_from (test 100) true d refl
net_all test d f each (suc k) few =
    and_from (test 102) (list_all test (decimal (suc k))) f (decimal_all test each (suc k))

-- a name is there, and not too long
pub net_length : (k : ℕ) → k ≤ 1000 → (0 < length (net_at k)) × (length (net_at k) ≤ 21)
net_length zero few = (omega arith, omega arith)
net_length (suc k) few =
    let long = length-decimal-le 20 (suc k) (omega arith) (omega (arith, few)) (omega (arith, few)) in
    (omega arith, omega (arith, long))

-- another number, another name
pub net_injective : (a b : ℕ) → a ≤ 1000 → b ≤ 1000 → net_at a ≡ net_at b → a ≡ b
net_injective zero zero few some e = refl
net_injective zero (suc b) few some e = absurd (clash (decimal (suc b)) e)
  where
    clash : (ds : List ℕ) → ◌≡◌ {A = List ℕ} (100 ∷ []) (102 ∷ ds) → ⊥
    clash ds e = let same : ◌≡◌ {A = ℕ} 100 102 = cc in omega (arith, same)
net_injective (suc a) zero few some e = absurd (clash (decimal (suc a)) e)
  where
    clash : (ds : List ℕ) → ◌≡◌ {A = List ℕ} (102 ∷ ds) (100 ∷ []) → ⊥
    clash ds e = let same : ◌≡◌ {A = ℕ} 102 100 = cc in omega (arith, same)
net_injective (suc a) (suc b) few some e =
    decimal_injective (suc a) (suc b) (omega (arith, few)) (omega (arith, some)) (tail (decimal (suc a)) (decimal (suc b)) e)
  where
    tail : (xs ys : List ℕ) → ◌≡◌ {A = List ℕ} (102 ∷ xs) (102 ∷ ys) → xs ≡ ys
    tail xs ys e = cc

-- as tests
pub net_same : (k : ℕ) → bytes_eq (net_at k) (net_at k) ≡ true
net_same k = (bytes_eq-Decides (net_at k) (net_at k)).1 refl

pub net_differs : (a b : ℕ) → a ≤ 1000 → b ≤ 1000 → (a ≡ b → ⊥) → bytes_eq (net_at a) (net_at b) ≡ false
net_differs a b few some other = elim (cases_Bool (bytes_eq (net_at a) (net_at b))) [
  | inl e ↦ absurd (other (net_injective a b few some ((bytes_eq-Decides (net_at a) (net_at b)).0 e)))
  | inr e ↦ e
]
