-- Facts on truth values that the standard library's lemmas don't have.
use Rattle.std.proofs.Common.{◌≡◌, ℕ, ◌+◌, ◌<◌, ◌≤◌, ◌==◌, nat_lt, Bool, true, false, ◌||◌, cond, refl, ap, inl, inr, ◌⊎◌, arith, lt-ltb, le-ltb, eq-eqb, ne_eqb}
use mathlib.Core.Logic.{dite}
use native.Mathlib.Decide.{ℕ_discrete, dec_le}

-- which way a choice went
pub chosen : {A : Type 0} (b : Bool) (x y z : A) → cond b x y ≡ z → ((b ≡ true) × (x ≡ z)) ⊎ ((b ≡ false) × (y ≡ z))
chosen true x y z e = inl (refl, e)
chosen false x y z e = inr (refl, e)

-- what counts one thing is at most one
pub at_most_one : (b : Bool) (n : ℕ) → n ≡ cond {A = ℕ} b 1 0 → n ≤ 1
at_most_one true n e = omega (arith, e)
at_most_one false n e = omega (arith, e)

-- what was there or is new
pub new_or_there : (is_new there : Bool) → cond is_new true there ≡ (there || is_new)
new_or_there true true = refl
new_or_there true false = refl
new_or_there false true = refl
new_or_there false false = refl

-- a number below another counts one
pub below_yes : (a b : ℕ) → a < b → cond {A = ℕ} (nat_lt a b) 1 0 ≡ 1
below_yes a b h = ap (λ x. cond {A = ℕ} x 1 0) (lt-ltb a b h)

-- and one that isn't below counts nothing
pub below_no : (a b : ℕ) → b ≤ a → cond {A = ℕ} (nat_lt a b) 1 0 ≡ 0
below_no a b h = ap (λ x. cond {A = ℕ} x 1 0) (le-ltb a b h)

-- the numbers below one, and the number itself, are those below one more
pub below_one_more : (n made : ℕ)
    → cond {A = ℕ} (nat_lt n made) 1 0 + cond {A = ℕ} (made == n) 1 0 ≡ cond {A = ℕ} (nat_lt n (made + 1)) 1 0
below_one_more n made =
    dite (ℕ_discrete made n)
    (λ e.
    let it : cond {A = ℕ} (made == n) 1 0 ≡ 1 = ap (λ x. cond {A = ℕ} x 1 0) (eq-eqb made n e) in
    omega (arith, below_no n made (omega arith), below_yes n (made + 1) (omega arith)))
    (λ ne.
    let other : cond {A = ℕ} (made == n) 1 0 ≡ 0 = ap (λ x. cond {A = ℕ} x 1 0) (ne_eqb made n ne) in
    dite (dec_le made n) (λ above. omega (arith, below_no n made above, below_no n (made + 1) (omega arith)))
    (λ below. omega (arith, below_yes n made (omega arith), below_yes n (made + 1) (omega arith))))
