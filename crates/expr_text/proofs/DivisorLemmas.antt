-- What Euclid's remainders give: the greatest common divisor; and what is left when it is divided away.
use Rattle.std.proofs.Common.{◌≡◌, ℕ, zero, suc, ◌*◌, ◌/◌, ◌%◌, ◌<◌, ◌≤◌, refl, sym, ◌∙◌, ap, subst, arith}
use Rattle.std.specs.Int.{IsGcd, ◌∣◌}
use Rattle.std.proofs.lemmas.Nat.{mod_below}
use Rattle.std.proofs.lemmas.Nat.Gcd.{IsGcd-from_zero, IsGcd-from_mod, le_of_dvd, dvd_refl}
use Rattle.std.proofs.Math.Nat.{mul_assoc, mul-zero, mul-le-mul_left, mul-div_cancel', dvd-mul_right, one-dvd, eq-zero_of_zero-dvd}
use Rattle.expr_text.specs.Range.{remainders, divisor_of}

-- more steps than the second number change nothing
pub remainders-steps : (m n a b : ℕ) → b ≤ m → b ≤ n → remainders m a b ≡ remainders n a b
unfolding remainders
remainders-steps zero zero a b h k = refl
remainders-steps zero (suc n) a zero h k = refl
remainders-steps zero (suc n) a (suc b) h k = absurd (omega arith)
remainders-steps (suc m) zero a zero h k = refl
remainders-steps (suc m) zero a (suc b) h k = absurd (omega arith)
remainders-steps (suc m) (suc n) a zero h k = refl
remainders-steps (suc m) (suc n) a (suc b) h k =
    let below = mod_below a (suc b) (omega arith) in
    remainders-steps m n (suc b) (a % suc b) (omega arith) (omega arith)

-- one step of Euclid
pub divisor_of-mod : (a b : ℕ) → 0 < b → divisor_of b (a % b) ≡ divisor_of a b
unfolding divisor_of remainders
divisor_of-mod a zero h = absurd (omega arith)
divisor_of-mod a (suc b) h =
    let below = mod_below a (suc b) (omega arith) in
    remainders-steps (a % suc b) b (suc b) (a % suc b) (omega arith) (omega arith)

-- the last step of Euclid
pub divisor_of-zero : (a b : ℕ) → b ≡ 0 → divisor_of a b ≡ a
unfolding divisor_of remainders
divisor_of-zero a zero e = refl
divisor_of-zero a (suc b) e = absurd (omega arith)

-- the remainders end at a greatest common divisor
pub remainders-is : (n a b : ℕ) → b ≤ n → IsGcd a b (remainders n a b)
unfolding remainders
remainders-is zero a b h = IsGcd-from_zero a b (omega arith)
remainders-is (suc n) a zero h = IsGcd-from_zero a zero refl
remainders-is (suc n) a (suc b) h =
    let below = mod_below a (suc b) (omega arith) in
    IsGcd-from_mod a (suc b) _ (remainders-is n (suc b) (a % suc b) (omega arith))

-- it is the greatest common divisor
pub divisor_of-is : (a b : ℕ) → IsGcd a b (divisor_of a b)
unfolding divisor_of
divisor_of-is a b = remainders-is b a b (omega arith)

-- it is positive and at most the second number, where that is positive
pub divisor_of-bounds : (a b : ℕ) → 0 < b → (0 < divisor_of a b) × (divisor_of a b ≤ b)
divisor_of-bounds a b h =
    let most = le_of_dvd h (divisor_of-is a b).1 in
    (pos_of_divides (divisor_of a b) b h (divisor_of-is a b).1, most)
  where
    pos_of_divides : (d n : ℕ) → 0 < n → d ∣ n → 0 < d
    pos_of_divides zero n h k = absurd (omega (arith, eq-zero_of_zero-dvd k))
    pos_of_divides (suc d) n h k = omega arith

-- what divides a quotient, times the divisor, divides the dividend
pub times-divides : (g d a : ℕ) → g ∣ a → d ∣ (a / g) → (g * d) ∣ a
times-divides g d a h k =
    let q = a / g / d in
    let whole : (g * d) * q ≡ a = mul_assoc g d q ∙ ap (λ n. g * n) (mul-div_cancel' d k) ∙ mul-div_cancel' g h in
    subst (λ n. (g * d) ∣ n) whole (dvd-mul_right (g * d) q)

-- only 1 times a positive number divides that number
pub one-of-multiple : (g d : ℕ) → 0 < g → (g * d) ∣ g → d ≡ 1
one-of-multiple g zero h k = absurd (omega (arith, eq-zero_of_zero-dvd (subst (λ n. n ∣ g) (mul-zero g) k)))
one-of-multiple g (suc zero) h k = refl
one-of-multiple g (suc (suc d)) h k = absurd (omega (arith, le_of_dvd h k, mul-le-mul_left g (two_le d)))
  where
    two_le : (d : ℕ) → 2 ≤ suc (suc d)
    two_le d = omega arith

-- the quotients by the greatest common divisor have no common divisor but 1
pub quotients-in_lowest : (a b g : ℕ) → 0 < g → IsGcd a b g → IsGcd (a / g) (b / g) 1
quotients-in_lowest a b g h is = (
  one-dvd (a / g),
  one-dvd (b / g),
  λ d p q.
      let same = one-of-multiple g d h (is.2 (g * d) (times-divides g d a is.0 p) (times-divides g d b is.1 q)) in
      subst (λ n. n ∣ 1) (sym same) (dvd_refl 1),
)
