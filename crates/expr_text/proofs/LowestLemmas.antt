-- The fraction that is made by dividing by the greatest common divisor is in lowest terms.
use Rattle.std.proofs.Common.{◌≡◌, ◌≢◌, lit<, ℕ, zero, suc, ℤ, pos, negsuc, ◌*◌, ◌/◌, ◌<◌, ◌≤◌, ◌^◌, ◌<ℤ◌, ◌*ℤ◌, neg_ℤ, unsigned_abs, FitsSigned, to_z, of_z, Bool, true, false, cond, Result, Ok, Err, refl, sym, ◌∙◌, ap, subst, arith}
use Rattle.std.specs.Prelude.{int_div, int_lt, nat_lt, IfOk}
use Rattle.std.specs.Int.{IsGcd, w128}
use Rattle.std.proofs.Math.Nat.{div-le_self, one-dvd}
use Rattle.std.proofs.lemmas.Nat.Gcd.{dvd_refl}
use Rattle.std.proofs.lemmas.Nat.{le-div, mul-le}
use Rattle.std.proofs.lemmas.Int.{ints, to_z-of_z, fits_signed_from_abs, unsigned_abs-mul}
use Rattle.expr_text.specs.declared.fault.ExprFault.{ExprFault}
use Rattle.expr_text.specs.declared.fault.ExprFault.TheVariants.{OutOfRange}
use Rattle.expr_text.specs.Range.{within, divisor_of}
use Rattle.expr_text.specs.Ratio.{Ratio, IsInLowestTerms, common_of, lowest, lowest_signed}
use Rattle.expr_text.proofs.DivisorLemmas.{divisor_of-is, divisor_of-bounds, quotients-in_lowest}

-- a number and its negative are equally far from 0
pub unsigned_abs-neg : (n : ℕ) → unsigned_abs (neg_ℤ (pos n)) ≡ n
unsigned_abs-neg zero = refl
unsigned_abs-neg (suc n) = refl

-- how far a quotient is from 0
pub unsigned_abs-div : (z : ℤ) (g : ℕ) → unsigned_abs (int_div z (pos g)) ≡ unsigned_abs z / g
unsigned_abs-div (pos a) g = refl
unsigned_abs-div (negsuc a) g = unsigned_abs-neg (suc a / g)

-- a positive number divided by what is positive and no greater is positive
pub div-positive : (z : ℤ) (g : ℕ) → pos 0 <ℤ z → 0 < g → g ≤ unsigned_abs z → pos 0 <ℤ int_div z (pos g)
div-positive (pos b) g h k m = let one = le-div 1 b g k (omega arith) in omega (arith, ints)
div-positive (negsuc b) g h k m = absurd (omega (arith, ints))

-- a positive number is away from 0
pub abs-positive : (z : ℤ) → pos 0 <ℤ z → 0 < unsigned_abs z
abs-positive (pos b) h = omega (arith, ints)
abs-positive (negsuc b) h = absurd (omega (arith, ints))

-- a quotient is no further from 0
quotient_fits : (z : ℤ) (g : ℕ) → unsigned_abs z < 2 ^ 127 → unsigned_abs (int_div z (pos g)) < 2 ^ 127
quotient_fits z g h = let e = unsigned_abs-div z g in let l = div-le_self (unsigned_abs z) g in omega arith

-- both quotients by the greatest common divisor make a fraction in lowest terms
pub lowest-is : (a b : ℤ) → pos 0 <ℤ b → unsigned_abs a < 2 ^ 127 → unsigned_abs b < 2 ^ 127 →
    IsInLowestTerms (int_div a (common_of a b)) (int_div b (common_of a b))
lowest-is a b h k l =
    let g = divisor_of (unsigned_abs a) (unsigned_abs b) in
    let bounds = divisor_of-bounds (unsigned_abs a) (unsigned_abs b) (abs-positive b h) in
    let alone = quotients-in_lowest _ _ g bounds.0 (divisor_of-is (unsigned_abs a) (unsigned_abs b)) in
    record {
      positive = div-positive b g h bounds.0 bounds.1;
      above_fits = quotient_fits a g k;
      below_fits = quotient_fits b g l;
      lowest = subst (λ n. IsGcd n (unsigned_abs (int_div b (pos g))) 1) (sym (unsigned_abs-div a g))
          (subst (λ n. IsGcd (unsigned_abs a / g) n 1) (sym (unsigned_abs-div b g)) alone);
    }

-- a positive number of a signed type's range
pub abs-fits : (z : ℤ) → pos 0 <ℤ z → FitsSigned w128 z → unsigned_abs z < 2 ^ 127
abs-fits (pos b) h k = k.sfits
abs-fits (negsuc b) h k = absurd (omega (arith, ints))

-- the divisor that the code finds, from the numbers' distances from 0
pub common-is : (a b : ℤ) (x y g : ℕ) → FitsSigned w128 a → FitsSigned w128 b → x ≡ unsigned_abs (to_z w128 (of_z w128 a)) →
    y ≡ unsigned_abs (to_z w128 (of_z w128 b)) → g ≡ divisor_of x y → g ≡ divisor_of (unsigned_abs a) (unsigned_abs b)
common-is a b x y g fa fb hx hy hg =
    let ea = to_z-of_z w128 a fa in
    let eb = to_z-of_z w128 b fb in
    cc

-- the quotient that the code finds
pub quotient-is : (a q : ℤ) (g k : ℕ) → FitsSigned w128 a → FitsSigned w128 q
    → q ≡ int_div (to_z w128 (of_z w128 a)) (pos g) →
    g ≡ k → to_z w128 (of_z w128 q) ≡ int_div a (pos k)
quotient-is a q g k fa fq hq hg =
    let ea = to_z-of_z w128 a fa in
    let eq = to_z-of_z w128 q fq in
    cc

-- the signed fraction, by the test of the divisor
signed-by : (a b : ℤ) (t : Bool) → int_lt b (pos 0) ≡ t → lowest_signed a b ≡ cond t (lowest (neg_ℤ a) (neg_ℤ b)) (lowest a b)
unfolding lowest_signed
signed-by a b t e = ap (λ (x : Bool). cond x (lowest (neg_ℤ a) (neg_ℤ b)) (lowest a b)) e

-- a negative divisor
pub signed-negative : (a b x y : ℤ) (r : Ratio) → FitsSigned w128 a → FitsSigned w128 b → FitsSigned w128 x
    → FitsSigned w128 y →
    int_lt (to_z w128 (of_z w128 b)) (pos 0) ≡ true → x ≡ neg_ℤ (to_z w128 (of_z w128 a))
    → y ≡ neg_ℤ (to_z w128 (of_z w128 b)) →
    r ≡ lowest (to_z w128 (of_z w128 x)) (to_z w128 (of_z w128 y)) → r ≡ lowest_signed a b
signed-negative a b x y r fa fb fx fy t hx hy hr =
    let ea = to_z-of_z w128 a fa in
    let eb = to_z-of_z w128 b fb in
    let ex = to_z-of_z w128 x fx in
    let ey = to_z-of_z w128 y fy in
    let test : int_lt b (pos 0) ≡ true = ap (λ (z : ℤ). int_lt z (pos 0)) (sym eb) ∙ t in
    let is = signed-by a b true test in
    let same : r ≡ lowest (neg_ℤ a) (neg_ℤ b) = cc in
    same ∙ sym is

-- a divisor that isn't negative
pub signed-positive : (a b : ℤ) (r : Ratio) → FitsSigned w128 a → FitsSigned w128 b
    → int_lt (to_z w128 (of_z w128 b)) (pos 0) ≡ false →
    r ≡ lowest (to_z w128 (of_z w128 a)) (to_z w128 (of_z w128 b)) → r ≡ lowest_signed a b
signed-positive a b r fa fb t hr =
    let ea = to_z-of_z w128 a fa in
    let eb = to_z-of_z w128 b fb in
    let test : int_lt b (pos 0) ≡ false = ap (λ (z : ℤ). int_lt z (pos 0)) (sym eb) ∙ t in
    let is = signed-by a b false test in
    let same : r ≡ lowest a b = cc in
    same ∙ sym is

-- the product of positive numbers is positive
pub mul-positive : (a b : ℤ) → pos 0 <ℤ a → pos 0 <ℤ b → pos 0 <ℤ (a *ℤ b)
mul-positive (pos a) (pos b) h k = above a b (omega (arith, ints)) (omega (arith, ints))
  where
    above : (a b : ℕ) → 0 < a → 0 < b → pos 0 <ℤ (pos a *ℤ pos b)
    above a b h k = let l = mul-le 1 1 a b h k in omega (arith, ints)
mul-positive (negsuc a) b h k = absurd (omega (arith, ints))
mul-positive (pos a) (negsuc b) h k = absurd (omega (arith, ints))

-- a positive number stays positive where it is in range
within-positive : (z : ℤ) → pos 0 <ℤ z → IfOk (within z) (λ x. pos 0 <ℤ x)
within-positive z h =
    elim (nat_lt (unsigned_abs z) (2 ^ 127)) as
    (λ t. IfOk {E = ExprFault} (cond t (Ok z) (Err OutOfRange)) (λ x. pos 0 <ℤ x)) [ true ↦ h | false ↦ tt ]

-- the product of two denominators is positive where it is in range
pub denominator-positive : (a b : ℤ) (r : Result ℤ ExprFault) → pos 0 <ℤ a → pos 0 <ℤ b → unsigned_abs a < 2 ^ 127
    → unsigned_abs b < 2 ^ 127 →
    r ≡ within (to_z w128 (of_z w128 a) *ℤ to_z w128 (of_z w128 b)) → IfOk r (λ x. pos 0 <ℤ x)
denominator-positive a b r ha hb fa fb e =
    let ea = to_z-of_z w128 a (fits_signed_from_abs w128 a fa) in
    let eb = to_z-of_z w128 b (fits_signed_from_abs w128 b fb) in
    let is : r ≡ within (a *ℤ b) =
    e ∙ ap (λ (z : ℤ). within (z *ℤ to_z w128 (of_z w128 b))) ea ∙ ap (λ (z : ℤ). within (a *ℤ z)) eb in
    let P : Result ℤ ExprFault → Type 0 = λ x. IfOk x (λ n. pos 0 <ℤ n) in
    subst P (sym is) (within-positive (a *ℤ b) (mul-positive a b ha hb))

-- a number that isn't 0 is away from 0
abs-nonzero : (z : ℤ) → z ≢ pos 0 → 0 < unsigned_abs z
abs-nonzero (pos zero) h = absurd (h refl)
abs-nonzero (pos (suc n)) h = omega arith
abs-nonzero (negsuc n) h = omega arith

-- the product of a positive number and one that isn't 0 isn't 0
pub mul-nonzero : (a b : ℤ) → pos 0 <ℤ a → b ≢ pos 0 → a *ℤ b ≢ pos 0
mul-nonzero a b h k e =
    let none : unsigned_abs a * unsigned_abs b ≡ 0 = sym (unsigned_abs-mul a b) ∙ ap unsigned_abs e in
    let some = mul-le 1 1 (unsigned_abs a) (unsigned_abs b) (abs-positive a h) (abs-nonzero b k) in
    omega arith

-- a number that isn't 0 stays so where it is in range
within-nonzero : (z : ℤ) → z ≢ pos 0 → IfOk (within z) (λ x. x ≢ pos 0)
within-nonzero z h =
    elim (nat_lt (unsigned_abs z) (2 ^ 127)) as
    (λ t. IfOk {E = ExprFault} (cond t (Ok z) (Err OutOfRange)) (λ x. x ≢ pos 0)) [ true ↦ h | false ↦ tt ]

-- the product of a denominator and a numerator that isn't 0 isn't 0 where it is in range
pub divisor-nonzero : (a b : ℤ) (r : Result ℤ ExprFault) → pos 0 <ℤ a → b ≢ pos 0 → unsigned_abs a < 2 ^ 127
    → unsigned_abs b < 2 ^ 127 →
    r ≡ within (to_z w128 (of_z w128 a) *ℤ to_z w128 (of_z w128 b)) → IfOk r (λ x. x ≢ pos 0)
divisor-nonzero a b r ha hb fa fb e =
    let ea = to_z-of_z w128 a (fits_signed_from_abs w128 a fa) in
    let eb = to_z-of_z w128 b (fits_signed_from_abs w128 b fb) in
    let is : r ≡ within (a *ℤ b) =
    e ∙ ap (λ (z : ℤ). within (z *ℤ to_z w128 (of_z w128 b))) ea ∙ ap (λ (z : ℤ). within (a *ℤ z)) eb in
    let P : Result ℤ ExprFault → Type 0 = λ x. IfOk x (λ n. n ≢ pos 0) in
    subst P (sym is) (within-nonzero (a *ℤ b) (mul-nonzero a b ha hb))

-- a whole number is a fraction in lowest terms
pub whole-is : (n : ℤ) → unsigned_abs n < 2 ^ 127 → IsInLowestTerms (to_z w128 (of_z w128 n)) (pos 1)
whole-is n h =
    let e = to_z-of_z w128 n (fits_signed_from_abs w128 n h) in
    rw e (record {
      positive = omega (arith, ints);
      above_fits = h;
      below_fits = lit< tt;
      lowest = (one-dvd (unsigned_abs n), dvd_refl 1, λ d p q. q);
    })
